use Rattle.std.proofs.Common.{◌≡◌, [], map, take}
use Rattle.bz_passes.proofs.kept.nothing_told.Given as goal

abbrev pub invariant-loop-command : goal.invariant-loop-command
invariant-loop-command g l = l.logs.items ≡ map (λ command. []) (take l._command-index l.commands)
