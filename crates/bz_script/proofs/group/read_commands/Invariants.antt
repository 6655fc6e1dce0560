use Rattle.std.proofs.Common.{◌≡◌, ◌++◌, map, drop}
use Rattle.bz_script.specs.Groups.{commands_of}
use Rattle.bz_script.proofs.group.read_commands.Given as goal

abbrev pub invariant-loop-word : goal.invariant-loop-word
invariant-loop-word l = l.commands.items ++ commands_of (map (λ word. word.now) (drop l.word-index l.words)) ≡ commands_of (map (λ word. word.now) l.words)
