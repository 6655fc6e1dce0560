use Rattle.std.proofs.Common.{◌≡◌, map, take}
use Rattle.bz_passes.specs.Exchange.{no_slot}
use Rattle.bz_passes.proofs.kept.nothing_kept.Given as goal

abbrev pub invariant-loop-pass : goal.invariant-loop-pass
invariant-loop-pass g l = l.kept.items ≡ map no_slot (take l.pass-index l.passes)
