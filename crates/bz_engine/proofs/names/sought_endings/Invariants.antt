use Rattle.std.proofs.Common.{◌≡◌, map, take}
use Rattle.bz_label.specs.Endings.{ending}
use Rattle.bz_engine.specs.private.Sealed.{asked_values}
use Rattle.bz_engine.proofs.names.sought_endings.Given as goal

abbrev pub invariant-loop-pass : goal.invariant-loop-pass
invariant-loop-pass l = l.ends.items ≡ map ending (asked_values (take l.pass-index l.passes))
