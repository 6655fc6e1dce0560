use Rattle.std.proofs.Common.{◌≡◌, ◌++◌, map, take}
use Rattle.bz_label.specs.Endings.{ending}
use Rattle.bz_engine.proofs.names.add_listed.Given as goal

abbrev pub invariant-loop-value : goal.invariant-loop-value
invariant-loop-value l = l.ends.items ≡ l.fn.ends.items ++ map ending (take l.value-index l.values)
