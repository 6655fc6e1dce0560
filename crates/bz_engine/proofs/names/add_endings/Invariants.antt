use Rattle.std.proofs.Common.{◌≡◌, ◌++◌, map, take}
use Rattle.std.specs.Prelude.{flat_map}
use Rattle.bz_label.specs.Endings.{ending}
use Rattle.bz_rule.specs.Sealed.{values_sought}
use Rattle.bz_engine.proofs.names.add_endings.Given as goal

abbrev pub invariant-loop-command : goal.invariant-loop-command
invariant-loop-command l = l.ends.items ≡ l.fn.ends.items ++ map ending (flat_map values_sought (take l.command-index l.commands))
