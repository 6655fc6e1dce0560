use Rattle.std.proofs.Common.{◌≡◌, ◌+◌, drop, map}
use Rattle.bz_tree.specs.Rows.{part_view}
use Rattle.bz_attribute.specs.RowPlaces.{arguments_begin}
use Rattle.bz_attribute.proofs.place.arguments_begin.Given as goal

abbrev pub invariant-loop-i : goal.invariant-loop-i
invariant-loop-i l = arguments_begin (map part_view l.parts) ≡ l.i + arguments_begin (map part_view (drop l.i l.parts))
