use Rattle.std.proofs.Common.{◌≤◌, ◌-◌, length, map}
use Rattle.bz_tree.specs.Rows.{part_view}
use Rattle.bz_attribute.specs.RowPlaces.{arguments_begin}
use Rattle.bz_attribute.proofs.ArgumentWalk.{AreUnnamed}
use Rattle.bz_attribute.proofs.finder.find_argument.Given as goal

abbrev pub invariant-loop-at : goal.invariant-loop-at
invariant-loop-at l = record {
  within : l.at ≤ length l.parts;
  begun : arguments_begin (map part_view l.parts) ≤ l.at;
  unnamed : AreUnnamed l.name (map part_view l.parts) l.at;
}

abbrev pub decreases-loop-at : goal.decreases-loop-at
decreases-loop-at l = length l.parts - l.at
