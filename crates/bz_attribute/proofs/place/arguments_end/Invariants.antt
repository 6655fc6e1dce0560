use Rattle.std.proofs.Common.{◌≡◌, ◌≤◌, false, length, drop, map}
use Rattle.std.specs.List.{list_any}
use Rattle.bz_tree.specs.Rows.{part_view}
use Rattle.bz_attribute.specs.private.Parts.{is_stop}
use Rattle.bz_attribute.proofs.place.arguments_end.Given as goal

abbrev pub invariant-loop-at : goal.invariant-loop-at
invariant-loop-at l = record {
  within : l.at ≤ length l.parts;
  none : list_any is_stop (map part_view (drop l.at l.parts)) ≡ false;
}

abbrev pub decreases-loop-at : goal.decreases-loop-at
decreases-loop-at l = l.at
