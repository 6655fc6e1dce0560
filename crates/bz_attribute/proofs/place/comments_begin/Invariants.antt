use Rattle.std.proofs.Common.{◌≡◌, ◌≤◌, true, length, drop, map}
use Rattle.std.specs.List.{list_all}
use Rattle.bz_tree.specs.Rows.{part_view}
use Rattle.bz_attribute.specs.private.Parts.{is_above}
use Rattle.bz_attribute.proofs.place.comments_begin.Given as goal

abbrev pub invariant-loop-at : goal.invariant-loop-at
invariant-loop-at l = record {
  within : l.at ≤ length l.parts;
  all : list_all is_above (map part_view (drop l.at l.parts)) ≡ true;
}

abbrev pub decreases-loop-at : goal.decreases-loop-at
decreases-loop-at l = l.at
