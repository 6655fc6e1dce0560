use Rattle.std.proofs.Common.{◌-◌, ◌≤◌, length, map}
use Rattle.bz_tree.specs.Rows.{part_view}
use Rattle.bz_attribute.specs.private.Parts.{HasSought}
use Rattle.bz_attribute.proofs.element_search.first_equal.Given as goal

abbrev pub invariant-loop-element : goal.invariant-loop-element
invariant-loop-element l = record {
  within : l.at ≤ length l.parts;
  sought : HasSought l.home l.word (map part_view l.parts) l.from l.at;
}

abbrev pub decreases-loop-element : goal.decreases-loop-element
decreases-loop-element l = length l.parts - l.at
