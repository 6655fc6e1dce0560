use Rattle.std.proofs.Common.{◌-◌, ◌≤◌, length, map}
use Rattle.bz_tree.specs.Rows.{part_view}
use Rattle.bz_label.specs.Labels.{Package}
use Rattle.bz_attribute.specs.private.Parts.{HasSought}
use Rattle.bz_attribute.proofs.element_search.pass_apart.Given as goal

abbrev pub invariant-loop-text : goal.invariant-loop-text
invariant-loop-text l = record {
  within : l.at ≤ length l.parts;
  after : l.from ≤ l.at;
  sought : (home : Package) → HasSought home l.word (map part_view l.parts) l.from l.at;
}

abbrev pub decreases-loop-text : goal.decreases-loop-text
decreases-loop-text l = length l.parts - l.at
