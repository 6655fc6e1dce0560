use Rattle.std.proofs.Common.{◌≡◌, ◌≤◌, ◌-◌, List, length, map, drop}
use Rattle.bz_tree.specs.Tree.{Item}
use Rattle.bz_tree.specs.Rows.{RowPart, part_view}
use Rattle.bz_attribute.specs.Elements.{value_parts}
use Rattle.bz_rule.specs.private.StringEdits.{means}
use Rattle.bz_rule.proofs.EmptiedLists.{AreGone}
use Rattle.bz_rule.proofs.commands.element_edits.loses_all.Given as goal

abbrev pub invariant-loop-element : goal.invariant-loop-element
invariant-loop-element l = record {
  order : l.first ≤ l.at;
  within : l.at ≤ length l.parts;
  left : (nodes : List Item) (after : List RowPart) → drop l.value (map part_view l.parts) ≡ value_parts nodes after → AreGone (means l.edit) nodes after (map part_view l.parts) l.first l.at;
}

abbrev pub decreases-loop-element : goal.decreases-loop-element
decreases-loop-element l = length l.parts - l.at
