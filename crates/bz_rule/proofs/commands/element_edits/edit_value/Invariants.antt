use Rattle.std.proofs.Common.{◌≡◌, ◌≤◌, ◌-◌, List, is_some, length, map, drop}
use Rattle.bz_tree.specs.Tree.{Item}
use Rattle.bz_tree.specs.Rows.{RowPart, part_view}
use Rattle.bz_attribute.specs.Elements.{value_parts}
use Rattle.bz_rule.proofs.ElementEdits.{HasEditedFront}
use Rattle.bz_rule.specs.private.StringEdits.{IsUpTo, literal_of, means, written_to}
use Rattle.bz_rule.proofs.commands.element_edits.edit_value.Given as goal

abbrev pub invariant-loop-element : goal.invariant-loop-element
invariant-loop-element l = record {
  within : l.at ≤ length l.parts;
  up_to : IsUpTo l.written l.at;
  left : (nodes : List Item) (after : List RowPart) → drop l.value (map part_view l.parts) ≡ value_parts nodes after
      → HasEditedFront (means l.edit) (literal_of l.edit) nodes after (map part_view l.parts) l.at (is_some l.initial.written) (is_some l.written)
      (written_to l.initial.written (map part_view l.initial.out.items) (map part_view l.parts) l.value) (written_to l.written (map part_view l.out.items) (map part_view l.parts) l.at);
}

abbrev pub decreases-loop-element : goal.decreases-loop-element
decreases-loop-element l = length l.parts - l.at
