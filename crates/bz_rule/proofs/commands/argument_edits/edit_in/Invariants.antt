use Rattle.std.proofs.Common.{◌≡◌, ◌≤◌, ◌-◌, List, is_some, length, map, drop}
use Rattle.bz_tree.specs.Tree.{Segment, segs_of}
use Rattle.bz_tree.specs.Rows.{part_view, segs_parts}
use Rattle.bz_rule.specs.private.ArgumentEdits.{changes_by, edit_by}
use Rattle.bz_rule.specs.private.StringEdits.{IsUpTo, written_to}
use Rattle.bz_rule.proofs.EachArgument.{HasEditedSome}
use Rattle.bz_rule.proofs.commands.argument_edits.edit_in.Given as goal

abbrev pub invariant-loop-at : goal.invariant-loop-at
invariant-loop-at l = record {
  within : l.at ≤ length l.front;
  up_to : IsUpTo l.written l.at;
  left : (args : List Segment) → drop l.fn.place.from (map part_view l.front) ≡ segs_parts (segs_of args)
      → HasEditedSome (edit_by l.edit) (changes_by l.edit) args (map part_view l.front) l.fn.place.from l.at (is_some l.written) (written_to l.written (map part_view l.new.items) (map part_view l.front) l.at);
}

abbrev pub decreases-loop-at : goal.decreases-loop-at
decreases-loop-at l = length l.front - l.at
