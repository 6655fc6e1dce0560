use Rattle.std.proofs.Common.{◌≡◌, ◌++◌, drop, map}
use Rattle.bz_tree.specs.View.{texts}
use Rattle.bz_tree.specs.Rows.{above, part_view}
use Rattle.bz_tree.proofs.row.tree_parts.push_above.Given as goal

abbrev pub invariant-loop-comment : goal.invariant-loop-comment
invariant-loop-comment g l = map part_view l.parts.items ++ map above (texts (drop l.comment-index l.comments)) ≡ map part_view l.initial.parts.items ++ map above (texts l.comments)
