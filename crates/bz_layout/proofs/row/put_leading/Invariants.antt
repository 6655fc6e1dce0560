use Rattle.std.proofs.Common.{◌≡◌, ◌++◌, drop, map}
use Rattle.bz_tree.specs.Rows.{part_view}
use Rattle.bz_layout.specs.Pieces.{bytes_of, comment_lines}
use Rattle.bz_layout.specs.private.RowLayout.{IsBegunBy, leading}
use Rattle.bz_layout.proofs.row.put_leading.Given as goal

abbrev pub invariant-loop-part : goal.invariant-loop-part
invariant-loop-part l = record {
  text : l.out.items ++ bytes_of (comment_lines (leading (map part_view (drop l.part-index l.parts)))) ≡ l.fn.out.items ++ bytes_of (comment_lines (leading (map part_view l.parts)));
  begun : IsBegunBy l.fn.out.items l.out.items;
}
