use Rattle.bz_token.specs.Batches.{left}
use Rattle.bz_tree.proofs.Rows.RowBatches.{IsRowSoFar}
use Rattle.bz_tree.proofs.row.text_row.row_of_text.Given as goal

abbrev pub invariant-loop-reader : goal.invariant-loop-reader
invariant-loop-reader l = IsRowSoFar l.first_line l.max_depth l.fn.text l.reader l.walk l.first l.last l.top l.bottom

abbrev pub decreases-loop-reader : goal.decreases-loop-reader
decreases-loop-reader l = left l.reader
