use Rattle.std.proofs.Common.{◌∙◌, ap, map}
use Rattle.std.proofs.lemmas.Result.{IfOk-weaker}
use Rattle.bz_tree.specs.Rows.{part_view}
use Rattle.bz_rule.specs.RowViews.{row_statement, row_value}
use Rattle.bz_rule.proofs.statement_row.StatementRow.into_tree.Goals as goal

pub returns : goal.returns
returns c =
    let i = c.self.inside in
    let s = row_statement (row_value i.row.parts.items i.row.class i.row.start i.row.end) in
    let made = c.in_ok-stmt.ensures s (ap (map part_view) c.as_slice.ensures.value ∙ c.self.invariant.are) ∙ c.self.view_is in
    IfOk-weaker c.copy.result _ _ (λ copy equal. equal ∙ made) c.copy.ensures.equal
