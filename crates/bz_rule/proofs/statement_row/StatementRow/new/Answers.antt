use Rattle.std.proofs.Common.{arith}
use Rattle.bz_rule.proofs.RowStatements.{has_head, statement_of}
use Rattle.bz_rule.proofs.statement_row.StatementRow.new.Goals as goal

pub invariant_of-result : goal.invariant_of-result
invariant_of-result c =
    let row = c.requires.1.0 in
    has_head c.requires.0 _ _ _ _ c.args.head 0 (record { are = row.parts; is = row.class; begins = row.start; ends = row.end }) c.requires.1.1 (omega arith)

pub returns : goal.returns
returns c s row = statement_of s _ _ _ _ (record { are = row.parts; is = row.class; begins = row.start; ends = row.end })
