use Rattle.std.proofs.Common.{◌∙◌, sym}
use Rattle.bz_token.specs.declared.table.ByteClass.TheVariants.{Close}
use Rattle.bz_token.proofs.Tables.{fact_at, closes_no_other}
use Rattle.bz_token.proofs.brackets.is_closing_bracket.Goals as goal

pub returns-in-Close : goal.returns-in-Close
returns-in-Close c = sym (fact_at c.args.b Close (sym c.class_at.ensures ∙ c.in-Close.is)).0

pub returns-in_default : goal.returns-in_default
returns-in_default c = sym (closes_no_other c.args.b c.class_at.result (sym c.class_at.ensures) c.in_default.not-Close)
