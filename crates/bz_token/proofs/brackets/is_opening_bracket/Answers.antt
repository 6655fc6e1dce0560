use Rattle.std.proofs.Common.{◌∙◌, sym}
use Rattle.bz_token.specs.declared.table.ByteClass.TheVariants.{Open}
use Rattle.bz_token.proofs.Tables.{fact_at, opens_no_other}
use Rattle.bz_token.proofs.brackets.is_opening_bracket.Goals as goal

pub returns-in-Open : goal.returns-in-Open
returns-in-Open c = sym (fact_at c.args.b Open (sym c.class_at.ensures ∙ c.in-Open.is)).0

pub returns-in_default : goal.returns-in_default
returns-in_default c = sym (opens_no_other c.args.b c.class_at.result (sym c.class_at.ensures) c.in_default.not-Open)
