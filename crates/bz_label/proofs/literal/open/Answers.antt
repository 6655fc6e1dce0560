use Rattle.std.proofs.Common.{◌∙◌}
use Rattle.bz_label.proofs.Literals.{quoted_after, quoted_here}
use Rattle.bz_label.proofs.ValueForms.{opened_other, opened_raw}
use Rattle.bz_label.proofs.Opened.{stands_after}
use Rattle.bz_label.proofs.literal.open.Goals as goal

pub returns-in-Some-clause-value : goal.returns-in-Some-clause-value
returns-in-Some-clause-value c = c.open_quotes.ensures.value ∙ opened_raw c.args.text.now _ c.in-Some.ensures.cases.0 c.in-Some.ensures.cases.1

pub returns-in-Some-clause-place : goal.returns-in-Some-clause-place
returns-in-Some-clause-place c = stands_after c.args.text.now _ c.open_quotes.result c.in-Some.ensures.cases.2 c.in-Some.ensures.cases.1 c.open_quotes.ensures.place

pub returns-in-None-clause-value : goal.returns-in-None-clause-value
returns-in-None-clause-value c = c.open_quotes-in-None.ensures.value ∙ opened_other c.args.text.now c.in-None.ensures.cases

pub returns-in-Some-clause-plain : goal.returns-in-Some-clause-plain
returns-in-Some-clause-plain c = λ value is. c.open_quotes.ensures.plain value (quoted_after c.args.text.now _ value c.in-Some.ensures.cases.0 c.in-Some.ensures.cases.1 is)

pub returns-in-None-clause-plain : goal.returns-in-None-clause-plain
returns-in-None-clause-plain c = λ value is. c.open_quotes-in-None.ensures.plain value (quoted_here c.args.text.now value c.in-None.ensures.cases is)
