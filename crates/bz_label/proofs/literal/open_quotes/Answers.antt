use Rattle.std.proofs.Common.{◌≡◌, false, arith}
use Rattle.std.proofs.lemmas.Grind.{common_steps}
use Rattle.bz_label.proofs.Literals.{opened_plain}
use Rattle.bz_label.proofs.literal.open_quotes.Goals as goal
use Rattle.bz_label.proofs.literal.open_quotes.Goals.{then-starts_with, else-starts_with}

pub returns-clause-plain : goal.returns-clause-plain
returns-clause-plain c = λ value is.
    opened_plain c.args.literal.now value c.starts_with.result c.if-starts_with.n is c.starts_with.ensures.value
    (λ (no : c.starts_with.result ≡ false). elim c.if-starts_with.branch [ then-starts_with w ↦ absurd (let yes = w.if-starts_with in cc) | else-starts_with w ↦ w.n-is ])

pub returns-clause-value : goal.returns-clause-value
returns-clause-value c = grind (arith, common_steps)

pub returns-clause-place : goal.returns-clause-place
returns-clause-place c = grind (arith, common_steps)
