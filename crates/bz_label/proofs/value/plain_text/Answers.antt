use Rattle.std.proofs.Common.{rules, ◌≡◌, None, arith}
use Rattle.std.proofs.lemmas.Grind.{common_steps}
use Rattle.bz_label.specs.private.ByteSteps.{IsOpened, StandsIn}
use Rattle.bz_label.proofs.Opened.{if_none, read_whole}
use Rattle.bz_label.proofs.value.plain_text.Goals as goal

pub returns-in_err-literal-clause-none : goal.returns-in_err-literal-clause-none
returns-in_err-literal-clause-none c =
    let none : c.open.result ≡ None = search rules in
    if_none c.from_residual.result (λ value is.
    let opened : IsOpened value c.open.result = c.open.ensures.plain value (rw c.as_bytes.ensures.value is) in
    rw none at opened)

pub returns-in_err-value-clause-none : goal.returns-in_err-value-clause-none
returns-in_err-value-clause-none c =
    if_none c.from_residual-in_err-value.result (λ value is.
    c.in_err-value.ensures.none value (c.in_ok-literal.ensures.plain value (rw c.as_bytes.ensures.value is)))

pub returns-clause-none : goal.returns-clause-none
returns-clause-none c =
    let stands : StandsIn c.args.text.now c.in_ok-literal.literal = rw c.as_bytes.ensures.value at c.in_ok-literal.ensures.place in
    read_whole c.args.text.now c.in_ok-value.value.now c.in_ok-literal.literal _ _ c.get.result c.utf8.text stands c.in_ok-value.ensures.back c.get.ensures.cases

pub returns-clause-value : goal.returns-clause-value
returns-clause-value c = grind (arith, common_steps)
