use Rattle.std.proofs.Common.{◌≡◌, ◌∙◌, ◌+◌, ap, arith, length, sym}
use Rattle.bz_passes.proofs.OnePass.{not_one_of_none, not_one_of_two, only_for, only_of_one}
use Rattle.bz_passes.proofs.script.only_pass.Goals as goal

pub returns-then-at-count-clause-law : goal.returns-then-at-count-clause-law
returns-then-at-count-clause-law g c =
    let last : c.in_ok-at.at + 1 ≡ length c.args.passes.now = rw c.as_slice-count.ensures at c.if-at-count.true in
    only_for (g.L.Language.meaning c.args.language.now) g.L.Target.Keyed.asked c.args.passes.now c.args.key c.in_ok-at.at c.in_ok-at.ensures (λ i d le l. absurd (omega (arith, last, le, l)))

pub returns-in-None-clause-law : goal.returns-in-None-clause-law
returns-in-None-clause-law g c = only_for (g.L.Language.meaning c.args.language.now) g.L.Target.Keyed.asked c.args.passes.now c.args.key c.in_ok-at.at c.in_ok-at.ensures c.in-None.ensures

pub returns-then-count-eq1-clause-law : goal.returns-then-count-eq1-clause-law
returns-then-count-eq1-clause-law g c =
    only_of_one (g.L.Language.meaning c.args.language.now) g.L.Target.Keyed.asked c.args.passes.now c.args.key (sym (ap length c.as_slice-count.ensures) ∙ c.if-count-eq1.true)

pub returns-in_err-at-clause-none : goal.returns-in_err-at-clause-none
returns-in_err-at-clause-none g c = rw c.from_residual.ensures (not_one_of_none g.L.Target.Keyed.asked c.args.passes.now c.args.key c.in_err-at.ensures)

pub returns-in-Some-clause-none : goal.returns-in-Some-clause-none
returns-in-Some-clause-none g c = not_one_of_two g.L.Target.Keyed.asked c.args.passes.now c.args.key c.in_ok-at.at c.in-Some.field-0 c.in_ok-at.ensures c.in-Some.ensures
