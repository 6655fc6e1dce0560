use Rattle.std.proofs.Common.{arith, ◌∙◌, ◌+◌, ℕ, ap, sym}
use Rattle.std.proofs.lemmas.List.{take_rest}
use Rattle.bz_attribute.proofs.EndsBack.{no_stop, last_stop_at}
use Rattle.std.proofs.lemmas.Grind.{common_steps}
use Rattle.bz_attribute.proofs.place.arguments_end.Goals as goal

pub returns-then-is_stop-clause-end : goal.returns-then-is_stop-clause-end
returns-then-is_stop-clause-end c =
    let at = c.loop-at.at in
    ap (λ (n : ℕ). at + n) (rw take_rest at c.besides.ensures)
    ∙ last_stop_at c.args.parts.now at _ c.loop-at-test.true c.loop-at.invariant.within (sym c.if-is_stop.ensures) c.loop-at.invariant.none

pub loop-at-init : goal.loop-at-init
loop-at-init c = grind (arith, common_steps, no_stop)

pub loop-at-preserved : goal.loop-at-preserved
loop-at-preserved c = grind (arith, common_steps, no_stop)

pub returns-clause-end : goal.returns-clause-end
returns-clause-end c = grind (arith, common_steps, no_stop)
