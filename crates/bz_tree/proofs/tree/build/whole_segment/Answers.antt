use Rattle.std.proofs.Common.{arith, ◌∙◌}
use Rattle.std.proofs.lemmas.Grind.{common_steps}
use Rattle.std.proofs.lemmas.Result.{IfOk-from_err}
use Rattle.bz_tree.specs.private.Steps.{so_far}
use Rattle.bz_tree.proofs.Trees.Placed.{inside_short}
use Rattle.bz_tree.proofs.tree.build.whole_segment.Goals as goal

pub returns-in_err-inside-clause-value : goal.returns-in_err-inside-clause-value
returns-in_err-inside-clause-value c = IfOk-from_err _ _ c.from_residual.ensures.0

pub returns-in_default-clause-value : goal.returns-in_default-clause-value
returns-in_default-clause-value c = grind (arith, common_steps)

pub returns-in_err-seg-clause-value : goal.returns-in_err-seg-clause-value
returns-in_err-seg-clause-value c = IfOk-from_err _ _ c.from_residual-in_err-seg.ensures.0

pub returns-clause-value : goal.returns-clause-value
returns-clause-value c = grind (arith, common_steps)

pub returns-clause-places : goal.returns-clause-places
returns-clause-places c = λ flat.
    let short = inside_short _ (so_far c.args.walk) c.in-Some.inside c.in-Some.is c.in_ok-inside.ensures.value flat in
    let walked = rw c.in-Some.is at c.in_ok-inside.ensures.places in
    c.with_rule_call.ensures.places ∙ (c.in_ok-seg.ensures.places short ∙ walked)
