use Rattle.std.proofs.Common.{arith, ◌≤◌, ◌∙◌, drop, length, sym}
use Rattle.std.proofs.lemmas.List.{length-drop, take_rest}
use Rattle.bz_canonical.proofs.SealedArguments.{all_put, next_waits, none_put, put_next}
use Rattle.bz_canonical.proofs.sealed.put_arguments.Goals as goal

pub loop-rest-init : goal.loop-rest-init
loop-rest-init c = (omega arith, λ names from args stands after are text seen. none_put names _ from _ args stands after _ _ _ are text seen)

pub loop-rest-preserved-in-Some : goal.loop-rest-preserved-in-Some
loop-rest-preserved-in-Some c =
    let within = rw c.in-Some.is at c.in_ok-len.ensures.within in
    let part = rw c.in-Some.is at c.in_ok-len.ensures.part in
    let fewer : c.in-Some.len ≤ length (drop c.loop-rest.at c.args.asked.now) = rw take_rest at within in (
      omega (arith, fewer, c.loop-rest.invariant.0, length-drop c.loop-rest.at c.args.asked.now),
      λ names from args stands after are text seen.
          put_next names c.args.rule.written.now c.loop-rest.start c.loop-rest.rest.now _ c.args.asked.now c.loop-rest.at c.in-Some.len _ _ _ c.in-len1-up.len_at_least (sym c.ends_run.ensures ∙ c.if-ends_run.true)
          (c.loop-rest.invariant.1 names from args stands after are text seen) part,
    )

pub loop-rest-preserved : goal.loop-rest-preserved
loop-rest-preserved c = (
  c.loop-rest.invariant.0,
  λ names from args stands after are text seen.
      next_waits names c.args.rule.written.now c.loop-rest.start c.loop-rest.rest.now _ _ _ _ c.in-len1-up.len_at_least (sym c.ends_run.ensures ∙ c.if-ends_run.false)
      (c.loop-rest.invariant.1 names from args stands after are text seen),
)

pub returns : goal.returns
returns c = λ put names from args stands after are text seen. all_put names _ _ c.loop-rest.rest.now _ _ _ c.in_default.len_below (c.loop-rest.invariant.1 names from args stands after are text seen)
