use Rattle.std.proofs.Common.{◌≡◌, ◌≤◌, true, arith, length, subst, sym}
use Rattle.std.proofs.lemmas.Bool.Decides.{nat_tests}
use Rattle.std.specs.Prelude.{nat_lt}
use Rattle.bz_canonical.specs.Canonical.{HasPlace}
use Rattle.bz_canonical.proofs.Places.{spans_place}
use Rattle.bz_canonical.proofs.place.argument_place.Goals as goal

pub returns : goal.returns
returns c = λ first depth names attr s has at.
    let rule = c.args.rule in
    let many : 2 ≤ length rule.spans.now = omega (arith, c.if-rule-lt2.false) in
    let three : nat_lt 2 (length rule.spans.now) ≡ true → 3 ≤ length rule.spans.now = λ is. grind (arith, nat_tests, is) in
    subst (HasPlace depth attr s) (λ i. record { before = sym c.in_ok-before.ensures.front i; lines = sym c.in_ok-lines.ensures i; after = sym c.in_ok-after.ensures.back i; may_go = nat_lt 2 (length rule.spans.now) })
    (spans_place first depth names attr c.args.name s c.args.chunk.now rule.written.now rule.spans.now c.span_named-span.result (nat_lt 2 (length rule.spans.now)) at many three c.span_named-span.ensures has)
