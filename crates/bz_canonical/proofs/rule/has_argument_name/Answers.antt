use Rattle.std.proofs.Common.{◌≡◌, ◌<◌, ◌∷◌, [], ℕ, List, length, refl, arith}
use Rattle.bz_canonical.proofs.RuleCalls.{never_in_nothing, stands_next}
use Rattle.bz_canonical.proofs.rule.has_argument_name.Goals as goal

pub loop-rest-preserved : goal.loop-rest-preserved
loop-rest-preserved c = λ has. stands_next c.args.name.now c.loop-rest.rest.now c.in-len1-up.len_at_least (c.begins_argument.ensures c.if-begins_argument.false) (c.loop-rest.invariant has)

pub returns : goal.returns
returns c = λ no has. never_in_nothing c.args.name.now c.loop-rest.rest.now (nothing c.loop-rest.rest.now c.in_default.len_below) (c.loop-rest.invariant has)
  where
    nothing : (xs : List ℕ) → length xs < 1 → xs ≡ []
    nothing [] few = refl
    nothing (x ∷ xs) few = absurd (omega (arith, few))
