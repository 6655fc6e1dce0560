use Rattle.std.proofs.Common.{◌≡◌, ◌∙◌, ◌∷◌, ◌++◌, [], ℕ, List, subst, sym}
use Rattle.bz_canonical.specs.private.Fronts.{IsQuotedFront}
use Rattle.bz_canonical.proofs.Taken.{taken}
use Rattle.bz_canonical.proofs.front.read_simple_string.Goals as goal

pub returns : goal.returns
returns c =
    let q = c.in_ok-rest.ensures in
    let rest : List ℕ = c.in_ok-rest.rest.now in
    let inside : List ℕ = c.in_ok-inside.inside.now in
    let closed : List ℕ = c.in_ok-closed.closed.now in
    let is : inside ≡ (q.0 ++ 34 ∷ []) ++ rest = cc (c.in_ok-inside.ensures, q.1.front) in
    let body : closed ≡ q.0 ++ 34 ∷ [] = c.in_ok-closed.ensures ∙ taken inside (q.0 ++ 34 ∷ []) rest is in
    let same : c.in_ok-inner.inner.now ≡ q.0 = c.in_ok-inner.ensures ∙ taken closed q.0 (34 ∷ []) body in
    subst (λ (xs : List ℕ). IsQuotedFront c.args.text.now xs rest) (sym same) q.1
