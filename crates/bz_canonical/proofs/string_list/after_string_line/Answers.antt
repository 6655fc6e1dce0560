use Rattle.std.proofs.Common.{◌∷◌, ℕ, List, subst}
use Rattle.bz_canonical.specs.private.Fronts.{IsQuotedFront}
use Rattle.bz_canonical.proofs.StringLists.{string_element}
use Rattle.bz_canonical.proofs.string_list.after_string_line.Goals as goal

pub returns : goal.returns
returns c =
    let inner : List ℕ = c.in_ok-inner.inner.now in
    let string = c.in_ok-string.ensures in
    let side = c.in_ok-side.ensures in
    let quoted : IsQuotedFront inner string.0 (44 ∷ side.0) = subst (λ (t : List ℕ). IsQuotedFront inner string.0 t) side.1 string.1 in
    (inner, side.0, c.in_ok-inner.ensures, λ depth. string_element 2 depth inner string.0 (44 ∷ side.0) quoted, side.2)
