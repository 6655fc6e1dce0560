-- One slot after the other, in a loop over all of them.
use Rattle.std.proofs.Common.{◌≡◌, ℕ, ◌<◌, ◌+◌, List, [], ◌∷◌, ◌++◌, length, take, drop, get_or, sym, ◌∙◌, ap}
use Rattle.std.proofs.lemmas.List.{drop_more, take_more}
use Rattle.std.proofs.Math.ListN.{set}
use Rattle.bz_passes.proofs.Steps.{rest_after_write}

-- the slots that are done, as they were
done_more : {X : Type 0} (xs ys : List X) (i : ℕ) (d : X) → i < length xs → i < length ys → drop i xs ≡ drop i ys
    → take (i + 1) ys ≡ take i ys ++ get_or xs i d ∷ []
done_more xs ys i d h l same =
    let left : get_or xs i d ∷ drop (i + 1) xs ≡ get_or ys i d ∷ drop (i + 1) ys = sym (drop_more xs i d h) ∙ same ∙ drop_more ys i d l in
    let head : get_or xs i d ≡ get_or ys i d = cc in
    take_more ys i d l ∙ ap (λ z. take i ys ++ z ∷ []) (sym head)

-- the slots that are still to come
pub rest_same : {X : Type 0} (xs ys : List X) (i : ℕ) (d y : X) → i < length xs → i < length ys → drop i xs ≡ drop i ys
    → drop (i + 1) (set xs i y) ≡ drop (i + 1) ys
rest_same xs ys i d y h l same =
    let left : get_or xs i d ∷ drop (i + 1) xs ≡ get_or ys i d ∷ drop (i + 1) ys = sym (drop_more xs i d h) ∙ same ∙ drop_more ys i d l in
    let tail : drop (i + 1) xs ≡ drop (i + 1) ys = cc in
    rest_after_write xs i y h ∙ tail
