-- A loop that writes each text of a list that it takes from the front.
use Rattle.std.proofs.Common.{◌≡◌, ℕ, List, ◌∷◌, ◌++◌, sym, ◌∙◌, ap, append_assoc}
use Rattle.std.specs.List.{flat_map}

-- what was written of the elements before, and of one more
pub written_next : {A : Type 0} (f : A → List ℕ) (done whole : List ℕ) (xs ys : List A) (x : A) → xs ≡ x ∷ ys → done ++ flat_map f xs ≡ whole
    → (done ++ f x) ++ flat_map f ys ≡ whole
written_next f done whole xs ys x is before = append_assoc done (f x) (flat_map f ys) ∙ ap (λ zs. done ++ flat_map f zs) (sym is) ∙ before
