-- Edits of the first argument of a name.
use Rattle.std.proofs.Common.{◌≡◌, List, [], ◌∷◌, ◌++◌, Bool, true, false, refl, ap, if◌then◌else◌, ◌||◌}
use Rattle.std.specs.List.{list_any}
use Rattle.bz_tree.specs.Tree.{Segment}
use Rattle.bz_attribute.specs.Effects.{edit_first}

pub edit_first_none : (p : Segment → Bool) (f : Segment → List Segment) (xs : List Segment) → list_any p xs ≡ false → edit_first p f xs ≡ xs
edit_first_none p f [] h = refl
edit_first_none p f (x ∷ xs) h =
    elim (p x) as (λ b. b || list_any p xs ≡ false → (if b then f x ++ xs else x ∷ edit_first p f xs) ≡ x ∷ xs)
    [ true ↦ λ k. absurd cc | false ↦ λ k. ap (λ (ys : List Segment). x ∷ ys) (edit_first_none p f xs k) ] h
