-- What a filter leaves, and where it leaves all.
use Rattle.std.proofs.Common.{◌≡◌, List, [], ◌∷◌, Bool, true, false, cond, not, ◌||◌, filter, map, refl, ap, sym, ◌∙◌}
use Rattle.std.specs.List.{list_any}
use Rattle.std.proofs.lemmas.Bool.{or_parts}

-- nothing that passes is left
pub none_left : {X : Type 0} (p : X → Bool) (xs : List X) → list_any p (filter (λ x. not (p x)) xs) ≡ false
none_left p [] = refl
none_left {X} p (x ∷ xs) =
    elim (p x) as (λ b. p x ≡ b → list_any p (cond (not b) (x ∷ filter (λ z. not (p z)) xs) (filter (λ z. not (p z)) xs)) ≡ false)
    [ true ↦ λ e. none_left p xs | false ↦ λ e. rw e (none_left p xs) ] refl

-- where nothing passes, all stay
pub all_stay : {X : Type 0} (p : X → Bool) (xs : List X) → list_any p xs ≡ false → filter (λ x. not (p x)) xs ≡ xs
all_stay p [] h = refl
all_stay {X} p (x ∷ xs) h =
    elim (p x) as (λ b. b || list_any p xs ≡ false → cond (not b) (x ∷ filter (λ z. not (p z)) xs) (filter (λ z. not (p z)) xs) ≡ x ∷ xs)
    [ true ↦ λ k. absurd cc | false ↦ λ k. ap (λ (zs : List X). x ∷ zs) (all_stay p xs k) ] h

-- where all stay, nothing passes
pub none_passes : {X : Type 0} (p : X → Bool) (xs : List X) → filter (λ x. not (p x)) xs ≡ xs → list_any p xs ≡ false
none_passes {X} p xs same = ap (λ (zs : List X). list_any p zs) (sym same) ∙ none_left p xs

-- the same in each of some lists
pub none_left_in : {X : Type 0} (p : X → Bool) (lists : List (List X)) → list_any (list_any p) (map (λ xs. filter (λ x. not (p x)) xs) lists) ≡ false
none_left_in p [] = refl
none_left_in p (xs ∷ lists) = rw (none_left p xs) (none_left_in p lists)

pub all_stay_in : {X : Type 0} (p : X → Bool) (lists : List (List X)) → list_any (list_any p) lists ≡ false → map (λ xs. filter (λ x. not (p x)) xs) lists ≡ lists
all_stay_in p [] h = refl
all_stay_in {X} p (xs ∷ lists) h =
    let both = or_parts (list_any p xs) (list_any (list_any p) lists) h in
    rw (all_stay p xs both.0) (ap (λ (ls : List (List X)). xs ∷ ls) (all_stay_in p lists both.1))

pub none_passes_in : {X : Type 0} (p : X → Bool) (lists : List (List X)) → map (λ xs. filter (λ x. not (p x)) xs) lists ≡ lists → list_any (list_any p) lists ≡ false
none_passes_in {X} p lists same = ap (λ (ls : List (List X)). list_any (list_any p) ls) (sym same) ∙ none_left_in p lists
