-- Labels in a set.
use Rattle.std.proofs.Common.{◌≡◌, ℕ, List, [], ◌∷◌, Bool, true, false, None, ◌||◌, refl, ap, ◌∙◌}
use Rattle.std.specs.List.{list_any, flat_map}
use Rattle.std.proofs.lemmas.List.Folds.{list_any-append}
use Rattle.std.proofs.lemmas.Cmp.{nat_list_eq_equiv}
use Rattle.bz_label.specs.Labels.{Package}
use Rattle.bz_label.specs.Same.{completed, same}
use Rattle.bz_token.specs.Common.{map_or}

pub same_back : (home : Package) (a b : List ℕ) → same home a b ≡ same home b a
same_back home a b = nat_list_eq_equiv.symm (completed home a) (completed home b)

-- what is no string is the same as no word
pub none_same : (home : Package) (words : List (List ℕ)) → list_any (λ w. map_or false (λ value. same home value w) None) words ≡ false
none_same home [] = refl
none_same home (w ∷ words) = none_same home words

-- an element of one of the lists passes
pub any_joined : {X : Type 0} (p : X → Bool) (lists : List (List X)) → list_any p (flat_map (λ xs. xs) lists) ≡ list_any (list_any p) lists
any_joined p [] = refl
any_joined p (xs ∷ lists) = list_any-append p xs (flat_map (λ xs. xs) lists) ∙ ap (λ (b : Bool). list_any p xs || b) (any_joined p lists)

pub or_swap : (a b c : Bool) → (b || (a || c)) ≡ ((a || b) || c)
or_swap true true c = refl
or_swap true false c = refl
or_swap false b c = refl
