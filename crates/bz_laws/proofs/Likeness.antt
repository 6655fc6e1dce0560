-- Words that are the same label find the same elements.
use Rattle.std.proofs.Common.{◌≡◌, ℕ, List, [], ◌∷◌, Bool, true, false, ◌||◌, Option, Some, None, map, refl, ap, bytes_eq}
use Rattle.std.specs.List.{list_any, list_all}
use Rattle.std.proofs.Math.Bool.{or-false}
use Rattle.std.proofs.lemmas.Bool.{and_from, and_parts}
use Rattle.std.proofs.lemmas.Slice.Eq.{bytes_eq-Decides}
use Rattle.bz_tree.specs.Tree.{Segment}
use Rattle.bz_label.specs.Labels.{Package}
use Rattle.bz_label.specs.Same.{completed, same}
use Rattle.bz_label.specs.declared.arguments.Chosen.TheVariants.{Values}
use Rattle.bz_attribute.specs.Rules.{string_value}
use Rattle.bz_attribute.specs.Effects.{is_chosen, string}
use Rattle.bz_label.proofs.ReadBack.{quoted_value}
use Rattle.bz_rule.proofs.Arguments.{same_bytes}
use Rattle.bz_token.specs.Common.{map_or}
use Rattle.bz_attribute.proofs.LabelSets.{same_back}

pub same_self : (home : Package) (v : List ℕ) → same home v v ≡ true
same_self home v = same_bytes (completed home v)

pub in_full : (home : Package) (v w : List ℕ) → same home v w ≡ true → completed home v ≡ completed home w
in_full home v w h = (bytes_eq-Decides (completed home v) (completed home w)).0 h

pub chosen_alike : (home : Package) (v w : List ℕ) (s : Segment) → completed home v ≡ completed home w → is_chosen home (Values (v ∷ [])) s ≡ is_chosen home (Values (w ∷ [])) s
chosen_alike home v w s h =
    elim (string_value s.nodes) as (λ o. map_or false (λ value. same home value v) o || false ≡ map_or false (λ value. same home value w) o || false)
    [ None ↦ refl | Some text ↦ ap (λ (z : List ℕ). bytes_eq (completed home text) z || false) h ]

-- the element for a word equals what the word is the same as
string_chosen : (home : Package) (v w : List ℕ) → is_chosen home (Values (v ∷ [])) (string w) ≡ same home w v || false
string_chosen home v w = ap (λ (o : Option (List ℕ)). map_or false (λ value. same home value v) o || false) (quoted_value w)

pub strings_chosen : (home : Package) (v : List ℕ) (words : List (List ℕ)) → list_any (is_chosen home (Values (v ∷ []))) (map string words) ≡ list_any (same home v) words
strings_chosen home v [] = refl
strings_chosen home v (w ∷ words) = rw (string_chosen home v w, or-false (same home w v), same_back home w v, strings_chosen home v words) refl

-- a test that follows from another
pub all_follow : {X : Type 0} (p q : X → Bool) → ((x : X) → p x ≡ true → q x ≡ true) → (xs : List X) → list_all p xs ≡ true → list_all q xs ≡ true
all_follow p q follow [] h = refl
all_follow p q follow (x ∷ xs) h =
    let both = and_parts (p x) (list_all p xs) h in
    and_from (q x) (list_all q xs) (follow x both.0) (all_follow p q follow xs both.1)
