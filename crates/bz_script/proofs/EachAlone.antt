-- What a script asks of its packages is what the steps of each ask of it.
use Rattle.std.proofs.Common.{◌≡◌, ℕ, Bool, true, false, cond, not, ◌||◌, List, [], ◌∷◌, ◌++◌, map, filter, flat_map, None, Some, Contains, refl, sym, ap, ◌∙◌}
use Rattle.std.specs.Cmp.{IsEquivalence}
use Rattle.std.specs.Cmp.Lexicographic.{options_equiv}
use Rattle.std.specs.List.{list_any, AllByRecursion}
use Rattle.std.proofs.lemmas.Bool.{false≢true, or_left, or_right}
use Rattle.std.proofs.lemmas.Cmp.{nat_list_eq_equiv}
use Rattle.std.proofs.lemmas.Map.Views.{list_any-from_Contains}
use Rattle.std.proofs.lemmas.Slice.Eq.{bytes_eq-Decides}
use Rattle.bz_label.specs.Labels.{Package}
use Rattle.bz_script.specs.EachPackage.{packages_of, steps_for}
use Rattle.bz_script.specs.Packages.{by_key, by_package, first_mentions, same_package, values_at}
use Rattle.bz_script.proofs.Mentions.{any-mentions}

module _ {K : Type 0} (eq : K → K → Bool) (laws : IsEquivalence eq) where
  -- no other key is left
  one_key : (k : K) (b : Bool) → filter (λ other. not (eq k other)) (cond b (k ∷ []) []) ≡ []
  one_key k true = ap (λ t. cond (not t) (k ∷ []) []) (laws.refl k)
  one_key k false = refl

  -- each key of the list is mentioned
  mentioned : (all ks : List K) → ((k : K) → list_any (eq k) ks ≡ true → list_any (eq k) all ≡ true) → AllByRecursion (λ k. list_any (eq k) all ≡ true) ks
  mentioned all [] within = tt
  mentioned all (k ∷ ks) within =
      (within k (or_left (eq k k) (list_any (eq k) ks) (laws.refl k)), mentioned all ks (λ x h. within x (or_right (eq x k) (list_any (eq x) ks) h)))

module _ {K T : Type 0} (eq : K → K → Bool) (laws : IsEquivalence eq) (same : (x y : K) → eq x y ≡ true → x ≡ y) where
  -- the steps that stand with a key
  abbrev steps_at : K → List (K × T) → List (K × T)
  steps_at k steps = filter (λ step. eq k step.0) steps

  abbrev keys : List (K × T) → List K
  keys steps = map (λ step. step.0) steps

  key_step : (k : K) (step : K × T) (later : List (K × T)) (found b : Bool) → eq k step.0 ≡ b → first_mentions eq (keys later) ≡ cond found (k ∷ []) []
      → first_mentions eq (keys (cond b (step ∷ later) later)) ≡ cond (b || found) (k ∷ []) []
  key_step k step later found true e rest =
      ap (λ x. x ∷ filter (λ other. not (eq x other)) (first_mentions eq (keys later))) (sym (same k step.0 e))
      ∙ ap (λ ks. k ∷ filter (λ other. not (eq k other)) ks) rest
      ∙ ap (λ ks. k ∷ ks) (one_key eq laws k found)
  key_step k step later found false e rest = rest

  -- the keys of the steps of one key are that key once
  key_alone : (k : K) (steps : List (K × T)) → first_mentions eq (keys (steps_at k steps)) ≡ cond (list_any (eq k) (keys steps)) (k ∷ []) []
  key_alone k [] = refl
  key_alone k (step ∷ steps) = key_step k step (steps_at k steps) (list_any (eq k) (keys steps)) (eq k step.0) refl (key_alone k steps)

  twice_step : (k : K) (step : K × T) (later : List (K × T)) (b : Bool) → eq k step.0 ≡ b → steps_at k later ≡ later → steps_at k (cond b (step ∷ later) later) ≡ cond b (step ∷ later) later
  twice_step k step later true e rest = ap (λ t. cond t (step ∷ steps_at k later) (steps_at k later)) e ∙ ap (λ l. step ∷ l) rest
  twice_step k step later false e rest = rest

  steps_twice : (k : K) (steps : List (K × T)) → steps_at k (steps_at k steps) ≡ steps_at k steps
  steps_twice k [] = refl
  steps_twice k (step ∷ steps) = twice_step k step (steps_at k steps) (eq k step.0) refl (steps_twice k steps)

  pub alone : (k : K) (steps : List (K × T)) → list_any (eq k) (keys steps) ≡ true → by_key eq (steps_at k steps) ≡ (k, map (λ step. step.1) (steps_at k steps)) ∷ []
  alone k steps mentioned =
      ap (map (λ key. (key, values_at eq (steps_at k steps) key))) (key_alone k steps ∙ ap (λ b. cond b (k ∷ []) []) mentioned)
      ∙ ap (λ (l : List (K × T)). (k, map (λ step. step.1) l) ∷ []) (steps_twice k steps)

  each_key : (steps : List (K × T)) (ks : List K) → AllByRecursion (λ k. list_any (eq k) (keys steps) ≡ true) ks
      → map (λ key. (key, values_at eq steps key)) ks ≡ flat_map (λ k. by_key eq (steps_at k steps)) ks
  each_key steps [] h = refl
  each_key steps (k ∷ ks) h =
      ap (λ rest. (k, values_at eq steps k) ∷ rest) (each_key steps ks h.1) ∙ ap (λ one. one ++ flat_map (λ x. by_key eq (steps_at x steps)) ks) (sym (alone k steps h.0))

  pub each : (steps : List (K × T)) → by_key eq steps ≡ flat_map (λ k. by_key eq (steps_at k steps)) (first_mentions eq (keys steps))
  each steps = each_key steps (first_mentions eq (keys steps)) (mentioned eq laws (keys steps) (first_mentions eq (keys steps)) (λ k h. sym (any-mentions eq laws k (keys steps)) ∙ h))

-- packages

package_equiv : IsEquivalence same_package
package_equiv = options_equiv nat_list_eq_equiv

same_is : (a b : Package) → same_package a b ≡ true → a ≡ b
same_is None None h = refl
same_is None (Some b) h = absurd (false≢true h)
same_is (Some a) None h = absurd (false≢true h)
same_is (Some a) (Some b) h = ap (λ (path : List ℕ). Some path) ((bytes_eq-Decides a b).0 h)

pub each_package : {T : Type 0} (script : List (Package × T)) → by_package script ≡ flat_map (λ home. by_package (steps_for home script)) (packages_of script)
each_package script = each same_package package_equiv same_is script

pub package_alone : {T : Type 0} (script : List (Package × T)) (home : Package) → Contains (packages_of script) home
    → by_package (steps_for home script) ≡ (home, map (λ step. step.1) (steps_for home script)) ∷ []
package_alone script home there =
    let all = map (λ (step : _). step.0) script in
    alone same_package package_equiv same_is home script (sym (any-mentions same_package package_equiv home all) ∙ list_any-from_Contains package_equiv home (packages_of script) there)
