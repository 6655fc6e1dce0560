-- First mentions: none is equal to an earlier one, and a key at the end is a further one or was mentioned before.
use Rattle.std.proofs.Common.{◌≡◌, Bool, true, false, cond, not, ◌||◌, List, [], ◌∷◌, ◌++◌, filter, refl, sym, ap, ◌∙◌}
use Rattle.std.specs.Cmp.{IsEquivalence}
use Rattle.std.specs.List.{list_any, AllByRecursion}
use Rattle.std.proofs.lemmas.List.{append-nil}
use Rattle.std.proofs.lemmas.List.Elements.{filter-append}
use Rattle.std.proofs.lemmas.Map.Views.{any-filter_same}
use Rattle.bz_script.specs.Packages.{first_mentions}

not-false : (b : Bool) → not b ≡ true → b ≡ false
not-false true h = sym h
not-false false h = refl

module _ {K : Type 0} where
  all-map : (P Q : K → Type 0) → ((k : K) → P k → Q k) → (ks : List K) → AllByRecursion P ks → AllByRecursion Q ks
  all-map P Q f [] h = tt
  all-map P Q f (k ∷ ks) h = (f k h.0, all-map P Q f ks h.1)

  all-filter : (P : K → Type 0) (test : K → Bool) (ks : List K) → AllByRecursion P ks → AllByRecursion P (filter test ks)
  all-filter P test [] h = tt
  all-filter P test (k ∷ ks) h =
      elim (test k) as (λ b. AllByRecursion P (cond b (k ∷ filter test ks) (filter test ks)))
      [ true ↦ (h.0, all-filter P test ks h.1) | false ↦ all-filter P test ks h.1 ]

  -- what a filter keeps passes its test
  passes-step : (P : K → Type 0) (k : K) (ks : List K) (b : Bool) → (b ≡ true → P k) → AllByRecursion P ks → AllByRecursion P (cond b (k ∷ ks) ks)
  passes-step P k ks true here rest = (here refl, rest)
  passes-step P k ks false here rest = rest

  all-passes : (test : K → Bool) (ks : List K) → AllByRecursion (λ k. test k ≡ true) (filter test ks)
  all-passes test [] = tt
  all-passes test (k ∷ ks) = passes-step (λ x. test x ≡ true) k (filter test ks) (test k) (λ e. e) (all-passes test ks)

  -- no key is equal to an earlier one
  abbrev pub AreApart : (K → K → Bool) → List K → Type 0
  AreApart eq [] = Unit {0}
  AreApart eq (k ∷ ks) = AllByRecursion (λ other. eq k other ≡ false) ks × AreApart eq ks

  apart-filter : (eq : K → K → Bool) (test : K → Bool) (ks : List K) → AreApart eq ks → AreApart eq (filter test ks)
  apart-filter eq test [] h = tt
  apart-filter eq test (k ∷ ks) h =
      elim (test k) as (λ b. AreApart eq (cond b (k ∷ filter test ks) (filter test ks)))
      [ true ↦ (all-filter (λ other. eq k other ≡ false) test ks h.0, apart-filter eq test ks h.1) | false ↦ apart-filter eq test ks h.1 ]

  pub apart-mentions : (eq : K → K → Bool) (ks : List K) → AreApart eq (first_mentions eq ks)
  apart-mentions eq [] = tt
  apart-mentions eq (k ∷ ks) =
      let rest = first_mentions eq ks in
      let kept = all-passes (λ other. not (eq k other)) rest in (
        all-map (λ x. not (eq k x) ≡ true) (λ x. eq k x ≡ false) (λ x. not-false (eq k x)) (filter (λ other. not (eq k other)) rest) kept,
        apart-filter eq (λ other. not (eq k other)) rest (apart-mentions eq ks),
      )

module _ {K : Type 0} (eq : K → K → Bool) (laws : IsEquivalence eq) (k : K) where
  any-step : (y : K) (ks : List K) (b : Bool) → eq k y ≡ b
      → (b || list_any (eq k) (filter (λ other. not (eq y other)) ks)) ≡ (b || list_any (eq k) ks)
  any-step y ks true e = refl
  any-step y ks false e =
      any-filter_same (eq k) (λ other. not (eq y other)) true (λ x p. ap not (laws.symm y x ∙ sym (laws.congr k x y p) ∙ e)) ks

  -- a key is mentioned where it is a first mention
  pub any-mentions : (ks : List K) → list_any (eq k) (first_mentions eq ks) ≡ list_any (eq k) ks
  any-mentions [] = refl
  any-mentions (y ∷ ks) = any-step y (first_mentions eq ks) (eq k y) refl ∙ ap (λ b. eq k y || b) (any-mentions ks)

  last-step : (y : K) (ms : List K) (b c : Bool) → eq k y ≡ b
      → y ∷ filter (λ other. not (eq y other)) (cond c ms (ms ++ k ∷ []))
      ≡ cond (b || c) (y ∷ filter (λ other. not (eq y other)) ms) ((y ∷ filter (λ other. not (eq y other)) ms) ++ k ∷ [])
  last-step y ms true true e = refl
  last-step y ms false true e = refl
  last-step y ms true false e =
      ap (λ l. y ∷ l) (filter-append (λ other. not (eq y other)) ms (k ∷ [])
      ∙ ap (λ b. filter (λ other. not (eq y other)) ms ++ cond (not b) (k ∷ []) []) (laws.symm y k ∙ e)
      ∙ append-nil (filter (λ other. not (eq y other)) ms))
  last-step y ms false false e =
      ap (λ l. y ∷ l) (filter-append (λ other. not (eq y other)) ms (k ∷ [])
      ∙ ap (λ b. filter (λ other. not (eq y other)) ms ++ cond (not b) (k ∷ []) []) (laws.symm y k ∙ e))

  -- a key at the end is a further mention, or was mentioned before
  pub mentions-push : (ks : List K) → first_mentions eq (ks ++ k ∷ []) ≡ cond (list_any (eq k) ks) (first_mentions eq ks) (first_mentions eq ks ++ k ∷ [])
  mentions-push [] = refl
  mentions-push (y ∷ ks) =
      ap (λ l. y ∷ filter (λ other. not (eq y other)) l) (mentions-push ks)
      ∙ last-step y (first_mentions eq ks) (eq k y) (list_any (eq k) ks) refl
