-- The label that a text is, by what stands after a byte of it.
use Rattle.std.proofs.Common.{◌≡◌, ℕ, ◌<◌, List, [], ◌∷◌, ◌++◌, length, true, false, Bool, cond, refl, sym, ap, ◌∙◌, arith, inl, inr, Some, None, ne_eqb}
use Rattle.std.specs.Prelude.{◌==◌, ◌||◌, ◌&&◌, nat_eq, codes, Option, is_some, option_map, MatchOption}
use Rattle.std.specs.List.{list_any, onto_first, starts_with}
use Rattle.std.proofs.lemmas.Bool.{cases_Bool}
use Rattle.std.proofs.Math.Bool.{or-true}
use Rattle.bz_label.specs.Labels.{Package, last_part, parts_of, is_slash, is_colon, in_package}
use Rattle.bz_label.specs.Same.{completed, with_name}
use Rattle.bz_label.specs.private.ByteSteps.{left}
use Rattle.bz_label.specs.private.LabelSteps.{rest_after}
use Rattle.bz_label.specs.declared.bytes.Bytes.{Bytes}
use Rattle.bz_label.proofs.Cuts.{last_cons, some_part}

pub is_there : (byte : ℕ) (bs : List ℕ) → is_some (rest_after byte bs) ≡ list_any (λ b. b == byte) bs
is_there byte [] = refl
is_there byte (b ∷ bs) = elim (cases_Bool (b == byte)) [
  | inl is ↦ rw is refl
  | inr other ↦ rw other (is_there byte bs)
]

pub shorter : (byte : ℕ) (bs rest : List ℕ) → Some rest ≡ rest_after byte bs → length rest < length bs
shorter byte [] rest h = cc
shorter byte (b ∷ bs) rest h = elim (cases_Bool (b == byte)) [
  | inl is ↦ let same : Some rest ≡ Some bs = rw is at h in grind arith
  | inr other ↦ let more : Some rest ≡ rest_after byte bs = rw other at h in let less : length rest < length bs = shorter byte bs rest more in omega arith
]

-- a text without a slash is its only part
pub one_part : (bs : List ℕ) → None ≡ rest_after 47 bs → parts_of bs ≡ bs ∷ []
one_part [] h = refl
one_part (b ∷ bs) h = elim (cases_Bool (is_slash b)) [
  | inl is ↦ let clash : None ≡ Some bs = rw is at h in cc
  | inr other ↦ let rest : None ≡ rest_after 47 bs = rw other at h in rw (other, one_part bs rest) refl
]

last_onto : (b : ℕ) (l : List (List ℕ)) → 1 < length l → (1 < length (onto_first b l)) × (last_part (onto_first b l) ≡ last_part l)
last_onto b [] h = absurd (omega arith)
last_onto b (p ∷ []) h = absurd (omega arith)
last_onto b (p ∷ q ∷ l) h = (h, refl)

-- there are more parts, and the last is that of what stands after the first slash
pub more_parts : (bs rest : List ℕ) → Some rest ≡ rest_after 47 bs → (1 < length (parts_of bs)) × (last_part (parts_of bs) ≡ last_part (parts_of rest))
more_parts [] rest h = cc
more_parts (b ∷ bs) rest h = elim (cases_Bool (is_slash b)) [
  | inl is ↦
      let same : Some rest ≡ Some bs = rw is at h in
      let some : 0 < length (parts_of bs) = some_part is_slash bs in
      let equal : bs ≡ rest = cc in
      rw is (omega (arith, some), last_cons [] (parts_of bs) some ∙ ap (λ (zs : List ℕ). last_part (parts_of zs)) equal)
  | inr other ↦
      let later : Some rest ≡ rest_after 47 bs = rw other at h in
      let more = more_parts bs rest later in
      let onto = last_onto b (parts_of bs) more.0 in
      rw other (onto.0, onto.1 ∙ more.1)
]

pub has_colon : (found : Option Bytes) (bs : List ℕ) → option_map left found ≡ rest_after 58 bs → list_any is_colon bs ≡ is_some found
has_colon None bs h = sym (ap is_some h ∙ is_there 58 bs)
has_colon (Some rest) bs h = sym (ap is_some h ∙ is_there 58 bs)

colon_within : (path text : List ℕ) → list_any is_colon (path ++ 58 ∷ text) ≡ true
colon_within [] text = refl
colon_within (b ∷ path) text = ap (λ (a : Bool). is_colon b || a) (colon_within path text) ∙ or-true (is_colon b)

in_full : (home : Package) (text : List ℕ) → with_name (in_package home (58 ∷ text)) ≡ in_package home (58 ∷ text)
in_full None text = refl
in_full (Some path) text = rw (colon_within path text) refl

-- a name alone
pub alone : (home : Package) (b : ℕ) (bs : List ℕ) → (b ≡ 58 → ⊥) → (b ≡ 64 → ⊥) → (b ≡ 47 → ⊥) → list_any is_colon bs ≡ false → completed home (b ∷ bs) ≡ in_package home (58 ∷ b ∷ bs)
alone home b bs c a s none =
    let colon : (b == 58) ≡ false = ne_eqb _ _ c in
    let at : (64 == b) ≡ false = ne_eqb _ _ (λ e. a (sym e)) in
    let slash : (47 == b) ≡ false = ne_eqb _ _ (λ e. s (sym e)) in
    rw (colon, at, slash, none) (in_full home (b ∷ bs))

pub at_sign : (home : Package) (bs : List ℕ) → completed home (64 ∷ bs) ≡ 64 ∷ bs
at_sign home bs = elim (cases_Bool (list_any is_colon bs)) [
  | inl is ↦ rw is refl
  | inr none ↦ rw none refl
]

unnamed : (p : Bool) (x y : List ℕ) → cond (p && false) x y ≡ y
unnamed true x y = refl
unnamed false x y = refl

pub coloned : (home : Package) (b : ℕ) (bs : List ℕ) → (b ≡ 58 → ⊥) → list_any is_colon bs ≡ true → completed home (b ∷ bs) ≡ b ∷ bs
coloned home b bs c is =
    let colon : (b == 58) ≡ false = ne_eqb _ _ c in
    let turned : (58 == b) ≡ false = ne_eqb _ _ (λ e. c (sym e)) in
    simp (colon, turned, is) (unnamed (starts_with nat_eq (b ∷ bs) (codes "//")) _ (b ∷ bs))

bare : (home : Package) (bs : List ℕ) (x : ℕ) (xs : List ℕ) → list_any is_colon bs ≡ false → last_part (parts_of (47 ∷ 47 ∷ bs)) ≡ x ∷ xs → completed home (47 ∷ 47 ∷ bs) ≡ 47 ∷ 47 ∷ (bs ++ 58 ∷ x ∷ xs)
bare home bs x xs none last = simp (none, last) refl

-- a path, and its last part
pub path : (home : Package) (rest bs name : List ℕ) (next : Option (ℕ × Bytes)) → list_any is_colon rest ≡ false → rest ≡ 47 ∷ bs → name ≡ last_part (parts_of (47 ∷ rest)) → MatchOption next (name ≡ []) (λ p. name ≡ p.0 ∷ left p.1) → is_some next ≡ true → completed home (47 ∷ rest) ≡ 47 ∷ (rest ++ 58 ∷ name)
path home rest bs name None none two last some has = cc
path home rest bs name (Some p) none two last some has =
    let no_colon : list_any is_colon bs ≡ false = rw two at none in
    let part : last_part (parts_of (47 ∷ 47 ∷ bs)) ≡ p.0 ∷ left p.1 = ap (λ (zs : List ℕ). last_part (parts_of (47 ∷ zs))) (sym two) ∙ sym last ∙ some in
    rw (two, some) (bare home bs p.0 (left p.1) no_colon part)
