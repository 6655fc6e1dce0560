-- The words of a command, part by part.
use Rattle.std.proofs.Common.{◌≡◌, ℕ, ◌<◌, ◌-◌, List, [], ◌∷◌, ◌++◌, length, take, drop, filter, true, false, refl, sym, ap, ◌∙◌, arith, inl, inr, append_assoc, length-append}
use Rattle.std.specs.List.{list_all}
use Rattle.std.specs.Str.{IsUtf8, is_utf8}
use Rattle.std.proofs.lemmas.Bool.{cases_Bool, and_parts}
use Rattle.std.proofs.lemmas.List.{take_at, drop_at, take-append-drop}
use Rattle.std.proofs.lemmas.Slice.Eq.{bytes_eq-Decides}
use Rattle.std.proofs.lemmas.Str.{is_utf8-from_IsUtf8}
use Rattle.bz_label.specs.Words.{goes_on, with_space, onto_word, is_word, mended}
use Rattle.bz_label.specs.private.WordSteps.{kept}

before_last : (part front : List ℕ) → part ≡ front ++ 92 ∷ [] → length part - 1 ≡ length front
before_last part front e = omega (arith, ap length e ∙ length-append front (92 ∷ []))

pub on : (part front : List ℕ) → part ≡ front ++ 92 ∷ [] → (goes_on part ≡ true) × (with_space part ≡ front ++ 32 ∷ [])
on part front e =
    let n = before_last part front e in
    let back : drop (length part - 1) part ≡ 92 ∷ [] = ap (drop (length part - 1)) e ∙ drop_at front (92 ∷ []) (length part - 1) (sym n) in
    let first : take (length part - 1) part ≡ front = ap (take (length part - 1)) e ∙ take_at front (92 ∷ []) (length part - 1) (sym n) in
    (rw back refl, rw first refl)

pub not_on : (part : List ℕ) → ((front : List ℕ) → part ≡ front ++ 92 ∷ [] → ⊥) → goes_on part ≡ false
not_on part none = elim (cases_Bool (goes_on part)) [
  | inl is ↦
      let back : 92 ∷ [] ≡ drop (length part - 1) part = (bytes_eq-Decides (92 ∷ []) (drop (length part - 1) part)).0 is in
      absurd (none (take (length part - 1) part) (sym (take-append-drop (length part - 1) part) ∙ ap (λ (xs : List ℕ). take (length part - 1) part ++ xs) (sym back)))
  | inr other ↦ other
]

onto_onto : (a b : List ℕ) (us : List (List ℕ)) → onto_word a (onto_word b us) ≡ onto_word (a ++ b) us
onto_onto a b [] = refl
onto_onto a b (u ∷ us) = ap (λ (w : List ℕ). w ∷ us) (sym (append_assoc a b u))

mended_on : (part : List ℕ) (l : List (List ℕ)) → 0 < length l → goes_on part ≡ true → mended (part ∷ l) ≡ onto_word (with_space part) (mended l)
mended_on part [] some h = absurd (omega arith)
mended_on part (next ∷ more) some h = rw h refl

-- a part whose last space does not split
pub step_on : (word new part : List ℕ) (l : List (List ℕ)) → 0 < length l → goes_on part ≡ true → new ≡ word ++ with_space part → onto_word new (mended l) ≡ onto_word word (mended (part ∷ l))
step_on word new part l some h e =
    ap (λ (w : List ℕ). onto_word w (mended l)) e
    ∙ sym (ap (onto_word word) (mended_on part l some h) ∙ onto_onto word (with_space part) (mended l))

fresh_word : (us : List (List ℕ)) → filter is_word (onto_word [] us) ≡ filter is_word us
fresh_word [] = refl
fresh_word (u ∷ us) = refl

kept_first : (word : List ℕ) (us : List (List ℕ)) → filter is_word (word ∷ us) ≡ kept word ++ filter is_word us
kept_first word us = elim (cases_Bool (is_word word)) [
  | inl is ↦ rw is refl
  | inr other ↦ rw other refl
]

mended_apart : (part : List ℕ) (l : List (List ℕ)) → 0 < length l → goes_on part ≡ false → mended (part ∷ l) ≡ part ∷ mended l
mended_apart part [] some h = absurd (omega arith)
mended_apart part (next ∷ more) some h = rw h refl

-- a part whose last space splits: a word ends
pub step_apart : (words kept_words l : List (List ℕ)) (word whole fresh part : List ℕ) → 0 < length l → goes_on part ≡ false → whole ≡ word ++ part → kept_words ≡ words ++ kept whole → fresh ≡ []
    → kept_words ++ filter is_word (onto_word fresh (mended l)) ≡ words ++ filter is_word (onto_word word (mended (part ∷ l)))
step_apart words kept_words l word whole fresh part some h e kept_ empty =
    rw (kept_, empty, fresh_word (mended l), mended_apart part l some h, e, append_assoc words (kept (word ++ part)) (filter is_word (mended l)))
    (ap (λ (us : List (List ℕ)). words ++ us) (sym (kept_first (word ++ part) (mended l))))

-- where a word is kept that is UTF-8, all words stay so
pub kept_utf8 : (words : List (List ℕ)) (word : List ℕ) → IsUtf8 word → list_all is_utf8 words ≡ true → list_all is_utf8 (words ++ kept word) ≡ true
kept_utf8 [] word u h = elim (cases_Bool (is_word word)) [
  | inl is ↦ rw (is, is_utf8-from_IsUtf8 word u) refl
  | inr other ↦ rw other refl
]
kept_utf8 (first ∷ words) word u h =
    let parts = and_parts (is_utf8 first) (list_all is_utf8 words) h in
    rw (parts.0, kept_utf8 words word u parts.1) refl
