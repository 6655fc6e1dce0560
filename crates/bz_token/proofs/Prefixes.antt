-- The prefix of a string, by its first letters.
use Rattle.std.proofs.Common.{◌≡◌, ℕ, suc, ◌+◌, ◌==◌, List, [], ◌∷◌, length, drop, true, false, Option, None, not, refl, ap, ◌∙◌, arith, inl, inr, eqb-true}
use Rattle.std.specs.Prelude.{bytes_eq, if◌then◌else◌}
use Rattle.std.specs.List.{list_any, before_first, prefix_len}
use Rattle.std.proofs.lemmas.Bool.{cases_Bool}
use Rattle.std.proofs.lemmas.Bool.Decides.{nat_tests}
use Rattle.bz_token.specs.declared.scan_string.Opening.{Opening}
use Rattle.bz_token.specs.Strings.{is_quote, opens_after, prefixes, opening}
use Rattle.bz_token.specs.private.Closing.{prefix_letters}

abbrev by_prefix : List ℕ → List ℕ → Option Opening
by_prefix place p = if list_any (bytes_eq p) prefixes then opens_after (length p) (drop (length p) place) else None

-- a byte before the first quote
pub prefix_more : (b : ℕ) (bs : List ℕ) → is_quote b ≡ false → before_first is_quote (b ∷ bs) ≡ b ∷ before_first is_quote bs
prefix_more b bs h = rw (h, one_more (prefix_len (λ x. not (is_quote x)) bs)) refl
  where
    one_more : (n : ℕ) → 1 + n ≡ suc n
    one_more n = omega arith

-- no byte stands before it
no_prefix : (b : ℕ) (bs : List ℕ) → is_quote b ≡ true → before_first is_quote (b ∷ bs) ≡ []
no_prefix b bs h = rw h refl

letter_apart : (q c : ℕ) → is_quote q ≡ true → is_quote c ≡ false → (q == c) ≡ false
letter_apart q c quote none = grind (arith, nat_tests)

after_rb : (cs : List ℕ) → by_prefix (114 ∷ 98 ∷ cs) (114 ∷ 98 ∷ before_first is_quote cs) ≡ opens_after 2 cs
after_rb [] = refl
after_rb (d ∷ ds) = elim (cases_Bool (is_quote d)) [
  | inl quote ↦ ap (λ p. by_prefix (114 ∷ 98 ∷ d ∷ ds) (114 ∷ 98 ∷ p)) (no_prefix d ds quote)
  | inr other ↦ ap (λ p. by_prefix (114 ∷ 98 ∷ d ∷ ds) (114 ∷ 98 ∷ p)) (prefix_more d ds other) ∙ rw other refl
]

after_br : (cs : List ℕ) → by_prefix (98 ∷ 114 ∷ cs) (98 ∷ 114 ∷ before_first is_quote cs) ≡ opens_after 2 cs
after_br [] = refl
after_br (d ∷ ds) = elim (cases_Bool (is_quote d)) [
  | inl quote ↦ ap (λ p. by_prefix (98 ∷ 114 ∷ d ∷ ds) (98 ∷ 114 ∷ p)) (no_prefix d ds quote)
  | inr other ↦ ap (λ p. by_prefix (98 ∷ 114 ∷ d ∷ ds) (98 ∷ 114 ∷ p)) (prefix_more d ds other) ∙ rw other refl
]

abbrev ByLetters : List ℕ → Type 0
ByLetters place = by_prefix place (before_first is_quote place) ≡ opens_after (prefix_letters place) (drop (prefix_letters place) place)

after_r : (bs : List ℕ) → ByLetters (114 ∷ bs)
after_r bs = prefixed bs
  where
    prefixed : (bs : List ℕ) → ByLetters (114 ∷ bs)
    prefixed [] = refl
    prefixed (c ∷ cs) =
        ap (by_prefix (114 ∷ c ∷ cs)) (prefix_more 114 (c ∷ cs) refl)
        ∙ elim (cases_Bool (is_quote c)) [
          | inl quote ↦ ap (λ p. by_prefix (114 ∷ c ∷ cs) (114 ∷ p)) (no_prefix c cs quote) ∙ rw (letter_apart c 98 quote refl) refl
          | inr other ↦ ap (λ p. by_prefix (114 ∷ c ∷ cs) (114 ∷ p)) (prefix_more c cs other) ∙ letter c cs other
        ]
      where
        letter : (c : ℕ) (cs : List ℕ) → is_quote c ≡ false → by_prefix (114 ∷ c ∷ cs) (114 ∷ c ∷ before_first is_quote cs) ≡ opens_after (prefix_letters (114 ∷ c ∷ cs)) (drop (prefix_letters (114 ∷ c ∷ cs)) (114 ∷ c ∷ cs))
        letter c cs other = elim (cases_Bool (c == 98)) [
          | inl is ↦ let same : c ≡ 98 = eqb-true c 98 is in rw same (after_rb cs)
          | inr no_b ↦ rw (no_b, other) refl
        ]

after_b : (bs : List ℕ) → ByLetters (98 ∷ bs)
after_b bs = prefixed bs
  where
    prefixed : (bs : List ℕ) → ByLetters (98 ∷ bs)
    prefixed [] = refl
    prefixed (c ∷ cs) =
        ap (by_prefix (98 ∷ c ∷ cs)) (prefix_more 98 (c ∷ cs) refl)
        ∙ elim (cases_Bool (is_quote c)) [
          | inl quote ↦ ap (λ p. by_prefix (98 ∷ c ∷ cs) (98 ∷ p)) (no_prefix c cs quote) ∙ rw (letter_apart c 114 quote refl) refl
          | inr other ↦ ap (λ p. by_prefix (98 ∷ c ∷ cs) (98 ∷ p)) (prefix_more c cs other) ∙ letter c cs other
        ]
      where
        letter : (c : ℕ) (cs : List ℕ) → is_quote c ≡ false → by_prefix (98 ∷ c ∷ cs) (98 ∷ c ∷ before_first is_quote cs) ≡ opens_after (prefix_letters (98 ∷ c ∷ cs)) (drop (prefix_letters (98 ∷ c ∷ cs)) (98 ∷ c ∷ cs))
        letter c cs other = elim (cases_Bool (c == 114)) [
          | inl is ↦ let same : c ≡ 114 = eqb-true c 114 is in rw same (after_br cs)
          | inr no_r ↦ rw (no_r, other) refl
        ]

pub opening_is : (place : List ℕ) → opening place ≡ opens_after (prefix_letters place) (drop (prefix_letters place) place)
opening_is [] = refl
opening_is (a ∷ bs) = elim (cases_Bool (is_quote a)) [
  | inl quote ↦ ap (by_prefix (a ∷ bs)) (no_prefix a bs quote) ∙ rw (letter_apart a 114 quote refl, letter_apart a 98 quote refl) refl
  | inr other ↦ elim (cases_Bool (a == 114)) [
    | inl r ↦ let same : a ≡ 114 = eqb-true a 114 r in rw same (after_r bs)
    | inr no_r ↦ elim (cases_Bool (a == 98)) [
      | inl b ↦ let same : a ≡ 98 = eqb-true a 98 b in rw same (after_b bs)
      | inr no_b ↦ ap (by_prefix (a ∷ bs)) (prefix_more a bs other) ∙ rw (no_r, no_b, other) refl
    ]
  ]
]
