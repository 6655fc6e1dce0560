-- How a value is written, character by character.
use Rattle.std.proofs.Common.{◌≡◌, ℕ, suc, ◌<◌, ◌≤◌, List, [], ◌∷◌, length, get_or, encode_utf8, refl, sym, arith, inl, inr, append-nil, true, false, not, ◌==◌}
use Rattle.std.specs.List.{flat_map, list_all}
use Rattle.std.proofs.lemmas.Bool.{ne_eqb, cases_lt, and_parts, or_parts, not-true}
use Rattle.std.proofs.lemmas.Str.{inside_one, encode_ascii}
use Rattle.bz_label.specs.Values.{written}
use Rattle.bz_label.specs.private.ValueSteps.{is_escaped}

abbrev IsHigh : List ℕ → Type 0
IsHigh bs = (k : ℕ) → k < length bs → 128 ≤ get_or bs k 0

written_high : (b : ℕ) → 128 ≤ b → written b ≡ b ∷ []
written_high b h =
    rw (ne_eqb b 92 (λ e. omega arith), ne_eqb b 34 (λ e. omega arith), ne_eqb b 10 (λ e. omega arith), ne_eqb b 13 (λ e. omega arith), ne_eqb b 9 (λ e. omega arith)) refl

all_high : (bs : List ℕ) → IsHigh bs → flat_map written bs ≡ bs
all_high [] h = refl
all_high (b ∷ bs) h = rw (written_high b (h 0 (omega arith)), all_high bs (λ k l. h (suc k) (omega arith))) refl

char_high : (c : ℕ) → 128 ≤ c → IsHigh (encode_utf8 c)
char_high c h k l = elim (cases_lt (get_or (encode_utf8 c) k 0) 128) [
  | inl low ↦ let e : c ≡ get_or (encode_utf8 c) k 0 = inside_one c [] (encode_utf8 c) k (sym (append-nil (encode_utf8 c))) l low in absurd (omega arith)
  | inr high ↦ high
]

-- a character that no escape is written for
pub plain_char : (c : ℕ) → (c ≡ 92 → ⊥) → (c ≡ 34 → ⊥) → (c ≡ 10 → ⊥) → (c ≡ 13 → ⊥) → (c ≡ 9 → ⊥) → flat_map written (encode_utf8 c) ≡ encode_utf8 c
plain_char c a b d e f = elim (cases_lt c 128) [
  | inl low ↦ rw (encode_ascii c low, ne_eqb c 92 a, ne_eqb c 34 b, ne_eqb c 10 d, ne_eqb c 13 e, ne_eqb c 9 f) refl
  | inr high ↦ all_high (encode_utf8 c) (char_high c high)
]

-- bytes of which no escape is written for one
written_plain : (b : ℕ) → is_escaped b ≡ false → written b ≡ b ∷ []
written_plain b plain =
    let first = or_parts (b == 92) _ plain in
    let second = or_parts (b == 34) _ first.1 in
    let third = or_parts (b == 10) _ second.1 in
    let fourth = or_parts (b == 13) (b == 9) third.1 in
    rw (first.0, second.0, third.0, fourth.0, fourth.1) refl

pub plain_bytes : (bs : List ℕ) → list_all (λ b. not (is_escaped b)) bs ≡ true → flat_map written bs ≡ bs
plain_bytes [] h = refl
plain_bytes (b ∷ bs) h =
    let parts = and_parts (not (is_escaped b)) (list_all (λ b. not (is_escaped b)) bs) h in
    rw (written_plain b (not-true (is_escaped b) parts.0), plain_bytes bs parts.1) refl
