-- The first newline ends the run of all other bytes.
use Rattle.std.proofs.Common.{◌≡◌, ℕ, ◌<◌, List, length, get_or, Bool, true, false, not, arith, inl, inr}
use Rattle.std.specs.Prelude.{Some, None}
use Rattle.std.specs.List.{prefix_len}
use Rattle.std.proofs.lemmas.List.Sums.{prefix_len_passes, prefix_len_stops, prefix_len-le-length}
use Rattle.std.proofs.lemmas.Bool.{cases_lt, false≢true, not-false}
use Rattle.memchr.specs.Find.{IsFirstByte, is_byte}
use Rattle.bz_token.specs.Common.{is_newline}

not_both : (x : Bool) → not x ≡ true → x ≡ true → ⊥
not_both true n h = false≢true n
not_both false n h = false≢true h

passes : (xs : List ℕ) (k : ℕ) → k < prefix_len (λ b. not (is_newline b)) xs → is_byte 10 (get_or xs k 0) ≡ true → ⊥
passes xs k less is = not_both (is_newline (get_or xs k 0)) (prefix_len_passes (λ b. not (is_newline b)) xs k 0 less) is

stops : (xs : List ℕ) → prefix_len (λ b. not (is_newline b)) xs < length xs → is_byte 10 (get_or xs (prefix_len (λ b. not (is_newline b)) xs) 0) ≡ true
stops xs less = not-false (is_newline (get_or xs (prefix_len (λ b. not (is_newline b)) xs) 0)) (prefix_len_stops (λ b. not (is_newline b)) xs 0 less)

pub line_some : (xs : List ℕ) (k : ℕ) → IsFirstByte (is_byte 10) xs (Some k) → k ≡ prefix_len (λ b. not (is_newline b)) xs
line_some xs k is =
    let n = prefix_len (λ b. not (is_newline b)) xs in
    elim (cases_lt k n) [
      | inl less ↦ absurd (passes xs k less is.1)
      | inr most ↦ elim (cases_lt n k) [
        | inl more ↦ absurd (is.0.before n (omega arith) more (stops xs (omega (arith, more, is.0.high))))
        | inr least ↦ omega (arith, most, least)
      ]
    ]

pub line_none : (xs : List ℕ) → IsFirstByte (is_byte 10) xs None → length xs ≡ prefix_len (λ b. not (is_newline b)) xs
line_none xs is =
    let n = prefix_len (λ b. not (is_newline b)) xs in
    elim (cases_lt n (length xs)) [
      | inl less ↦ absurd (is n (omega arith) less (stops xs less))
      | inr most ↦ omega (arith, most, prefix_len-le-length (λ b. not (is_newline b)) xs)
    ]
