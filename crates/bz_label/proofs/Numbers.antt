-- Line numbers.
use Rattle.std.proofs.Common.{◌≡◌, ℕ, ◌<◌, ◌^◌, List, [], ◌∷◌, length, true, false, not, arith, inl, inr}
use Rattle.std.specs.Prelude.{nat_lt, Result, Ok, Err, is_ok, bytes_eq}
use Rattle.std.specs.List.{list_all}
use Rattle.std.specs.Char.{is_ascii_digit}
use Rattle.std.specs.Str.Parse.{ParsesUnsigned, digits_value}
use Rattle.std.proofs.Common.{rules}
use Rattle.std.proofs.lemmas.Bool.{cases_Bool, and_parts, ltb-true}
use Rattle.std.proofs.lemmas.Str.Parse.{IsNumeralModel, numerals_by_value, parse_digits}
use Rattle.bz_label.specs.Labels.{is_number}

own : IsNumeralModel (λ ds. list_all is_ascii_digit ds ≡ true) (digits_value 10)
own = numerals_by_value _ (search rules)

some : (text : List ℕ) → is_number text ≡ true → 0 < length text
some [] h = absurd (cc)
some (d ∷ ds) h = omega arith

-- a line number that does not fit
pub too_large : {E : Type 0} (text : List ℕ) (r : Result ℕ E) → ParsesUnsigned 64 10 text r → is_ok r ≡ false → is_number text ≡ true → nat_lt (digits_value 10 text) (2 ^ 64) ≡ false
too_large text (Ok line) h is number = absurd (cc)
too_large text (Err e) h is number =
    let digits = (and_parts (not (bytes_eq text [])) (list_all is_ascii_digit text) number).1 in
    elim (cases_Bool (nat_lt (digits_value 10 text) (2 ^ 64))) [
      | inl fits ↦ let parsed = parse_digits own 64 text (Err e) h digits in absurd (parsed (some text number, ltb-true (digits_value 10 text) (2 ^ 64) fits))
      | inr large ↦ large
    ]
