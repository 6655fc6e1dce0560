-- For private clauses and proofs: strings in one quote and in three, each by itself.
use Rattle.std.specs.Prelude.{ℕ, ◌+◌, List, [], ◌∷◌, Bool, true, false, not, ◌&&◌, ◌||◌, ◌==◌}
use Rattle.std.specs.List.{list_any}
use Rattle.bz_token.specs.declared.scan_string.Quotes.{Quotes}
use Rattle.bz_token.specs.Strings.{is_byte, is_quote, units, but_last}

-- a short string ends with the first quote, a newline breaks it off; without either it is open
abbrev pub stops_short : ℕ → List ℕ → Bool
stops_short quote unit = is_byte quote unit || is_byte 10 unit

abbrev pub is_short_string : List ℕ → Bool
is_short_string [] = false
is_short_string (quote ∷ inside) = is_quote quote && not (list_any (stops_short quote) (but_last (units inside)))

abbrev pub breaks_short : List ℕ → Bool
breaks_short [] = false
breaks_short (quote ∷ inside) = is_short_string (quote ∷ inside) && list_any (is_byte 10) (units inside)

-- whether three quotes stand in a row, where so many stand directly before
abbrev pub three_in_a_row : ℕ → ℕ → List (List ℕ) → Bool
three_in_a_row quote before [] = false
three_in_a_row quote before (u ∷ us) =
    elim (is_byte quote u) [ true ↦ before == 2 || three_in_a_row quote (before + 1) us | false ↦ three_in_a_row quote 0 us ]

-- a long string ends with the first three quotes in a row; without them it is open
abbrev pub is_long_string : List ℕ → Bool
is_long_string (a ∷ b ∷ c ∷ inside) = is_quote a && b == a && c == a && not (three_in_a_row a 0 (but_last (units inside)))
is_long_string _ = false

-- closing quotes stand at the end of these units, and nothing stops the string before
abbrev pub is_closed_inside : Quotes → List (List ℕ) → Bool
is_closed_inside quotes inside = elim quotes.long [
  | false ↦ list_any (is_byte quotes.byte) inside && not (list_any (stops_short quotes.byte) (but_last inside))
  | true ↦ three_in_a_row quotes.byte 0 inside && not (three_in_a_row quotes.byte 0 (but_last inside))
]
