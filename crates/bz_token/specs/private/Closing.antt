-- For private clauses: what opens a string and where it closes, a byte at a time.
use Rattle.std.specs.Prelude.{ℕ, ◌+◌, List, [], ◌∷◌, Bool, true, false, not, ◌&&◌, ◌||◌, ◌==◌, if◌then◌else◌, Option}
use Rattle.bz_token.specs.declared.scan_string.Escape.{Escape}
use Rattle.bz_token.specs.declared.scan_string.Escape.TheVariants.{Unescaped, AfterBackslash, AfterReturn}
use Rattle.bz_token.specs.declared.scan_string.Quotes.{Quotes}
use Rattle.bz_token.specs.declared.scan_string.Opening.{Opening}
use Rattle.bz_token.specs.Strings.{quote_count, has_closing, inside, has_no_earlier_end}
use Rattle.bz_token.specs.Common.{begins, is_empty, map_or}

-- the letters `r`, `b`, `rb` and `br` that stand here
abbrev pub prefix_letters : List ℕ → ℕ
prefix_letters [] = 0
prefix_letters (a ∷ bs) =
    if a == 114 then (if begins (λ b. b == 98) bs then 2 else 1)
    else (if a == 98 then (if begins (λ b. b == 114) bs then 2 else 1) else 0)

abbrev pub opening_length : Opening → ℕ
opening_length o = o.prefix + quote_count o.quotes.long

abbrev pub is_closed : Option Opening → List ℕ → Bool
is_closed opened text = map_or false (λ o. has_closing o.quotes (inside o text) && has_no_earlier_end o text) opened

-- a backslash takes the byte after it along, and a newline after that where it is a carriage return
abbrev pub is_escaped : Escape → ℕ → Bool
is_escaped Unescaped b = false
is_escaped AfterBackslash b = true
is_escaped AfterReturn b = b == 10

abbrev pub starts_escape : ℕ → Escape
starts_escape b = if b == 92 then AfterBackslash else Unescaped

abbrev pub escape_after : Escape → ℕ → Escape
escape_after Unescaped b = starts_escape b
escape_after AfterBackslash b = if b == 13 then AfterReturn else Unescaped
escape_after AfterReturn b = starts_escape b

-- The closing quotes stand unescaped once, at the end; no unescaped newline stands in a short string. `row` quotes stand before.
abbrev pub closes : Quotes → ℕ → Escape → List ℕ → Bool
closes quotes row escape [] = false
closes quotes row escape (b ∷ bs) = elim (is_escaped escape b) [
  | true ↦ closes quotes 0 (escape_after escape b) bs
  | false ↦ elim (b == quotes.byte) [
    | true ↦ elim (row + 1 == quote_count quotes.long) [
      | true ↦ is_empty bs
      | false ↦ closes quotes (row + 1) (escape_after escape b) bs
    ]
    | false ↦ (quotes.long || not (b == 10)) && closes quotes 0 (escape_after escape b) bs
  ]
]
