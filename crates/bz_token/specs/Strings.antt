-- String literals (Starlark specification, "String literals"; a prefix may also be `b`, as in Python): what
-- opens one, what stands inside, and what closes it.
-- Begin with `opening` and `is_string`.
use Rattle.std.specs.Prelude.{ℕ, ◌+◌, ◌-◌, List, [], ◌∷◌, length, take, drop, replicate, Bool, true, false, not, ◌&&◌, ◌||◌, ◌==◌, if◌then◌else◌, codes, bytes_eq, Option, Some, None}
use Rattle.std.specs.List.{list_any, before_first, starts_with}
use Rattle.bz_token.specs.declared.scan_string.Quotes.{Quotes}
use Rattle.bz_token.specs.declared.scan_string.Opening.{Opening}
use Rattle.bz_token.specs.Common.{begins, is_one_of, map_or}
use Rattle.bz_token.specs.Groups.{grouped}

-- a text that is this byte alone
abbrev pub is_byte : ℕ → List ℕ → Bool
is_byte b text = bytes_eq text (b ∷ [])

-- `"` (34) or `'` (39)
abbrev pub is_quote : ℕ → Bool
is_quote b = b == 34 || b == 39

-- two of these quotes come first
abbrev pub are_two : ℕ → List ℕ → Bool
are_two q [] = false
are_two q (a ∷ bs) = a == q && begins (λ b. b == q) bs

-- the quotes that stand here, after so many prefix letters: three where there are three, else one (`Opening`
-- and `Quotes` are structs of `src/scan_string.rt`)
abbrev pub opens_after : ℕ → List ℕ → Option Opening
opens_after prefix [] = None
opens_after prefix (q ∷ bs) =
    if is_quote q
    then Some (record { prefix = prefix; quotes = record { byte = q; long = are_two q bs } }) else None

-- the prefixes of strings; an `r` is raw, a `b` makes a bytes literal
abbrev pub prefixes : List (List ℕ)
prefixes = [] ∷ codes "r" ∷ codes "b" ∷ codes "rb" ∷ codes "br" ∷ []

-- what opens the string that begins at a place (`place`: the bytes from there to the end of the text, here and
-- in later files): a prefix, which is what stands before the first quote, and quotes
abbrev pub opening : List ℕ → Option Opening
opening place =
    let prefix = before_first is_quote place in
    if is_one_of prefixes prefix
    then opens_after (length prefix) (drop (length prefix) place) else None

-- how many quotes in a row close a string: three if it is long, else one
abbrev pub quote_count : Bool → ℕ
quote_count false = 1
quote_count true = 3

-- Whether an escape takes one more byte along: a backslash takes the byte after it, or a carriage return and
-- a newline (92, 13 and 10).
abbrev pub escape_takes : List ℕ → ℕ → Bool
escape_takes unit b = is_byte 92 unit || (bytes_eq unit (92 ∷ 13 ∷ []) && b == 10)

-- the units of bytes: escapes, and bytes that belong to none
abbrev pub units : List ℕ → List (List ℕ)
units bytes = grouped escape_takes bytes

-- the units after the opening quotes
abbrev pub inside : Opening → List ℕ → List (List ℕ)
inside o text = units (drop (o.prefix + quote_count o.quotes.long) text)

-- closing quotes stand among these units
abbrev pub has_closing : Quotes → List (List ℕ) → Bool
has_closing quotes [] = false
has_closing quotes (u ∷ us) =
    starts_with bytes_eq (u ∷ us) (replicate (quote_count quotes.long) (quotes.byte ∷ []))
    || has_closing quotes us

-- a newline breaks off a string in one quote
abbrev pub has_break : Quotes → List (List ℕ) → Bool
has_break quotes us = not quotes.long && list_any (is_byte 10) us

-- the units without the last one
abbrev pub but_last : List (List ℕ) → List (List ℕ)
but_last (u ∷ v ∷ us) = u ∷ but_last (v ∷ us)
but_last _ = []

-- nothing ends the string before its text ends: at that end it is closed, broken off or still open
abbrev pub has_no_earlier_end : Opening → List ℕ → Bool
has_no_earlier_end o text =
    let before = but_last (inside o text) in not (has_closing o.quotes before || has_break o.quotes before)

-- one whole literal
abbrev pub is_string : List ℕ → Bool
is_string text =
    map_or false (λ o. has_closing o.quotes (inside o text) && has_no_earlier_end o text) (opening text)
