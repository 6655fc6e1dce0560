-- For private clauses: what begins with a byte.
use Rattle.std.specs.Prelude.{◌≡◌, ℕ, Bool, false, ◌||◌, ◌==◌, if◌then◌else◌}
use Rattle.std.specs.Char.{is_ascii_digit}
use Rattle.bz_token.specs.declared.table.ByteClass.{ByteClass}
use Rattle.bz_token.specs.declared.table.ByteClass.TheVariants.{Unknown, Space, Newline, Letter, Prefix, Digit, Quote, Hash, Backslash, Open, Close, Point, Operator}
use Rattle.bz_token.specs.Strings.{is_quote}
use Rattle.bz_token.specs.Lexical.{is_word_byte}
use Rattle.bz_token.specs.Brackets.{is_opening_bracket, is_closing_bracket}
use Rattle.bz_token.specs.Pieces.{is_blank}

-- the letters of a string's prefix
abbrev pub is_prefix_letter : ℕ → Bool
is_prefix_letter b = b == 114 || b == 98

-- an operator that is no bracket, and whole whatever follows it
abbrev pub is_point : ℕ → Bool
is_point b = b == 126 || b == 46 || b == 44 || b == 59 || b == 58

-- the first bytes of the other operators
abbrev pub is_operator_start : ℕ → Bool
is_operator_start b =
    b == 43 || b == 45 || b == 42 || b == 47 || b == 37 || b == 38 || b == 124 || b == 94 || b == 60 || b == 62 || b == 61 || b == 33

abbrev pub class_of : ℕ → ByteClass
class_of b =
    if is_word_byte b then (if is_ascii_digit b then Digit else (if is_prefix_letter b then Prefix else Letter))
    else (if is_blank b then Space
    else (if b == 10 then Newline
    else (if is_quote b then Quote
    else (if b == 35 then Hash
    else (if b == 92 then Backslash
    else (if is_opening_bracket b then Open
    else (if is_closing_bracket b then Close
    else (if is_point b then Point
    else (if is_operator_start b then Operator else Unknown)))))))))

-- nothing begins with the byte but an operator, if one does
abbrev pub IsMark : ℕ → Type 0
IsMark b = (is_word_byte b ≡ false) × (is_quote b ≡ false) × ((b == 10) ≡ false) × ((b == 35) ≡ false) × ((b == 92) ≡ false)

-- no gap begins with the byte
abbrev pub IsSolid : ℕ → Type 0
IsSolid b = (is_blank b ≡ false) × ((b == 10) ≡ false) × ((b == 92) ≡ false)

-- an operator that is whole, whatever follows it
abbrev pub is_single : ℕ → Bool
is_single b = is_opening_bracket b || is_closing_bracket b || is_point b
