-- For private clauses alone: a literal read unit by unit, where a carriage return and a newline are one unit.
use Rattle.std.specs.Prelude.{ℕ, nat_eq, ◌==◌, List, [], ◌∷◌, length, Bool, false, ◌&&◌, ◌||◌, if◌then◌else◌, Option, Some, None, bytes_eq, drop, take, option_map, option_and_then}
use Rattle.std.specs.List.{concat, starts_with}
use Rattle.bz_token.specs.Groups.{grouped}
use Rattle.bz_token.specs.Strings.{is_quote}
use Rattle.bz_label.specs.Values.{escape_value}
use Rattle.bz_label.specs.Literals.{is_plain}

-- What stands between a literal's quotes is units. An escape is one: a backslash takes the byte after it, and a carriage
-- return also the newline after that. A carriage return and a newline are one. Any other byte is one.
abbrev pub takes : List ℕ → ℕ → Bool
takes unit b = bytes_eq unit (92 ∷ []) || (bytes_eq unit (92 ∷ 13 ∷ []) || bytes_eq unit (13 ∷ [])) && b == 10

abbrev pub units : List ℕ → List (List ℕ)
units bytes = grouped takes bytes

-- a newline that no backslash escapes
abbrev pub is_newline : List ℕ → Bool
is_newline unit = bytes_eq unit (10 ∷ []) || bytes_eq unit (13 ∷ 10 ∷ [])

-- The units before the closing quotes, which are as the opening ones and stand once, at the end. A string in one quote
-- holds no newline.
abbrev pub content : List ℕ → List (List ℕ) → Option (List (List ℕ))
content quotes [] = None
content quotes (u ∷ us) =
    if starts_with nat_eq (concat (u ∷ us)) quotes then (if bytes_eq (concat (u ∷ us)) quotes then Some [] else None)
    else (if length quotes == 1 && is_newline u then None else option_map (λ inner. u ∷ inner) (content quotes us))

-- three opening quotes where there are three, else one
abbrev pub opening : List ℕ → List ℕ
opening [] = []
opening (q ∷ bs) = if starts_with nat_eq bs (q ∷ q ∷ []) then q ∷ q ∷ q ∷ [] else q ∷ []

-- the units of a text that begins with its opening quotes
abbrev pub inner_of : List ℕ → Option (List (List ℕ))
inner_of text = content (opening text) (units (drop (length (opening text)) text))

-- the value of a unit: in a raw string no escape has one, and a carriage return before a newline is left out
abbrev pub unit_value : Bool → List ℕ → Option ℕ
unit_value raw [] = None
unit_value raw (b ∷ []) = if b == 92 then None else Some b
unit_value raw (b ∷ c ∷ []) = if b == 92 then (if raw then None else escape_value c) else Some c
unit_value raw (b ∷ c ∷ d ∷ bs) = None

-- each unit has one
abbrev pub values : Bool → List (List ℕ) → Option (List ℕ)
values raw [] = Some []
values raw (u ∷ us) = option_and_then (λ b. option_map (λ bs. b ∷ bs) (values raw us)) (unit_value raw u)

-- one byte more, and all are such
abbrev pub plain_too : ℕ → Bool → ℕ → Bool
plain_too quote plain b = plain && is_plain quote b

-- the length of the first unit
abbrev pub first_len : List ℕ → ℕ
first_len [] = 0
first_len (b ∷ []) = 1
first_len (b ∷ c ∷ []) = if b == 92 || b == 13 && c == 10 then 2 else 1
first_len (b ∷ c ∷ d ∷ bs) = if b == 92 then (if c == 13 && d == 10 then 3 else 2) else (if b == 13 && c == 10 then 2 else 1)

-- the value is this one
abbrev pub is_value : List ℕ → Option (List ℕ) → Bool
is_value value None = false
is_value value (Some other) = bytes_eq value other

-- the value of what stands after the opening quotes
abbrev pub inner_value : Bool → List ℕ → List ℕ → Option (List ℕ)
inner_value raw quotes inner = option_and_then (values raw) (content quotes (units inner))

-- the value of a unit that may stand in a literal with one quote, or with three
abbrev pub value_in : Bool → Bool → List ℕ → Option ℕ
value_in raw short unit = if short && is_newline unit then None else unit_value raw unit

-- the value of the first unit, and what stands after it
abbrev pub taken : Bool → Bool → List ℕ → Option (ℕ × List ℕ)
taken raw short bytes = option_map (λ b. (b, drop (first_len bytes) bytes)) (value_in raw short (take (first_len bytes) bytes))

-- the value of a literal without its prefix
abbrev pub opened_value : Bool → List ℕ → Option (List ℕ)
opened_value raw [] = None
opened_value raw (q ∷ bs) = if is_quote q then option_and_then (values raw) (inner_of (q ∷ bs)) else None

-- a byte for which an escape is written
abbrev pub is_escaped : ℕ → Bool
is_escaped b = b == 92 || (b == 34 || (b == 10 || (b == 13 || b == 9)))
