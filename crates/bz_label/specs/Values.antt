-- The values of string literals (Starlark specification, "String literals"), and how a value is written as
-- one. Which literals have no value, and the written form, are this project's own rule. `opening`, `quote_count`,
-- `inside`, `units` and `is_string` are those of bz_token `Strings`; a unit is a byte or an escape.
-- Begin with `value_of` and `quoted`.
use Rattle.std.specs.Prelude.{ℕ, ◌-◌, ◌==◌, List, [], ◌∷◌, ◌++◌, Bool, true, false, ◌&&◌, if◌then◌else◌, Option, Some, None, option_map, codes, length, take, bytes_eq, option_and_then}
use Rattle.std.specs.List.{flat_map, find}
use Rattle.bz_token.specs.declared.scan_string.Opening.{Opening}
use Rattle.bz_token.specs.Common.{first_of, map_or}
use Rattle.bz_token.specs.Strings.{is_byte, opening, quote_count, inside, is_string}

-- the units between the quotes of one whole literal: those after the opening quotes, but for as many at the
-- end as there are opening quotes
abbrev pub content : Opening → List ℕ → List (List ℕ)
content o text = take (length (inside o text) - quote_count o.quotes.long) (inside o text)

-- The escapes that have a value, a b f n r t v, backslash and both quotes: what stands after the backslash,
-- and the value. No other has one, as octal, `x`, `u` and a backslash before a newline.
abbrev pub escapes : List (ℕ × ℕ)
escapes =
    (97, 7) ∷ (98, 8) ∷ (102, 12) ∷ (110, 10) ∷ (114, 13) ∷ (116, 9) ∷ (118, 11)
    ∷ (92, 92) ∷ (39, 39) ∷ (34, 34) ∷ []

-- the value of an escape, by the byte after the backslash
abbrev pub escape_value : ℕ → Option ℕ
escape_value b = option_map (λ e. e.1) (find (λ e. b == e.0) escapes)

-- the value of a unit: a byte has its own; an escape, a backslash and one byte, has none in a raw string
abbrev pub unit_value : Bool → List ℕ → Option ℕ
unit_value raw (b ∷ []) = Some b
unit_value raw (backslash ∷ b ∷ []) = if raw then None else escape_value b
unit_value raw _ = None

-- the values of all units, where each has one; a carriage return before a newline is left out
abbrev pub values : Bool → List (List ℕ) → Option (List ℕ)
values raw [] = Some []
values raw (u ∷ us) =
    if is_byte 13 u && map_or false (is_byte 10) (first_of us) then values raw us
    else option_and_then (λ b. option_map (λ bs. b ∷ bs) (values raw us)) (unit_value raw u)

-- the value of the units of a literal with this prefix: none, where the prefix has a `b`
abbrev pub value_after : List ℕ → List (List ℕ) → Option (List ℕ)
value_after prefix us =
    if bytes_eq prefix [] then values false us
    else (if bytes_eq prefix (codes "r") then values true us else None)

-- the value of a text that is one whole literal; any other text has none
abbrev pub value_of : List ℕ → Option (List ℕ)
value_of text =
    option_and_then (λ o. if is_string text then value_after (take o.prefix text) (content o text) else None)
    (opening text)

-- how a byte of a value is written in a new literal
abbrev pub written : ℕ → List ℕ
written b =
    if b == 92 then codes "\\\\"
    else (if b == 34 then codes "\\\""
    else (if b == 10 then codes "\\n"
    else (if b == 13 then codes "\\r"
    else (if b == 9 then codes "\\t" else b ∷ []))))

-- the literal that is written for a value
abbrev pub quoted : List ℕ → List ℕ
quoted value = 34 ∷ (flat_map written value ++ 34 ∷ [])
