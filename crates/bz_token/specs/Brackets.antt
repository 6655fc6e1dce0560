-- Which brackets are open, and which tokens fit there (Starlark specification, "Lexical elements": a newline
-- within brackets is white space; the greatest depth is this project's own rule). Open brackets are listed
-- from the innermost outwards.
-- Begin with `fits`, `open_after_token` and `open_tokens`.
use Rattle.std.specs.Prelude.{ℕ, List, [], ◌∷◌, length, drop, Bool, true, false, not, ◌&&◌, ◌||◌, ◌==◌, nat_lt, if◌then◌else◌}
use Rattle.bz_token.specs.declared.token.Kind.{Kind}
use Rattle.bz_token.specs.declared.token.Kind.TheVariants.{Newline}
use Rattle.bz_token.specs.Common.{is_filled}
use Rattle.bz_token.specs.Pieces.{is_one}
use Rattle.bz_token.specs.Places.{Placed}

-- `(`, `[` or `{`
abbrev pub is_opening_bracket : ℕ → Bool
is_opening_bracket b = b == 40 || b == 91 || b == 123

-- `)`, `]` or `}`
abbrev pub is_closing_bracket : ℕ → Bool
is_closing_bracket b = b == 41 || b == 93 || b == 125

-- an opening bracket and a closing one of the same shape
abbrev pub is_pair : ℕ → ℕ → Bool
is_pair a b = (a == 40 && b == 41) || (a == 91 && b == 93) || (a == 123 && b == 125)

-- some bracket is open (`is_filled`, by what it means here)
abbrev pub is_inside : List ℕ → Bool
is_inside opened = is_filled opened

-- a closing bracket matches the innermost open one
abbrev pub closes_innermost : List ℕ → ℕ → Bool
closes_innermost [] b = false
closes_innermost (a ∷ opened) b = is_pair a b

-- a bracket fits: at most so many are open then, and each closing one matches
abbrev pub bracket_fits : ℕ → List ℕ → ℕ → Bool
bracket_fits depth opened b =
    if is_opening_bracket b then nat_lt (length opened) depth
    else (if is_closing_bracket b then closes_innermost opened b else true)

-- a newline token
abbrev pub is_line : Kind → Bool
is_line Newline = true
is_line _ = false

-- a token fits where these brackets are open; newlines are tokens outside brackets alone
abbrev pub fits : ℕ → List ℕ → Kind → List ℕ → Bool
fits depth opened kind (b ∷ []) = not (is_line kind && is_inside opened) && bracket_fits depth opened b
fits depth opened kind _ = true

-- the brackets that are open after a token, or after a piece of a file (`Pieces`): in both a bracket is one
-- byte
abbrev pub open_after_token : List ℕ → List ℕ → List ℕ
open_after_token opened (b ∷ []) =
    if is_opening_bracket b then b ∷ opened else (if is_closing_bracket b then drop 1 opened else opened)
open_after_token opened _ = opened

-- the same after a list of tokens, but each open bracket as its token, which has its place
abbrev pub open_tokens : List Placed → List Placed → List Placed
open_tokens opened [] = opened
open_tokens opened (t ∷ ts) =
    open_tokens
    (if is_one is_opening_bracket t.text then t ∷ opened
    else (if is_one is_closing_bracket t.text then drop 1 opened else opened)) ts
