-- What a file is made of, as far as cutting it goes: strings, comments, continued lines and single bytes
-- (Starlark specification, "Lexical elements").
-- Begin with `is_piece`, `is_broken_off` and `is_space`.
use Rattle.std.specs.Prelude.{ℕ, List, [], ◌∷◌, Bool, true, false, not, ◌&&◌, ◌||◌, ◌==◌, bytes_eq}
use Rattle.std.specs.List.{list_any}
use Rattle.bz_token.specs.Common.{begins, is_newline, map_or}
use Rattle.bz_token.specs.Strings.{opens_after, inside, has_break, has_no_earlier_end}

-- a string without its prefix: closed, broken off, or open to the end of the text
abbrev pub is_quoted : List ℕ → Bool
is_quoted text = map_or false (λ o. has_no_earlier_end o text) (opens_after 0 text)

-- a string without its prefix that ends with the newline that breaks it off
abbrev pub is_broken_off : List ℕ → Bool
is_broken_off text =
    map_or false (λ o. has_no_earlier_end o text && has_break o.quotes (inside o text)) (opens_after 0 text)

-- a number sign (35) and what follows it on its line, white space at its end too (as a token it ends before
-- that: `is_comment` of `Lexical`)
abbrev pub is_comment : List ℕ → Bool
is_comment text = begins (λ b. b == 35) text && not (list_any is_newline text)

-- a backslash directly before a newline, or before a carriage return and a newline (92, 10 and 13)
abbrev pub is_continued : List ℕ → Bool
is_continued text = bytes_eq text (92 ∷ 10 ∷ []) || bytes_eq text (92 ∷ 13 ∷ 10 ∷ [])

-- one byte, which passes the test (`is_byte b` of `Strings` is this with the test `λ x. x == b`)
abbrev pub is_one : (ℕ → Bool) → List ℕ → Bool
is_one test (b ∷ []) = test b
is_one test _ = false

-- a piece; the longest one at a place counts (`Munch`)
abbrev pub is_piece : List ℕ → Bool
is_piece text = is_one (λ b. true) text || is_comment text || is_continued text || is_quoted text

-- white space within a line: space, tab and carriage return
abbrev pub is_blank : ℕ → Bool
is_blank b = b == 32 || b == 9 || b == 13

-- white space; whether newlines are
abbrev pub is_white : Bool → ℕ → Bool
is_white newlines b = is_blank b || (newlines && is_newline b)

-- a piece that is white space or continues a line
abbrev pub is_space : Bool → List ℕ → Bool
is_space newlines text = is_one (is_white newlines) text || is_continued text
