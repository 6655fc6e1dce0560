-- Which first byte after a token's text ends the token there, so that no longer one stands at its place.
use Rattle.std.specs.Prelude.{ℕ, ◌+◌, List, [], ◌∷◌, ◌++◌, length, take, codes, Bool, true, false, not, ◌&&◌, ◌==◌, Option, Some, None}
use Rattle.std.specs.List.{list_all, prefix_len}
use Rattle.bz_token.specs.declared.token.Kind.{Kind}
use Rattle.bz_token.specs.declared.token.Kind.TheVariants.{Identifier, Keyword, Integer, String, Operator, Newline, Comment, Kept}
use Rattle.bz_token.specs.declared.scan_string.Opening.{Opening}
use Rattle.bz_token.specs.Strings.{is_quote, opening}
use Rattle.bz_token.specs.Lexical.{is_word_byte, is_operator_text}
use Rattle.bz_token.specs.Common.{is_newline, is_one_of}
use Rattle.bz_token.specs.Pieces.{is_blank}

abbrev pub is_prefix : List ℕ → Bool
is_prefix text = is_one_of (codes "r" ∷ codes "b" ∷ codes "rb" ∷ codes "br" ∷ []) text

-- one quote more makes three of two
abbrev pub is_empty_string : Option Opening → List ℕ → ℕ → Bool
is_empty_string None text b = false
is_empty_string (Some o) text b = not o.quotes.long && (length text == o.prefix + 2) && (b == o.quotes.byte)

-- the byte after a text of this kind ends it; of a comment only a newline is sure to
abbrev pub stops : Kind → List ℕ → ℕ → Bool
stops Identifier text b = not (is_word_byte b) && not (is_quote b && is_prefix text)
stops Keyword text b = not (is_word_byte b)
stops Integer text b = not (is_word_byte b)
stops String text b = not (is_empty_string (opening text) text b)
stops Operator text b = not (is_operator_text (text ++ b ∷ []))
stops Newline text b = true
stops Comment text b = b == 10
stops Kept text b = true

abbrev pub stops_at : Kind → List ℕ → List ℕ → Bool
stops_at kind text [] = true
stops_at kind text (b ∷ bs) = stops kind text b

abbrev pub is_comment_kind : Kind → Bool
is_comment_kind Comment = true
is_comment_kind _ = false

-- what follows a text of this kind ends it: of a comment, white space up to the line's end
abbrev pub ends : Kind → List ℕ → List ℕ → Bool
ends kind text after = elim (is_comment_kind kind) [
  | true ↦ list_all is_blank (take (prefix_len (λ b. not (is_newline b)) after) after)
  | false ↦ stops_at kind text after
]
