-- The texts of each kind of token (Starlark specification, "Lexical elements"), each a test of a whole text,
-- and which of them count at a place. Own to this project: letters are those of ASCII, words that are only
-- reserved are identifiers, a decimal number may begin with 0.
-- Begin with `IsToken`.
use Rattle.std.specs.Prelude.{ℕ, ◌≡◌, List, [], ◌∷◌, ◌++◌, length, Bool, true, false, not, ◌&&◌, ◌||◌, ◌==◌, nat_le, codes, Some, None}
use Rattle.std.specs.List.{list_all, prefix_len}
use Rattle.std.specs.Char.{is_ascii_digit, is_ascii_hexdigit, is_ascii_alphabetic}
use Rattle.bz_token.specs.declared.token.Kind.{Kind}
use Rattle.bz_token.specs.declared.token.Kind.TheVariants.{Identifier, Keyword, Integer, String, Operator, Newline, Comment, Kept}
use Rattle.bz_token.specs.Strings.{is_byte, opening, is_string}
use Rattle.bz_token.specs.Pieces.{is_blank}
use Rattle.bz_token.specs.Pieces as pieces
use Rattle.bz_token.specs.Common.{begins, is_empty, is_one_of, map_or}

-- ASCII letters, digits and underscores
abbrev pub is_word_byte : ℕ → Bool
is_word_byte b = is_ascii_alphabetic b || is_ascii_digit b || b == 95

-- letters, digits and underscores, not beginning with a digit
abbrev pub is_name : List ℕ → Bool
is_name text = not (is_empty text) && not (begins is_ascii_digit text) && list_all is_word_byte text

-- the keywords
unfoldable pub keywords : List (List ℕ)
keywords =
    codes "and" ∷ codes "break" ∷ codes "continue" ∷ codes "def" ∷ codes "elif" ∷ codes "else"
    ∷ codes "for" ∷ codes "if" ∷ codes "in" ∷ codes "lambda" ∷ codes "load" ∷ codes "not" ∷ codes "or"
    ∷ codes "pass" ∷ codes "return" ∷ []

-- a keyword
abbrev pub is_keyword : List ℕ → Bool
is_keyword text = is_one_of keywords text

-- `0` to `7`
abbrev pub is_octal_digit : ℕ → Bool
is_octal_digit b = nat_le 48 b && nat_le b 55

-- the letter of a base (x, X, o or O) and its digits, at least one
abbrev pub are_based : List ℕ → Bool
are_based [] = false
are_based (x ∷ digits) =
    not (is_empty digits)
    && (((x == 120 || x == 88) && list_all is_ascii_hexdigit digits)
    || ((x == 111 || x == 79) && list_all is_octal_digit digits))

-- decimal digits, or a 0, x or X and hexadecimal digits, or a 0, o or O and octal digits
abbrev pub is_number : List ℕ → Bool
is_number [] = false
is_number (b ∷ bs) = list_all is_ascii_digit (b ∷ bs) || (b == 48 && are_based bs)

-- the augmented assignments (Starlark specification, "Assignments")
abbrev pub augmented : List (List ℕ)
augmented =
    codes "+=" ∷ codes "-=" ∷ codes "*=" ∷ codes "/=" ∷ codes "//=" ∷ codes "%=" ∷ codes "&=" ∷ codes "|="
    ∷ codes "^=" ∷ codes "<<=" ∷ codes ">>=" ∷ []

-- the operators, brackets and other signs
unfoldable pub operators : List (List ℕ)
operators =
    codes "+" ∷ codes "-" ∷ codes "*" ∷ codes "/" ∷ codes "//" ∷ codes "%" ∷ codes "**" ∷ codes "~"
    ∷ codes "&" ∷ codes "|" ∷ codes "^" ∷ codes "<<" ∷ codes ">>" ∷ codes "." ∷ codes "," ∷ codes "="
    ∷ codes ";" ∷ codes ":" ∷ codes "(" ∷ codes ")" ∷ codes "[" ∷ codes "]" ∷ codes "{" ∷ codes "}"
    ∷ codes "<" ∷ codes ">" ∷ codes ">=" ∷ codes "<=" ∷ codes "==" ∷ codes "!=" ∷ augmented

-- one of them
abbrev pub is_operator_text : List ℕ → Bool
is_operator_text text = is_one_of operators text

-- the last byte is white space within a line
abbrev pub ends_blank : List ℕ → Bool
ends_blank [] = false
ends_blank (b ∷ []) = is_blank b
ends_blank (b ∷ c ∷ bs) = ends_blank (c ∷ bs)

-- a comment as in `Pieces`, but one that does not end in white space
abbrev pub is_comment : List ℕ → Bool
is_comment text = pieces.is_comment text && not (ends_blank text)

-- a text of this kind (no token is `Kept`: that is the kind of a whole block in a tree, bz_tree `Blocks`)
abbrev pub is_text : Kind → List ℕ → Bool
is_text Identifier text = is_name text && not (is_keyword text)
is_text Keyword text = is_keyword text
is_text Integer text = is_number text
is_text String text = is_string text
is_text Operator text = is_operator_text text
is_text Newline text = is_byte 10 text
is_text Comment text = is_comment text
is_text Kept text = false

-- the kind of integers
abbrev pub is_number_kind : Kind → Bool
is_number_kind Integer = true
is_number_kind _ = false

-- the kind of strings
abbrev pub is_string_kind : Kind → Bool
is_string_kind String = true
is_string_kind _ = false

-- At a string's opening quotes (`o`) only strings count, at three quotes only long ones (`p` opens the text); at a
-- digit only a number, and only if it takes all letters, digits and underscores that stand there; anywhere else
-- every text counts.
abbrev pub counts : List ℕ → Kind → List ℕ → Bool
counts place kind text = elim (opening place) [
  | Some o ↦ is_string_kind kind && (map_or false (λ p. p.quotes.long) (opening text) || not o.quotes.long)
  | None ↦ elim (begins is_ascii_digit place) [
    | true ↦ is_number_kind kind && (length text == prefix_len is_word_byte place)
    | false ↦ true
  ]
]

-- A text of this kind is the token at its place, before these bytes: it counts there, and no longer text of
-- any kind does.
pub record IsToken (kind : Kind) (text after : List ℕ) : Type 0 where
  pub whole : is_text kind text ≡ true
  pub counted : counts (text ++ after) kind text ≡ true
  pub longest : (other : Kind) (more rest : List ℕ) → after ≡ more ++ rest
      → is_text other (text ++ more) ≡ true → counts (text ++ after) other (text ++ more) ≡ true → more ≡ []

-- no text of any kind counts at this place
abbrev pub HasNoToken : List ℕ → Type 0
HasNoToken place = (kind : Kind) (text rest : List ℕ) → place ≡ text ++ rest
    → is_text kind text ≡ true → counts place kind text ≡ true → ⊥
