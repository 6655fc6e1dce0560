-- The definitions on small texts.
use Rattle.std.proofs.Common.{◌≡◌, ℕ, List, [], ◌∷◌, true, false, refl}
use Rattle.std.specs.Prelude.{codes, Some, None}
use Rattle.bz_token.specs.declared.fault.LexFault.TheVariants.{BadCharacter, BadNumber, OpenText, BadBracket, OpenBracket, TooDeep, BadBackslash}
use Rattle.bz_token.specs.declared.token.Kind.TheVariants.{Identifier, Keyword, Integer, String, Operator, Newline, Comment}
use Rattle.bz_token.specs.Lexical.{keywords, operators, is_text, counts}
use Rattle.bz_token.specs.Brackets.{fits}
use Rattle.bz_token.specs.Reading.{is_gap, begins_gap, Piece, IsReading, bytes_of, tokens_of}
use Rattle.bz_token.specs.Faults.{fault_at}
use Rattle.bz_token.specs.UpToFault.{IsReadAs}
use Rattle.bz_token.specs.FreshStart.{line_following, tokens_on_lines, fault_on_lines}
use Rattle.bz_token.proofs.BadPlaces.{bad_bracket, bad_says}
use Rattle.bz_token.proofs.Unique.{IsStuck, gap_stuck, place_stuck}
use Rattle.bz_token.proofs.Stops.{token_ended}

abbrev newline : List ℕ
newline = 10 ∷ []

names : is_text Identifier (codes "x1_") ≡ true
unfolding keywords
names = refl

keyword : is_text Identifier (codes "for") ≡ false
unfolding keywords
keyword = refl

word : is_text Keyword (codes "for") ≡ true
unfolding keywords
word = refl

binary : is_text Integer (codes "0b1") ≡ false
binary = refl

hexadecimal : is_text Integer (codes "0X1f") ≡ true
hexadecimal = refl

no_front_of_a_number : counts (codes "0b1") Integer (codes "0") ≡ false
no_front_of_a_number = refl

short_string : is_text String (codes "rb'a\\'b'") ≡ true
short_string = refl

escaped_quote : is_text String (codes "r'a\\'") ≡ false
escaped_quote = refl

empty_string : is_text String (codes "\"\"") ≡ true
empty_string = refl

long_string : is_text String (codes "\"\"\"a\n\"\"b\"\"\"") ≡ true
long_string = refl

three_quotes : counts (codes "\"\"\"") String (codes "\"\"") ≡ false
three_quotes = refl

no_identifier_before_a_quote : counts (codes "b\"\"") Identifier (codes "b") ≡ false
no_identifier_before_a_quote = refl

broken_string : is_text String (codes "\"a\nb\"") ≡ false
broken_string = refl

continued_string : is_text String (codes "\"a\\\r\nb\"") ≡ true
continued_string = refl

broken_by_second_newline : is_text String (codes "\"a\\\n\nb\"") ≡ false
broken_by_second_newline = refl

comment : is_text Comment (codes "# a\rb") ≡ true
comment = refl

comment_with_blank : is_text Comment (codes "# a ") ≡ false
comment_with_blank = refl

operator : is_text Operator (codes "//=") ≡ true
unfolding operators
operator = refl

gap : is_gap false (codes " \t\r\\\n\\\r\n") ≡ true
gap = refl

no_gap : is_gap false (codes " \n") ≡ false
no_gap = refl

inner_gap : is_gap true (codes " \n") ≡ true
inner_gap = refl

bad_backslash : begins_gap true (codes "\\ y") ≡ false
bad_backslash = refl

mismatch : fits 100 (40 ∷ []) Operator (codes "]") ≡ false
mismatch = refl

deep : fits 1 (40 ∷ []) Operator (codes "(") ≡ false
deep = refl

-- `x=1` and a newline
abbrev assignment : List Piece
assignment =
    record { gap = []; kind = Identifier; text = codes "x" }
    ∷ record { gap = []; kind = Operator; text = codes "=" }
    ∷ record { gap = []; kind = Integer; text = codes "1" }
    ∷ record { gap = []; kind = Newline; text = newline }
    ∷ []

assignment_bytes : bytes_of assignment ≡ codes "x=1\n"
assignment_bytes = refl

assignment_tokens : tokens_of 1 [] [] assignment
    ≡ record { kind = Identifier; text = codes "x"; line = 1; col = 1; fresh = true }
    ∷ record { kind = Operator; text = codes "="; line = 1; col = 2; fresh = false }
    ∷ record { kind = Integer; text = codes "1"; line = 1; col = 3; fresh = false }
    ∷ record { kind = Newline; text = newline; line = 1; col = 4; fresh = false }
    ∷ []
assignment_tokens = refl

-- a long string over two lines, and a token after it
abbrev strings : List Piece
strings = record { gap = codes "\\\n "; kind = String; text = codes "'''\n'''" } ∷ record { gap = codes " "; kind = Identifier; text = codes "x" } ∷ []

string_tokens : tokens_of 7 [] [] strings
    ≡ record { kind = String; text = codes "'''\n'''"; line = 8; col = 2; fresh = true }
    ∷ record { kind = Identifier; text = codes "x"; line = 9; col = 5; fresh = true }
    ∷ []
string_tokens = refl

-- `x)`: the token before the fault
abbrev name : Piece
name = record { gap = []; kind = Identifier; text = codes "x" }

abbrev closing : List ℕ
closing = codes ")"

name_read : IsReading 100 [] (name ∷ []) closing (codes "x)")
unfolding keywords
name_read = (closing, record { bytes_are = refl; gap = refl; token = token_ended Identifier (codes "x") closing refl refl; fits = refl }, refl)

no_piece : IsStuck 100 [] closing
no_piece = place_stuck 100 [] [] closing refl refl (bad_says 100 [] closing bad_bracket refl).never

before_bad_bracket : IsReadAs 1 100 (codes "x)") (record { kind = Identifier; text = codes "x"; line = 1; col = 1; fresh = true } ∷ []) (Some (BadBracket 1 2))
before_bad_bracket = (record { pieces = name ∷ []; gap = []; place = closing; reading = name_read; stuck = no_piece; is_gap = refl; after_gap = refl; is = refl }, refl)

-- ` (` and a newline: all tokens stand before the open bracket's fault
abbrev bracket : Piece
bracket = record { gap = codes " "; kind = Operator; text = codes "(" }

bracket_read : IsReading 100 [] (bracket ∷ []) newline (codes " (\n")
unfolding operators
bracket_read = (newline, record { bytes_are = refl; gap = refl; token = token_ended Operator (codes "(") newline refl refl; fits = refl }, refl)

before_open_bracket : IsReadAs 7 100 (codes " (\n") (record { kind = Operator; text = codes "("; line = 7; col = 2; fresh = true } ∷ []) (Some (OpenBracket 7 2))
before_open_bracket = (
  record {
    pieces = bracket ∷ [];
    gap = newline;
    place = [];
    reading = bracket_read;
    stuck = gap_stuck 100 (codes "(") newline refl;
    is_gap = refl;
    after_gap = refl;
    is = refl;
  },
  refl,
)

-- what is told of a place where no token fits
open_string : fault_at (codes "r'a\n'") [] 3 5 ≡ Some (OpenText 3 5)
open_string = refl

no_number : fault_at (codes "0b1") [] 3 5 ≡ Some (BadNumber 3 5)
no_number = refl

no_continued_line : fault_at (codes "\\ \n") [] 3 5 ≡ Some (BadBackslash 3 5)
no_continued_line = refl

no_match : fault_at (codes "] ") [] 3 5 ≡ Some (BadBracket 3 5)
no_match = refl

too_many : fault_at (codes "{}") [] 3 5 ≡ Some (TooDeep 3 5)
too_many = refl

no_token : fault_at (codes "$x") [] 3 5 ≡ Some (BadCharacter 3 5)
no_token = refl

no_bracket_open : fault_at [] [] 3 5 ≡ None
no_bracket_open = refl

-- two lines, the last of which lacks its newline
last_line : line_following 3 (codes "x\ny") ≡ 5
last_line = refl

ended_line : line_following 3 (codes "x\n") ≡ 4
ended_line = refl

on_second_line : tokens_on_lines 2 (codes "y\n") (tokens_of 1 [] [] assignment) ≡ []
on_second_line = refl

on_first_line : tokens_on_lines 1 (codes "x=1\n") (tokens_of 1 [] [] assignment) ≡ tokens_of 1 [] [] assignment
on_first_line = refl

fault_elsewhere : fault_on_lines 1 (codes "x\n") (Some (BadBracket 2 1)) ≡ None
fault_elsewhere = refl

fault_here : fault_on_lines 2 (codes ")") (Some (BadBracket 2 1)) ≡ Some (BadBracket 2 1)
fault_here = refl
