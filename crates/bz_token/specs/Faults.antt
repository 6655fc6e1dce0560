-- The first lexical fault of a text, and its place: what stands after the gaps and tokens that could be read,
-- or the bracket that stays open (this project's own rule).
-- Begin with `IsFirstFault`.
-- `run` does not reach `IsFault` and `HasFault`.
use Rattle.std.specs.Prelude.{◌≡◌, ℕ, List, [], ◌++◌, true, false, ◌==◌, if◌then◌else◌, Option, Some, None, is_some}
use Rattle.std.specs.Char.{is_ascii_digit}
use Rattle.bz_token.specs.declared.fault.LexFault.{LexFault}
use Rattle.bz_token.specs.declared.fault.LexFault.TheVariants.{OutOfMemory, BadCharacter, BadNumber, OpenText, BadBracket, OpenBracket, TooDeep, BadBackslash}
use Rattle.bz_token.specs.Brackets.{is_opening_bracket, is_closing_bracket, is_inside, open_tokens}
use Rattle.bz_token.specs.Reading.{Piece, is_gap, begins_gap, IsPiece, IsReading, open_after, bytes_of, tokens_of}
use Rattle.bz_token.specs.Places.{Placed, line_at, column_at}
use Rattle.bz_token.specs.Common.{begins, first_of, map_or}
use Rattle.bz_token.specs.Strings.{opening}

-- What is wrong where no token fits, by what stands there (`LexFault` is an enum of `src/fault.rt`). At the end
-- of the text it is the innermost bracket that is open. Else a string has no end, letters and digits are no
-- number, a backslash continues no line, a closing bracket does not match the innermost open one, an opening
-- one is too deep, or no token begins with the byte.
abbrev pub fault_at : List ℕ → List Placed → ℕ → ℕ → Option LexFault
fault_at [] opened line col =
    map_or None (λ bracket. Some (OpenBracket bracket.line bracket.col)) (first_of opened)
fault_at place opened line col =
    if is_some (opening place) then Some (OpenText line col)
    else (if begins is_ascii_digit place then Some (BadNumber line col)
    else (if begins (λ b. b == 92) place then Some (BadBackslash line col)
    else (if begins is_closing_bracket place then Some (BadBracket line col)
    else (if begins is_opening_bracket place then Some (TooDeep line col)
    else Some (BadCharacter line col)))))

-- The first fault of the text from left to right: where no further piece can be read, after the gap there.
pub record IsFirstFault (first depth : ℕ) (bytes : List ℕ) (fault : LexFault) : Type 0 where
  pub pieces : List Piece
  pub gap : List ℕ
  pub place : List ℕ
  pub reading : IsReading depth [] pieces (gap ++ place) bytes
  pub stuck : (piece : Piece) (after : List ℕ)
      → IsPiece depth (open_after [] pieces) piece (gap ++ place) after → ⊥
  pub is_gap : is_gap (is_inside (open_after [] pieces)) gap ≡ true
  pub after_gap : begins_gap (is_inside (open_after [] pieces)) place ≡ false
  pub is : fault_at place (open_tokens [] (tokens_of first [] [] pieces))
      (line_at first (bytes_of pieces ++ gap)) (column_at (bytes_of pieces ++ gap)) ≡ Some fault

-- The same of what the code answers: that memory was refused says nothing of the text, so it holds of each.
abbrev pub IsFault : ℕ → ℕ → List ℕ → LexFault → Type 0
IsFault first depth bytes (OutOfMemory _) = Unit {0}
IsFault first depth bytes fault = IsFirstFault first depth bytes fault

-- the text has a lexical fault
abbrev pub HasFault : ℕ → ℕ → List ℕ → Type 0
HasFault first depth bytes = (fault : LexFault) × IsFirstFault first depth bytes fault
