-- For private clauses: the lines of a chunk, as far as they were read.
use Rattle.std.specs.Prelude.{◌≡◌, ℕ, List, [], ◌∷◌, ◌++◌, length, true, false}
use Rattle.std.specs.List.{list_any}
use Rattle.bz_token.specs.declared.fault.LexFault.{LexFault}
use Rattle.bz_token.specs.declared.lexer.Lexer.{Lexer}
use Rattle.bz_token.specs.declared.lexer.Cursor.{Cursor}
use Rattle.bz_token.specs.Places.{Placed}
use Rattle.bz_token.specs.Brackets.{is_line}
use Rattle.bz_token.specs.Reading.{Piece}
use Rattle.bz_token.specs.Faults.{IsFault}
use Rattle.bz_token.specs.FreshStart.{ends_in_line}
use Rattle.bz_token.specs.TokenLines.{is_newline_piece, lines_of}
use Rattle.bz_token.specs.ChunkForms.{are_comments}
use Rattle.bz_token.specs.private.Progress.{HasRead}

-- Comment lines were read, and the front of a line after them.
pub record IsInLine (first depth : ℕ) (bytes : List ℕ) (lexer : Lexer) (cursor : Cursor) (start : ℕ) : Type 0 where
  pub read : HasRead first depth bytes [] lexer cursor
  pub done : List Piece
  pub line : List Piece
  pub pieces_are : read.pieces ≡ done ++ line
  pub ended : ends_in_line done ≡ true
  pub comments : are_comments (lines_of done []) ≡ true
  pub none : list_any is_newline_piece line ≡ false
  pub start_is : start ≡ length done

-- and a whole line
pub record IsAfterLine (first depth : ℕ) (bytes : List ℕ) (lexer : Lexer) (cursor : Cursor) (start : ℕ) : Type 0 where
  pub read : HasRead first depth bytes [] lexer cursor
  pub done : List Piece
  pub line : List Piece
  pub last : Piece
  pub pieces_are : read.pieces ≡ done ++ (line ++ last ∷ [])
  pub gap_is : read.gap ≡ []
  pub ended : ends_in_line done ≡ true
  pub comments : are_comments (lines_of done []) ≡ true
  pub none : list_any is_newline_piece line ≡ false
  pub newline : is_line last.kind ≡ true
  pub start_is : start ≡ length done

-- What was read from a cursor on: the line goes on at the next cursor
abbrev pub StaysInLine : ℕ → Lexer → Cursor → Lexer → Cursor → Type 0
StaysInLine depth before from after to =
    (first : ℕ) (bytes : List ℕ) (start : ℕ) → IsInLine first depth bytes before from start → IsInLine first depth bytes after to start

-- it ends there
abbrev pub EndsLine : ℕ → Lexer → Cursor → Lexer → Cursor → Type 0
EndsLine depth before from after to =
    (first : ℕ) (bytes : List ℕ) (start : ℕ) → IsInLine first depth bytes before from start → IsAfterLine first depth bytes after to start

-- the text has this fault
abbrev pub IsFaultFrom : ℕ → Lexer → Cursor → LexFault → Type 0
IsFaultFrom depth lexer from fault =
    (first : ℕ) (bytes : List ℕ) (given : List Placed) → HasRead first depth bytes given lexer from → IsFault first depth bytes fault
