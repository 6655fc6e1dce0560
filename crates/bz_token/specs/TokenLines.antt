-- The logical lines of a text that has tokens: what a newline outside brackets ends, told by the tokens alone.
use Rattle.std.specs.Prelude.{List, [], ◌∷◌, ◌++◌, ℕ, Bool, true, false, ◌||◌, if◌then◌else◌}
use Rattle.std.specs.List.{list_all}
use Rattle.bz_token.specs.declared.cutter.scan.LineKind.{LineKind}
use Rattle.bz_token.specs.declared.cutter.scan.LineKind.TheVariants.{Blank, CommentLine, Statement}
use Rattle.bz_token.specs.Ends.{is_comment_kind}
use Rattle.bz_token.specs.Brackets.{is_line}
use Rattle.bz_token.specs.Reading.{Piece, bytes_of}
use Rattle.bz_token.specs.LogicalLines.{Line}
use Rattle.bz_token.specs.Common.{is_empty}

abbrev pub is_newline_piece : Piece → Bool
is_newline_piece p = is_line p.kind

abbrev pub is_comment_piece : Piece → Bool
is_comment_piece p = is_line p.kind || is_comment_kind p.kind

-- no token but the newline, comments alone, or another token
abbrev pub kind_of : List Piece → LineKind
kind_of line = if list_all is_newline_piece line then Blank else (if list_all is_comment_piece line then CommentLine else Statement)

-- a line of these pieces, with these bytes after them
abbrev pub line_of : List Piece → List ℕ → Line
line_of line rest = record { text = bytes_of line ++ rest; kind = kind_of line; broken = false }

-- Pieces are cut after each newline token, where a line has begun with some; what is left at the end is a line, if there is any.
abbrev pub lines_from : List Piece → List Piece → List ℕ → List Line
lines_from line [] rest = if is_empty (bytes_of line ++ rest) then [] else line_of line rest ∷ []
lines_from line (p ∷ ps) rest = elim (is_line p.kind) [
  | true ↦ line_of (line ++ p ∷ []) [] ∷ lines_from [] ps rest
  | false ↦ lines_from (line ++ p ∷ []) ps rest
]

abbrev pub lines_of : List Piece → List ℕ → List Line
lines_of pieces rest = lines_from [] pieces rest
