-- The logical lines of a file: what a newline outside brackets and strings ends (Starlark specification,
-- "Lexical elements"). A newline that breaks off a short string ends one too (this project's own rule). A
-- line here is a list of pieces.
-- Begin with `lines`.
use Rattle.std.specs.Prelude.{ℕ, List, [], map, Bool, true, false, not, ◌&&◌, ◌||◌, if◌then◌else◌}
use Rattle.std.specs.List.{list_all, concat, fold}
use Rattle.bz_token.specs.declared.cutter.scan.LineKind.{LineKind}
use Rattle.bz_token.specs.declared.cutter.scan.LineKind.TheVariants.{Blank, CommentLine, Statement}
use Rattle.bz_token.specs.Common.{is_empty, last_of, map_or}
use Rattle.bz_token.specs.Groups.{grouped}
use Rattle.bz_token.specs.Strings.{is_byte}
use Rattle.bz_token.specs.Pieces.{is_comment, is_broken_off, is_piece, is_space}
use Rattle.bz_token.specs.Munch.{munched}
use Rattle.bz_token.specs.Brackets.{open_after_token}

-- A newline outside brackets ends a logical line, whatever the brackets' shapes.
abbrev pub ends_line : List (List ℕ) → Bool
ends_line line = map_or false (is_byte 10) (last_of line) && is_empty (fold open_after_token [] line)

-- The last piece is a string that a newline breaks off: that newline ends the logical line too.
abbrev pub breaks_off : List (List ℕ) → Bool
breaks_off line = map_or false is_broken_off (last_of line)

-- whether a piece joins the line before it
abbrev pub line_goes_on : List (List ℕ) → List ℕ → Bool
line_goes_on line piece = not (breaks_off line || ends_line line)

-- a blank line is white space and continued lines alone, a comment line comments beside these, any other a
-- statement line (`LineKind` is an enum of `src/cutter/scan.rt`)
abbrev pub kind_of : List (List ℕ) → LineKind
kind_of line =
    if list_all (is_space true) line then Blank
    else (if list_all (λ p. is_space true p || is_comment p) line then CommentLine else Statement)

-- a logical line; whether its newline breaks off a string
pub record Line : Type 0 where
  pub text : List ℕ
  pub kind : LineKind
  pub broken : Bool

-- the logical line of its pieces
abbrev pub line_of : List (List ℕ) → Line
line_of ps = record { text = concat ps; kind = kind_of ps; broken = breaks_off ps }

-- the logical lines of a file, in order
abbrev pub lines : List ℕ → List Line
lines bytes = map line_of (grouped line_goes_on (munched is_piece bytes))
