-- For private clauses: how far a text has been read.
use Rattle.std.specs.Prelude.{◌≡◌, ℕ, ◌+◌, ◌≤◌, ◌<◌, ◌^◌, ◌==◌, List, [], ◌∷◌, ◌++◌, length, count_by, map, IsUtf8, Option, Some, None}
use Rattle.bz_token.specs.declared.token.Kind.{Kind}
use Rattle.bz_token.specs.declared.lexer.Lexer.{Lexer}
use Rattle.bz_token.specs.declared.lexer.Cursor.{Cursor}
use Rattle.bz_token.specs.Places.{Placed, placed, line_at, column_at}
use Rattle.bz_token.specs.Brackets.{is_inside}
use Rattle.bz_token.specs.Reading.{is_gap, Piece, IsReading, open_after, bytes_of, tokens_of}
use Rattle.bz_token.specs.declared.scan_token.Scanned.{Scanned}
use Rattle.bz_token.specs.private.Scans.{opened}
use Rattle.bz_token.specs.private.Steps.{IsTakenAs}

-- the lines on which tokens of pieces begin, the newest first
abbrev pub lines_of : ℕ → List ℕ → List ℕ → List Piece → List ℕ
lines_of first before lines [] = lines
lines_of first before lines (p ∷ ps) = lines_of first (before ++ (p.gap ++ p.text)) (line_at first (before ++ p.gap) ∷ lines) ps

-- lines that never fall, the newest first
abbrev pub Descends : ℕ → List ℕ → Type 0
Descends bound [] = Unit {0}
Descends bound (l ∷ ls) = (l ≤ bound) × Descends l ls

-- the newest line
abbrev pub newest : List ℕ → Option ℕ
newest [] = None
newest (l ∷ ls) = Some l

-- what the tokens so far stand for, and the gap after them as far as it was passed
pub record Progress (first depth : ℕ) (bytes : List ℕ) (tokens : List Placed) (opened : List ℕ) (last : Option ℕ) (rest : List ℕ) (line col : ℕ) : Type 0 where
  pub pieces : List Piece
  pub gap : List ℕ
  pub reading : IsReading depth [] pieces (gap ++ rest) bytes
  pub goes_on : (ys : List ℕ) → is_gap (is_inside (open_after [] pieces)) (gap ++ ys) ≡ is_gap (is_inside (open_after [] pieces)) ys
  pub opened_are : opened ≡ open_after [] pieces
  pub tokens_are : tokens ≡ tokens_of first [] [] pieces
  pub last_is : last ≡ newest (lines_of first [] [] pieces)
  pub descends : Descends (line_at first (bytes_of pieces)) (lines_of first [] [] pieces)
  pub line_is : line ≡ line_at first (bytes_of pieces ++ gap)
  pub col_is : col ≡ column_at (bytes_of pieces ++ gap)
  pub utf8 : IsUtf8 rest

-- the text was read up to this cursor, where these brackets were open: tokens that were given away, and then those of the list
abbrev pub HasReadIn : List ℕ → ℕ → ℕ → List ℕ → List Placed → Lexer → Cursor → Type 0
HasReadIn outer first depth bytes given lexer cursor =
    Progress first depth bytes (given ++ map placed lexer.tokens.items) outer cursor.last_line cursor.rest.now cursor.place.line cursor.place.col

-- the same, where those of the list are open
abbrev pub HasRead : ℕ → ℕ → List ℕ → List Placed → Lexer → Cursor → Type 0
HasRead first depth bytes given lexer cursor = HasReadIn (opened lexer.brackets) first depth bytes given lexer cursor

-- the pieces after a step over a gap, or over a token of this kind
abbrev pub Grows : Option Kind → List Piece → List Piece → List ℕ → Type 0
Grows None before pieces gap = pieces ≡ before
Grows (Some kind) before pieces gap = (p : Piece) × (pieces ≡ before ++ p ∷ []) × (p.kind ≡ kind) × (gap ≡ [])

-- the lines and columns of the text fit in 64 bits
abbrev pub PlacesFit : ℕ → List ℕ → Type 0
PlacesFit first bytes = (first + count_by (λ b. b == 10) bytes < 2 ^ 64) × (length bytes + 1 < 2 ^ 64)

-- some text was read up to this cursor
abbrev pub IsReadTo : Lexer → Cursor → Type 0
IsReadTo lexer cursor = (first : ℕ) × (depth : ℕ) × (bytes : List ℕ) × (given : List Placed) × HasRead first depth bytes given lexer cursor × PlacesFit first bytes

-- the text was read up to this token, where these brackets were open; its own is taken
abbrev pub IsTokenHere : List ℕ → Lexer → Cursor → Scanned → Type 0
IsTokenHere outer lexer cursor s =
    (first : ℕ) × (depth : ℕ) × (bytes : List ℕ) × (given : List Placed) × HasReadIn outer first depth bytes given lexer cursor × PlacesFit first bytes
    × IsTakenAs s depth outer (opened lexer.brackets) cursor.rest.now

-- some text was read up to this cursor, where so many brackets may be open
abbrev pub IsReadAt : ℕ → Lexer → Cursor → Type 0
IsReadAt depth lexer cursor = (first : ℕ) × (bytes : List ℕ) × (given : List Placed) × HasRead first depth bytes given lexer cursor × PlacesFit first bytes

-- what was read up to one cursor is read up to the next
abbrev pub ReadsOn : ℕ → Lexer → Cursor → Lexer → Cursor → Type 0
ReadsOn depth before from after to =
    (first : ℕ) (bytes : List ℕ) (given : List Placed) → HasRead first depth bytes given before from → HasRead first depth bytes given after to

-- from one cursor to the next there is at most white space
abbrev pub PassesWhite : Lexer → Cursor → Cursor → Type 0
PassesWhite lexer from to =
    (first : ℕ) (depth : ℕ) (bytes : List ℕ) (given : List Placed) (before : HasRead first depth bytes given lexer from)
    → (after : HasRead first depth bytes given lexer to) × Grows None before.pieces after.pieces after.gap
