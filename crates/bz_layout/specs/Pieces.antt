-- A written text as pieces: tokens and comments, each after its gap (this project's own form of a layout).
-- `Gap` is an enum of `src/spacing.rt`. Other pieces are those of reads (bz_devices `Device`), of a value
-- (bz_attribute `Lists`), of a file that is cut and of a text that is read (bz_token `Pieces`, `Reading`).
-- Begin with `Piece` and `bytes_of`.
use Rattle.std.specs.Prelude.{codes, ℕ, zero, suc, List, [], ◌∷◌, ◌++◌, Bool, true, false, if◌then◌else◌, Option, map, flat_map}
use Rattle.std.specs.List.{list_any}
use Rattle.std.specs.Prelude.Option.{Some, None}
use Rattle.bz_token.specs.declared.token.Kind.{Kind}
use Rattle.bz_token.specs.declared.token.Kind.TheVariants.{Operator, Newline, Comment}
use Rattle.bz_layout.specs.declared.spacing.Gap.{Gap}
use Rattle.bz_layout.specs.declared.spacing.Gap.TheVariants.{Closed, Space, Apart, Line}

-- a token or comment after its gap
pub record Piece : Type 0 where
  pub gap : Gap
  pub kind : Kind
  pub text : List ℕ

-- the piece of a gap, a kind and a text
abbrev pub piece : Gap → Kind → List ℕ → Piece
piece gap kind text = record { gap = gap; kind = kind; text = text }

-- the indentation of a level: four spaces for each
abbrev pub indent : ℕ → List ℕ
indent zero = []
indent (suc n) = 32 ∷ 32 ∷ 32 ∷ 32 ∷ indent n

-- the bytes of a gap: nothing, one space, two spaces, or a new line at a level
abbrev pub gap_bytes : Gap → List ℕ
gap_bytes Closed = []
gap_bytes Space = 32 ∷ []
gap_bytes Apart = 32 ∷ 32 ∷ []
gap_bytes (Line level) = 10 ∷ indent level

-- a gap that is a new line
abbrev pub begins_line : Gap → Bool
begins_line (Line level) = true
begins_line _ = false

-- some piece begins a new line (a newline within a string is none)
abbrev pub are_lined : List Piece → Bool
are_lined ps = list_any (λ p. begins_line p.gap) ps

-- the bytes that are written for pieces (in bz_token, `bytes_of` are those that pieces were read from)
abbrev pub bytes_of : List Piece → List ℕ
bytes_of [] = []
bytes_of (p ∷ ps) = gap_bytes p.gap ++ (p.text ++ bytes_of ps)

-- a comma directly after what stands before it, or nothing
abbrev pub comma_if : Bool → List Piece
comma_if b = if b then piece Closed Operator (codes ",") ∷ [] else []

-- comments in a broken group, each on a line of its own
abbrev pub comments : ℕ → List (List ℕ) → List Piece
comments level texts = map (piece (Line level) Comment) texts

-- comments above a statement, each with its newline
abbrev pub comment_lines : List (List ℕ) → List Piece
comment_lines texts =
    flat_map (λ text. piece Closed Comment text ∷ piece Closed Newline (codes "\n") ∷ []) texts

-- two spaces and the comment after a segment or statement
abbrev pub suffix_piece : Option (List ℕ) → List Piece
suffix_piece None = []
suffix_piece (Some comment) = piece Apart Comment comment ∷ []
