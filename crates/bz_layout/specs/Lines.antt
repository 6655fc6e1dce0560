-- A written text as lines (this project's own rule): each has a level, four spaces each, and a text.
use Rattle.std.specs.Prelude.{codes, ℕ, List, [], ◌∷◌, ◌++◌, Bool, ◌&&◌, if◌then◌else◌}
use Rattle.std.specs.Str.{bytes_eq}
use Rattle.bz_token.specs.Brackets.{is_line}
use Rattle.bz_layout.specs.declared.spacing.Gap.{Gap}
use Rattle.bz_layout.specs.declared.spacing.Gap.TheVariants.{Line}
use Rattle.bz_layout.specs.Pieces.{Piece, indent, gap_bytes}

pub record TextLine : Type 0 where
  pub level : ℕ
  pub text : List ℕ

abbrev pub text_line : ℕ → List ℕ → TextLine
text_line level text = record { level = level; text = text }

-- each line after its indent, with its newline
abbrev pub lines_text : List TextLine → List ℕ
lines_text [] = []
lines_text (l ∷ ls) = indent l.level ++ (l.text ++ (10 ∷ lines_text ls))

-- the newline after a statement or a comment above it
abbrev pub is_newline : Piece → Bool
is_newline p = is_line p.kind && bytes_eq p.text (codes "\n")

-- the line that a gap ends
abbrev pub ended_by : Gap → TextLine → List TextLine
ended_by (Line n) l = l ∷ []
ended_by _ l = []

-- the line after a gap
abbrev pub line_after : Gap → TextLine → TextLine
line_after (Line n) l = text_line n []
line_after gap l = text_line l.level (l.text ++ gap_bytes gap)

-- the lines of pieces, where this line is begun
abbrev pub lines_from : TextLine → List Piece → List TextLine
lines_from l [] = []
lines_from l (p ∷ ps) =
    let m = line_after p.gap l in
    ended_by p.gap l ++ (if is_newline p then m ∷ lines_from (text_line 0 []) ps else lines_from (text_line m.level (m.text ++ p.text)) ps)

abbrev pub lines_of : List Piece → List TextLine
lines_of ps = lines_from (text_line 0 []) ps
