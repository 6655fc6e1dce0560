-- The text of a statement is that of its lines.
use Rattle.std.proofs.Common.{◌≡◌, ℕ, List, [], ◌∷◌, ◌++◌, Bool, true, false, refl, ap, sym, ◌∙◌, append_assoc, append-nil, inl, inr}
use Rattle.std.specs.Prelude.{codes}
use Rattle.std.specs.Prelude.Option.{None}
use Rattle.std.specs.Str.{bytes_eq}
use Rattle.std.proofs.lemmas.Bool.{cases_Bool, and_parts, false≢true}
use Rattle.std.proofs.lemmas.Slice.Eq.{bytes_eq-Decides}
use Rattle.bz_tree.specs.Tree.{Statement, items_of}
use Rattle.bz_token.specs.declared.token.Kind.TheVariants.{Newline}
use Rattle.bz_layout.specs.declared.spacing.Edge.TheVariants.{Start}
use Rattle.bz_layout.specs.declared.spacing.Gap.{Gap}
use Rattle.bz_layout.specs.declared.spacing.Gap.TheVariants.{Closed, Space, Apart, Line}
use Rattle.bz_layout.specs.declared.broken.Style.TheVariants.{Broken}
use Rattle.bz_layout.specs.Pieces.{Piece, piece, indent, gap_bytes, bytes_of, comment_lines, suffix_piece}
use Rattle.bz_layout.specs.Layout.{is_comment, layout, layout_text}
use Rattle.bz_layout.specs.Walked.{items_pieces, statement_line}
use Rattle.bz_layout.specs.Walked as walked
use Rattle.bz_layout.proofs.SameLayout.{layout_is, layout_text_is}
use Rattle.bz_token.specs.Brackets.{is_line}
use Rattle.bz_layout.specs.Lines.{TextLine, text_line, lines_text, is_newline, ended_by, line_after, lines_from, lines_of}

lines_append : (a b : List TextLine) → lines_text (a ++ b) ≡ lines_text a ++ lines_text b
lines_append [] b = refl
lines_append (l ∷ a) b = rw (lines_append a b) (simp append_assoc)

after_gap : (gap : Gap) (l : TextLine) (rest : List ℕ) → indent l.level ++ (l.text ++ (gap_bytes gap ++ rest)) ≡ lines_text (ended_by gap l) ++ (indent (line_after gap l).level ++ ((line_after gap l).text ++ rest))
after_gap Closed l rest = simp append_assoc
after_gap Space l rest = simp append_assoc
after_gap Apart l rest = simp append_assoc
after_gap (Line n) l rest = simp append_assoc

-- the last piece is a newline
abbrev pub ends_line : List Piece → Bool
ends_line [] = false
ends_line (p ∷ []) = is_newline p
ends_line (p ∷ q ∷ ps) = ends_line (q ∷ ps)

newline_text : (p : Piece) → is_newline p ≡ true → p.text ≡ codes "\n"
newline_text p h = (bytes_eq-Decides p.text (codes "\n")).0 (and_parts (is_line p.kind) (bytes_eq p.text (codes "\n")) h).1

pub from_lines : (ps : List Piece) (l : TextLine) → ends_line ps ≡ true → indent l.level ++ (l.text ++ bytes_of ps) ≡ lines_text (lines_from l ps)
from_lines [] l h = absurd (false≢true h)
from_lines (p ∷ []) l h =
    let is = newline_text p h in
    rw (h, lines_append (ended_by p.gap l) (line_after p.gap l ∷ [])) (after_gap p.gap l (p.text ++ []) ∙ rw is refl)
from_lines (p ∷ q ∷ ps) l h =
    let m = line_after p.gap l in
    elim (cases_Bool (is_newline p)) [
      | inl hit ↦
          let is = newline_text p hit in
          let next = from_lines (q ∷ ps) (text_line 0 []) h in
          rw (hit, lines_append (ended_by p.gap l) (m ∷ lines_from (text_line 0 []) (q ∷ ps)), ← next) (after_gap p.gap l (p.text ++ bytes_of (q ∷ ps)) ∙ rw is refl)
      | inr miss ↦
          let next = from_lines (q ∷ ps) (text_line m.level (m.text ++ p.text)) h in
          rw (miss, lines_append (ended_by p.gap l) (lines_from (text_line m.level (m.text ++ p.text)) (q ∷ ps)), ← next, append_assoc m.text p.text (bytes_of (q ∷ ps))) (after_gap p.gap l (p.text ++ bytes_of (q ∷ ps)))
    ]

ends_after : (ps : List Piece) (qs : List Piece) → ends_line qs ≡ true → ends_line (ps ++ qs) ≡ true
ends_after [] qs h = h
ends_after (p ∷ []) [] h = absurd (false≢true h)
ends_after (p ∷ []) (q ∷ qs) h = h
ends_after (p ∷ r ∷ ps) qs h = ends_after (r ∷ ps) qs h

statement_ends : (s : Statement) → ends_line (statement_line s) ≡ true
statement_ends s =
    let newline = piece Closed Newline (codes "\n") ∷ [] in
    ends_after (items_pieces Broken 0 None Closed Start (items_of s.nodes)) (suffix_piece s.suffix ++ newline) (ends_after (suffix_piece s.suffix) newline refl)

comments_end : (comment : List ℕ) (comments : List (List ℕ)) → ends_line (comment_lines (comment ∷ comments)) ≡ true
comments_end comment [] = refl
comments_end comment (n ∷ comments) = comments_end n comments

comments_read : (comments : List (List ℕ)) → bytes_of (comment_lines comments) ≡ lines_text (lines_of (comment_lines comments))
comments_read [] = refl
comments_read (n ∷ comments) = from_lines (comment_lines (n ∷ comments)) (text_line 0 []) (comments_end n comments)

walk_is_lines : (s : Statement) → walked.layout_text s ≡ lines_text (lines_of (walked.layout s))
walk_is_lines s = elim (cases_Bool (is_comment s.class)) [
  | inl hit ↦ rw (hit, append-nil (comment_lines s.before)) (comments_read s.before)
  | inr miss ↦ rw miss (from_lines (comment_lines s.before ++ statement_line s) (text_line 0 []) (ends_after (comment_lines s.before) (statement_line s) (statement_ends s)))
]

pub text_is_lines : (s : Statement) → layout_text s ≡ lines_text (lines_of (layout s))
text_is_lines s = layout_text_is s ∙ walk_is_lines s ∙ ap (λ (ps : List Piece). lines_text (lines_of ps)) (sym (layout_is s))
