-- How a segment stands before others, and what is written of it there.
use Rattle.std.proofs.Common.{◌≡◌, ℕ, List, [], ◌∷◌, ◌++◌, Bool, true, false, sym, ap, ◌∙◌, append_assoc, append-nil}
use Rattle.std.specs.Prelude.{codes, Option, None, Some}
use Rattle.bz_token.specs.declared.token.Kind.TheVariants.{Operator}
use Rattle.bz_tree.specs.declared.tree.GroupKind.{GroupKind}
use Rattle.bz_tree.specs.Tree.{Segs, seg}
use Rattle.bz_layout.specs.declared.broken.Style.TheVariants.{Broken}
use Rattle.bz_layout.specs.declared.spacing.Edge.TheVariants.{Start}
use Rattle.bz_layout.specs.declared.spacing.Gap.TheVariants.{Closed, Line, Space}
use Rattle.bz_layout.specs.Pieces.{Piece, bytes_of, comments, indent, piece, suffix_piece}
use Rattle.bz_layout.specs.Walked.{broken_segs, flat_segs, items_pieces}
use Rattle.bz_layout.proofs.Pieces.{bytes_append}
use Rattle.bz_layout_laws.specs.FreeLayout.{Choice, broken_by, flat_by, free, items_by}
use Rattle.bz_canonical.specs.private.Otherwise.{IsSegmentWritten, form_of, standing, writing}

on_line : (P Q R S : List Piece) (last : List ℕ) → bytes_of P ++ (bytes_of Q ++ (44 ∷ (bytes_of R ++ (bytes_of S ++ last))))
    ≡ bytes_of (P ++ (Q ++ (piece Closed Operator (codes ",") ∷ (R ++ S)))) ++ last
on_line P Q R S last = rw (bytes_append P (Q ++ (piece Closed Operator (codes ",") ∷ (R ++ S))), bytes_append Q (piece Closed Operator (codes ",") ∷ (R ++ S)), bytes_append R S) (simp append_assoc)

-- on lines
pub stood_on_line : (kind : GroupKind) (broken none : Bool) (stands out depth : ℕ) (rest inner end next u : List ℕ) (k : Bool) (notes : List (List ℕ)) (note : Option (List ℕ)) (s : IsSegmentWritten kind stands out depth inner end u k)
    → rest ≡ bytes_of (comments stands notes) ++ (10 ∷ (indent stands ++ inner)) → end ≡ 44 ∷ (bytes_of (suffix_piece note) ++ next)
    → (tail : Segs) (d : Choice) (last : List ℕ) → next ≡ standing (form_of true broken) d stands kind false tail ++ last
    → rest ≡ standing (form_of true broken) (free false s.choice d) stands kind none (seg notes s.segment.xs note tail) ++ last
stood_on_line kind broken none stands out depth rest inner end next u k notes note s above comma tail d last is =
    above ∙ ap (λ (t : List ℕ). bytes_of (comments stands notes) ++ t)
    (s.front (Line stands) ∙ ap (λ (t : List ℕ). bytes_of (items_by s.choice stands (Some kind) (Line stands) Start s.segment.xs) ++ t)
    (comma ∙ ap (λ (t : List ℕ). 44 ∷ (bytes_of (suffix_piece note) ++ t)) is))
    ∙ on_line (comments stands notes) (items_by s.choice stands (Some kind) (Line stands) Start s.segment.xs) (suffix_piece note) (broken_by d stands kind true tail) last

two : (P Q : List Piece) (last : List ℕ) → bytes_of P ++ (bytes_of Q ++ last) ≡ bytes_of (P ++ Q) ++ last
two P Q last = rw (bytes_append P Q) (simp append_assoc)

-- in place, the first
pub stood_first : (kind : GroupKind) (broken : Bool) (stands out depth : ℕ) (inner end u : List ℕ) (k : Bool) (s : IsSegmentWritten kind stands out depth inner end u k)
    → (tail : Segs) (d : Choice) (last : List ℕ) → end ≡ standing (form_of false broken) d stands kind false tail ++ last
    → inner ≡ standing (form_of false broken) (free false s.choice d) stands kind true (seg [] s.segment.xs None tail) ++ last
stood_first kind broken stands out depth inner end u k s tail d last is =
    s.front Closed ∙ ap (λ (t : List ℕ). bytes_of (items_by s.choice stands (Some kind) Closed Start s.segment.xs) ++ t) is
    ∙ two (items_by s.choice stands (Some kind) Closed Start s.segment.xs) (flat_by d stands kind false tail) last

-- in place, after another
pub stood_after : (kind : GroupKind) (broken : Bool) (stands out depth : ℕ) (rest inner end u : List ℕ) (k : Bool) (s : IsSegmentWritten kind stands out depth inner end u k) → rest ≡ 44 ∷ 32 ∷ inner
    → (tail : Segs) (d : Choice) (last : List ℕ) → end ≡ standing (form_of false broken) d stands kind false tail ++ last
    → rest ≡ standing (form_of false broken) (free false s.choice d) stands kind false (seg [] s.segment.xs None tail) ++ last
stood_after kind broken stands out depth rest inner end u k s comma tail d last is =
    comma ∙ ap (λ (t : List ℕ). 44 ∷ t) (s.front Space ∙ ap (λ (t : List ℕ). bytes_of (items_by s.choice stands (Some kind) Space Start s.segment.xs) ++ t) is)
    ∙ ap (λ (t : List ℕ). 44 ∷ t) (two (items_by s.choice stands (Some kind) Space Start s.segment.xs) (flat_by d stands kind false tail) last)

-- what is written of it on lines
pub wrote_on_line : (kind : GroupKind) (lines none : Bool) (stands out depth : ℕ) (inner end u : List ℕ) (k : Bool) (notes : List (List ℕ)) (note : Option (List ℕ)) (s : IsSegmentWritten kind stands out depth inner end u k) (tail : Segs)
    → writing (form_of lines true) out kind none (seg notes s.segment.xs note tail)
    ≡ (bytes_of (comments out notes) ++ (10 ∷ (indent out ++ (u ++ (44 ∷ bytes_of (suffix_piece note)))))) ++ writing (form_of lines true) out kind false tail
wrote_on_line kind lines none stands out depth inner end u k notes note s tail =
    sym (append-nil _)
    ∙ sym (on_line (comments out notes) (items_pieces Broken out (Some kind) (Line out) Start s.segment.xs) (suffix_piece note) (broken_segs Broken out kind true tail) [])
    ∙ by (bytes_of (items_pieces Broken out (Some kind) (Line out) Start s.segment.xs)) (sym (append-nil _) ∙ sym (s.segment.front (Line out)))
  where
    by : (P : List ℕ) → P ≡ 10 ∷ (indent out ++ u)
        → bytes_of (comments out notes) ++ (P ++ (44 ∷ (bytes_of (suffix_piece note) ++ (bytes_of (broken_segs Broken out kind true tail) ++ []))))
        ≡ (bytes_of (comments out notes) ++ (10 ∷ (indent out ++ (u ++ (44 ∷ bytes_of (suffix_piece note)))))) ++ bytes_of (broken_segs Broken out kind true tail)
    by P is = rw is (joined (bytes_of (comments out notes)) (indent out) (bytes_of (suffix_piece note)) (bytes_of (broken_segs Broken out kind true tail)))
      where
        joined : (A I B C : List ℕ) → A ++ ((10 ∷ (I ++ u)) ++ (44 ∷ (B ++ (C ++ [])))) ≡ (A ++ (10 ∷ (I ++ (u ++ (44 ∷ B))))) ++ C
        joined A I B C = ap (λ (t : List ℕ). A ++ ((10 ∷ (I ++ u)) ++ (44 ∷ (B ++ t)))) (append-nil C) ∙ simp append_assoc

-- in place, the first
pub wrote_first : (kind : GroupKind) (lines : Bool) (stands out depth : ℕ) (inner end u : List ℕ) (k : Bool) (s : IsSegmentWritten kind stands out depth inner end u k) (tail : Segs)
    → writing (form_of lines false) out kind true (seg [] s.segment.xs None tail) ≡ u ++ writing (form_of lines false) out kind false tail
wrote_first kind lines stands out depth inner end u k s tail =
    bytes_append (items_pieces Broken out (Some kind) Closed Start s.segment.xs) (flat_segs Broken out kind false tail)
    ∙ ap (λ (t : List ℕ). t ++ bytes_of (flat_segs Broken out kind false tail)) (sym (append-nil _) ∙ sym (s.segment.front Closed))

-- in place, after another
pub wrote_after : (kind : GroupKind) (lines : Bool) (stands out depth : ℕ) (inner end u : List ℕ) (k : Bool) (s : IsSegmentWritten kind stands out depth inner end u k) (tail : Segs)
    → writing (form_of lines false) out kind false (seg [] s.segment.xs None tail) ≡ (44 ∷ 32 ∷ u) ++ writing (form_of lines false) out kind false tail
wrote_after kind lines stands out depth inner end u k s tail =
    ap (λ (t : List ℕ). 44 ∷ t) (bytes_append (items_pieces Broken out (Some kind) Space Start s.segment.xs) (flat_segs Broken out kind false tail)
    ∙ ap (λ (t : List ℕ). t ++ bytes_of (flat_segs Broken out kind false tail)) (sym (append-nil _) ∙ sym (s.segment.front Space)))
