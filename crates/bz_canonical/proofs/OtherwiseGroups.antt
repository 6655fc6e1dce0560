-- Groups that stand otherwise than they would be written, by what was read and written of their segments.
use Rattle.std.proofs.Common.{◌≡◌, ℕ, suc, ◌+◌, List, [], ◌∷◌, ◌++◌, Bool, true, false, ◌||◌, ◌&&◌, refl, sym, ap, ◌∙◌, append_assoc}
use Rattle.std.specs.Prelude.{nat_le}
use Rattle.std.proofs.lemmas.Bool.{false≢true}
use Rattle.bz_token.specs.Common.{is_filled}
use Rattle.bz_token.specs.declared.token.Kind.TheVariants.{Operator}
use Rattle.bz_tree.specs.declared.tree.GroupKind.{GroupKind}
use Rattle.bz_tree.specs.Tree.{group}
use Rattle.bz_layout.specs.declared.spacing.Gap.{Gap}
use Rattle.bz_layout.specs.declared.spacing.Gap.TheVariants.{Closed, Line}
use Rattle.bz_layout.specs.Broken.{breaks_by_count}
use Rattle.bz_layout.specs.Layout.{has_commas}
use Rattle.bz_layout.specs.Pieces.{Piece, bytes_of, comments, gap_bytes, indent, piece}
use Rattle.bz_layout.specs.Walked.{closing, count, opening}
use Rattle.bz_layout.proofs.Pieces.{bytes_append}
use Rattle.bz_layout_laws.specs.FreeLayout.{broken_by, flat_by, free, own}
use Rattle.bz_layout_laws.specs.Legible.{AreComments}
use Rattle.bz_canonical.specs.private.Otherwise.{AreSegmentsWritten, IsGroupWritten, form_of}
use Rattle.bz_canonical.specs.private.Segments.{AreFlatFront, AreNotesFront, AreSegmentsFront}
use Rattle.bz_canonical.proofs.Operands.{broken_group, flat_group}

-- on lines in the text, and on lines as it is written
pub broken_written : (kind : GroupKind) (stands out depth below : ℕ) (inside middle rest w : List ℕ) (ends : List (List ℕ)) (z n : ℕ) (h c : Bool) → suc below ≡ depth → closing kind ≡ z ∷ []
    → ((n : ℕ) → has_commas kind false n ≡ true) → AreSegmentsWritten kind (form_of true true) true (stands + 1) (out + 1) below inside middle w n h c → AreComments ends
    → middle ≡ bytes_of (comments (stands + 1) ends) ++ (10 ∷ (indent stands ++ z ∷ rest))
    → (is_filled ends || c || breaks_by_count kind n || (nat_le 2 n && h)) ≡ true
    → IsGroupWritten kind stands out depth (opening kind ++ inside) rest (opening kind ++ (w ++ (bytes_of (comments (out + 1) ends) ++ (10 ∷ (indent out ++ z ∷ []))))) true
broken_written kind stands out depth below inside middle rest w ends z n h c deeper closes commas s ends_are middle_is many = record {
  bracket = broken_group kind out depth below (w ++ (bytes_of (comments (out + 1) ends) ++ (10 ∷ (indent out ++ z ∷ [])))) (bytes_of (comments (out + 1) ends) ++ (10 ∷ (indent out ++ z ∷ [])))
      (10 ∷ (indent out ++ z ∷ [])) (z ∷ []) [] z n h c (is_filled ends) deeper closes commas lines notes many refl refl;
  choice = free true s.choice own;
  stand = (λ no. absurd (false≢true (sym no)), s.stand);
  spelled = ap (λ ss. group kind ss false ends) s.spelled;
  front = λ gap. ap (λ (t : List ℕ). gap_bytes gap ++ (opening kind ++ t)) (s.front ∙ ap (λ (t : List ℕ). bytes_of (broken_by s.choice (stands + 1) kind true s.segs) ++ t) middle_is)
      ∙ by gap (has_commas kind false (count s.segs)) (commas (count s.segs)) (closing kind) closes;
}
  where
    lines : AreSegmentsFront kind (out + 1) below (w ++ (bytes_of (comments (out + 1) ends) ++ (10 ∷ (indent out ++ z ∷ [])))) (bytes_of (comments (out + 1) ends) ++ (10 ∷ (indent out ++ z ∷ []))) n h c
    lines = record { segs = s.segs; are = s.are; front = ap (λ (t : List ℕ). t ++ (bytes_of (comments (out + 1) ends) ++ (10 ∷ (indent out ++ z ∷ [])))) s.spells; count_is = s.count_is; breaks = s.breaks; notes = s.notes }

    notes : AreNotesFront (out + 1) (bytes_of (comments (out + 1) ends) ++ (10 ∷ (indent out ++ z ∷ []))) (10 ∷ (indent out ++ z ∷ [])) (is_filled ends)
    notes = record { notes = ends; are = ends_are; front = refl; some_is = refl }

    body : (P Q : List Piece) (g : List ℕ) → g ++ (opening kind ++ (bytes_of P ++ (bytes_of Q ++ (10 ∷ (indent stands ++ z ∷ rest)))))
        ≡ (g ++ (opening kind ++ bytes_of (P ++ (Q ++ piece (Line stands) Operator (z ∷ []) ∷ [])))) ++ rest
    body P Q g = rw (bytes_append P (Q ++ piece (Line stands) Operator (z ∷ []) ∷ []), bytes_append Q (piece (Line stands) Operator (z ∷ []) ∷ [])) (simp append_assoc)

    by : (gap : Gap) (k : Bool) → k ≡ true → (o : List ℕ) → o ≡ z ∷ []
        → gap_bytes gap ++ (opening kind ++ (bytes_of (broken_by s.choice (stands + 1) kind true s.segs) ++ (bytes_of (comments (stands + 1) ends) ++ (10 ∷ (indent stands ++ z ∷ rest)))))
        ≡ (gap_bytes gap ++ (opening kind ++ bytes_of (broken_by s.choice (stands + 1) kind k s.segs ++ (comments (stands + 1) ends ++ piece (Line stands) Operator o ∷ [])))) ++ rest
    by gap k e2 o e3 = rw (e2, e3) (body (broken_by s.choice (stands + 1) kind true s.segs) (comments (stands + 1) ends) (gap_bytes gap))

closed : (P : List Piece) (g o rest : List ℕ) (z : ℕ) → g ++ (o ++ (bytes_of P ++ z ∷ rest)) ≡ (g ++ (o ++ bytes_of (P ++ (piece Closed Operator (z ∷ []) ∷ [])))) ++ rest
closed P g o rest z = rw (bytes_append P (piece Closed Operator (z ∷ []) ∷ [])) (simp append_assoc)

-- in place in the text, and on lines as it is written
pub spread_written : (kind : GroupKind) (stands out depth below : ℕ) (inside middle rest w : List ℕ) (z n : ℕ) (h : Bool) → suc below ≡ depth → closing kind ≡ z ∷ []
    → ((n : ℕ) → has_commas kind false n ≡ true) → AreSegmentsWritten kind (form_of false true) true stands (out + 1) below inside middle w n h false
    → middle ≡ z ∷ rest → (breaks_by_count kind n || (nat_le 2 n && h)) ≡ true
    → IsGroupWritten kind stands out depth (opening kind ++ inside) rest (opening kind ++ (w ++ (10 ∷ (indent out ++ z ∷ [])))) true
spread_written kind stands out depth below inside middle rest w z n h deeper closes commas s middle_is many = record {
  bracket = broken_group kind out depth below (w ++ (10 ∷ (indent out ++ z ∷ []))) (10 ∷ (indent out ++ z ∷ [])) (10 ∷ (indent out ++ z ∷ [])) (z ∷ []) [] z n h false false deeper closes commas lines notes many refl refl;
  choice = free false s.choice own;
  stand = (λ no. s.notes, s.stand);
  spelled = ap (λ ss. group kind ss false []) s.spelled;
  front = λ gap. ap (λ (t : List ℕ). gap_bytes gap ++ (opening kind ++ t)) (s.front ∙ ap (λ (t : List ℕ). bytes_of (flat_by s.choice stands kind true s.segs) ++ t) middle_is)
      ∙ by gap (closing kind) closes;
}
  where
    lines : AreSegmentsFront kind (out + 1) below (w ++ (10 ∷ (indent out ++ z ∷ []))) (10 ∷ (indent out ++ z ∷ [])) n h false
    lines = record { segs = s.segs; are = s.are; front = ap (λ (t : List ℕ). t ++ (10 ∷ (indent out ++ z ∷ []))) s.spells; count_is = s.count_is; breaks = s.breaks; notes = s.notes }

    notes : AreNotesFront (out + 1) (10 ∷ (indent out ++ z ∷ [])) (10 ∷ (indent out ++ z ∷ [])) false
    notes = record { notes = []; are = refl; front = refl; some_is = refl }

    by : (gap : Gap) (o : List ℕ) → o ≡ z ∷ []
        → gap_bytes gap ++ (opening kind ++ (bytes_of (flat_by s.choice stands kind true s.segs) ++ z ∷ rest))
        ≡ (gap_bytes gap ++ (opening kind ++ bytes_of (flat_by s.choice stands kind true s.segs ++ ([] ++ piece Closed Operator o ∷ [])))) ++ rest
    by gap o e = rw e (closed (flat_by s.choice stands kind true s.segs) (gap_bytes gap) (opening kind) rest z)

-- on lines in the text, and in place as it is written
pub gathered_written : (kind : GroupKind) (stands out depth below : ℕ) (inside middle rest w : List ℕ) (z n : ℕ) (h : Bool) → suc below ≡ depth → closing kind ≡ z ∷ []
    → ((n : ℕ) → has_commas kind false n ≡ true) → AreSegmentsWritten kind (form_of true false) true (stands + 1) out below inside middle w n h false
    → middle ≡ 10 ∷ (indent stands ++ z ∷ rest) → (breaks_by_count kind n || (nat_le 2 n && h)) ≡ false
    → IsGroupWritten kind stands out depth (opening kind ++ inside) rest (opening kind ++ (w ++ z ∷ [])) h
gathered_written kind stands out depth below inside middle rest w z n h deeper closes commas s middle_is few = record {
  bracket = flat_group kind out depth below (w ++ z ∷ []) (z ∷ []) [] z n h deeper closes flat few refl;
  choice = free true s.choice own;
  stand = (λ no. absurd (false≢true (sym no)), s.stand);
  spelled = ap (λ ss. group kind ss false []) s.spelled;
  front = λ gap. ap (λ (t : List ℕ). gap_bytes gap ++ (opening kind ++ t)) (s.front ∙ ap (λ (t : List ℕ). bytes_of (broken_by s.choice (stands + 1) kind true s.segs) ++ t) middle_is)
      ∙ by gap (has_commas kind false (count s.segs)) (commas (count s.segs)) (closing kind) closes;
}
  where
    flat : AreFlatFront kind true out below (w ++ z ∷ []) (z ∷ []) n h
    flat = record { segs = s.segs; are = s.are; front = ap (λ (t : List ℕ). t ++ z ∷ []) s.spells; count_is = s.count_is; breaks = s.breaks; bare = s.notes }

    body : (P : List Piece) (g : List ℕ) → g ++ (opening kind ++ (bytes_of P ++ (10 ∷ (indent stands ++ z ∷ rest))))
        ≡ (g ++ (opening kind ++ bytes_of (P ++ (piece (Line stands) Operator (z ∷ []) ∷ [])))) ++ rest
    body P g = rw (bytes_append P (piece (Line stands) Operator (z ∷ []) ∷ [])) (simp append_assoc)

    by : (gap : Gap) (k : Bool) → k ≡ true → (o : List ℕ) → o ≡ z ∷ []
        → gap_bytes gap ++ (opening kind ++ (bytes_of (broken_by s.choice (stands + 1) kind true s.segs) ++ (10 ∷ (indent stands ++ z ∷ rest))))
        ≡ (gap_bytes gap ++ (opening kind ++ bytes_of (broken_by s.choice (stands + 1) kind k s.segs ++ (comments (stands + 1) [] ++ piece (Line stands) Operator o ∷ [])))) ++ rest
    by gap k e2 o e3 = rw (e2, e3) (body (broken_by s.choice (stands + 1) kind true s.segs) (gap_bytes gap))

-- in place in both
pub flat_written : (kind : GroupKind) (stands out depth below : ℕ) (inside middle rest w : List ℕ) (z n : ℕ) (h : Bool) → suc below ≡ depth → closing kind ≡ z ∷ []
    → AreSegmentsWritten kind (form_of false false) true stands out below inside middle w n h false → middle ≡ z ∷ rest → (breaks_by_count kind n || (nat_le 2 n && h)) ≡ false
    → IsGroupWritten kind stands out depth (opening kind ++ inside) rest (opening kind ++ (w ++ z ∷ [])) h
flat_written kind stands out depth below inside middle rest w z n h deeper closes s middle_is few = record {
  bracket = flat_group kind out depth below (w ++ z ∷ []) (z ∷ []) [] z n h deeper closes flat few refl;
  choice = free false s.choice own;
  stand = (λ no. s.notes, s.stand);
  spelled = ap (λ ss. group kind ss false []) s.spelled;
  front = λ gap. ap (λ (t : List ℕ). gap_bytes gap ++ (opening kind ++ t)) (s.front ∙ ap (λ (t : List ℕ). bytes_of (flat_by s.choice stands kind true s.segs) ++ t) middle_is)
      ∙ by gap (closing kind) closes;
}
  where
    flat : AreFlatFront kind true out below (w ++ z ∷ []) (z ∷ []) n h
    flat = record { segs = s.segs; are = s.are; front = ap (λ (t : List ℕ). t ++ z ∷ []) s.spells; count_is = s.count_is; breaks = s.breaks; bare = s.notes }

    by : (gap : Gap) (o : List ℕ) → o ≡ z ∷ []
        → gap_bytes gap ++ (opening kind ++ (bytes_of (flat_by s.choice stands kind true s.segs) ++ z ∷ rest))
        ≡ (gap_bytes gap ++ (opening kind ++ bytes_of (flat_by s.choice stands kind true s.segs ++ ([] ++ piece Closed Operator o ∷ [])))) ++ rest
    by gap o e = rw e (closed (flat_by s.choice stands kind true s.segs) (gap_bytes gap) (opening kind) rest z)
