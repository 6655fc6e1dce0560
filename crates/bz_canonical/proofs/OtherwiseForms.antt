-- Segments and groups that stand and are written on lines or in place, by how they are read.
use Rattle.std.proofs.Common.{◌≡◌, ℕ, suc, ◌+◌, List, [], ◌∷◌, ◌++◌, Bool, true, false, ◌||◌, ◌&&◌, refl, sym, ap, ◌∙◌, append_assoc, append-nil, subst}
use mathlib.Core.Bool.{beq}
use Rattle.std.specs.Prelude.{IfSome, Option, None, Some, if◌then◌else◌, is_some, nat_le, not}
use Rattle.std.proofs.lemmas.Bool.{false≢true}
use Rattle.bz_token.specs.Common.{is_filled}
use Rattle.bz_tree.specs.Comments.{beside}
use Rattle.bz_tree.specs.declared.tree.GroupKind.{GroupKind}
use Rattle.bz_tree.specs.Tree.{Segs, no_segs, seg}
use Rattle.bz_layout.specs.Broken.{breaks_by_count}
use Rattle.bz_layout.specs.Layout.{has_commas}
use Rattle.bz_layout.specs.Pieces.{bytes_of, comments, indent, suffix_piece}
use Rattle.bz_layout.specs.Walked.{closing, opening}
use Rattle.bz_layout_laws.specs.FreeLayout.{Choice, free, own}
use Rattle.bz_layout_laws.specs.Legible.{AreComments}
use Rattle.bz_canonical.specs.declared.otherwise_groups.GroupEnd.{GroupEnd}
use Rattle.bz_canonical.specs.declared.otherwise_segments.SegmentFront.{SegmentFront}
use Rattle.bz_canonical.specs.private.Elements.{separator}
use Rattle.bz_canonical.specs.private.Segments.{AreNotesFront}
use Rattle.bz_canonical.specs.private.Otherwise.{AreSegmentsWritten, ContinuesWritten, IsGroupEnded, IsGroupWritten, IsSegmentBegun, IsSegmentEnded, IsSegmentPassed, IsSegmentWritten, back_written, deeper, end_written, form_of, front_written, note_ended, notes_begun, notes_ended, standing, writing}
use Rattle.bz_canonical.proofs.GroupSegments.{four_or}
use Rattle.bz_canonical.proofs.OtherwiseGroups.{broken_written, flat_written, gathered_written, spread_written}
use Rattle.bz_canonical.proofs.OtherwiseSegments.{finish_written, more_written}
use Rattle.bz_canonical.proofs.OtherwiseSteps.{stood_after, stood_first, stood_on_line, wrote_after, wrote_first, wrote_on_line}

-- what is read before a segment and after it

begun_are : (lines : Bool) (level : ℕ) (f : SegmentFront) (b : IsSegmentBegun lines level f) → AreComments (notes_begun lines level f b)
begun_are true level f b = b.0.are
begun_are false level f b = refl

begun_some : (lines : Bool) (level : ℕ) (f : SegmentFront) (b : IsSegmentBegun lines level f) → is_filled (notes_begun lines level f b) ≡ f.above.some
begun_some true level f b = b.0.some_is
begun_some false level f b = sym b.0

ended_are : (lines : Bool) (text rest : List ℕ) (noted : Bool) (e : IsSegmentEnded lines text rest noted) → AreComments (beside (note_ended lines text rest noted e))
ended_are true text rest noted e = e.2.is
ended_are false text rest noted e = refl

ended_some : (lines : Bool) (text rest : List ℕ) (noted : Bool) (e : IsSegmentEnded lines text rest noted) → is_some (note_ended lines text rest noted e) ≡ noted
ended_some true text rest noted e = e.2.some_is
ended_some false text rest noted e = sym e.0

no_notes : (notes : List (List ℕ)) → is_filled notes ≡ false → notes ≡ []
no_notes [] none = refl
no_notes (x ∷ xs) none = absurd (false≢true (sym none))

no_note : (note : Option (List ℕ)) → is_some note ≡ false → note ≡ None
no_note None none = refl
no_note (Some x) none = absurd (false≢true (sym none))

-- a segment before others, as it stands
stood : (kind : GroupKind) (lines broken : Bool) (stands out depth : ℕ) (f : SegmentFront) (one : Bool) → f.one ≡ one → (end next u : List ℕ) (k noted : Bool) (b : IsSegmentBegun lines stands f) (e : IsSegmentEnded lines end next noted)
    → (s : IsSegmentWritten kind stands out depth f.inner.now end u k) → (tail : Segs) (d : Choice) (last : List ℕ) → next ≡ standing (form_of lines broken) d stands kind false tail ++ last
    → f.from.now ≡ standing (form_of lines broken) (free false s.choice d) stands kind (not one) (seg (notes_begun lines stands f b) s.segment.xs (note_ended lines end next noted e) tail) ++ last
stood kind true broken stands out depth f one one_is end next u k noted b e s =
    stood_on_line kind broken (not one) stands out depth f.from.now f.inner.now end next u k b.0.notes e.2.note s
    (b.0.front ∙ ap (λ (t : List ℕ). bytes_of (comments stands b.0.notes) ++ t) b.1) (e.1 ∙ ap (λ (t : List ℕ). 44 ∷ t) e.2.front)
stood kind false broken stands out depth f false one_is end next u k noted b e s = λ tail d last is.
    b.2 ∙ ap (λ o. separator o ++ f.inner.now) one_is ∙ stood_first kind broken stands out depth f.inner.now end u k s tail d last (e.1 ∙ is)
stood kind false broken stands out depth f true one_is end next u k noted b e s = λ tail d last is.
    stood_after kind broken stands out depth f.from.now f.inner.now end u k s (b.2 ∙ ap (λ o. separator o ++ f.inner.now) one_is) tail d last (e.1 ∙ is)

-- what is written of it
wrote : (kind : GroupKind) (lines broken one : Bool) (stands out depth : ℕ) (inner end u : List ℕ) (k : Bool) (notes : List (List ℕ)) (note : Option (List ℕ))
    → (broken ≡ false → is_filled notes ≡ false) → (broken ≡ false → is_some note ≡ false) → (s : IsSegmentWritten kind stands out depth inner end u k) (tail : Segs)
    → writing (form_of lines broken) out kind (not one) (seg notes s.segment.xs note tail)
    ≡ (front_written broken one out notes ++ (u ++ back_written broken note)) ++ writing (form_of lines broken) out kind false tail
wrote kind lines true one stands out depth inner end u k notes note no_above no_beside s tail =
    wrote_on_line kind lines (not one) stands out depth inner end u k notes note s tail
    ∙ ap (λ (t : List ℕ). t ++ writing (form_of lines true) out kind false tail) (sym (append_assoc (bytes_of (comments out notes)) (10 ∷ indent out) (u ++ (44 ∷ bytes_of (suffix_piece note)))))
wrote kind lines false false stands out depth inner end u k notes note no_above no_beside s tail =
    (λ i. writing (form_of lines false) out kind true (seg (no_notes notes (no_above refl) i) s.segment.xs (no_note note (no_beside refl) i) tail))
    ∙ wrote_first kind lines stands out depth inner end u k s tail ∙ ap (λ (t : List ℕ). t ++ writing (form_of lines false) out kind false tail) (sym (append-nil u))
wrote kind lines false true stands out depth inner end u k notes note no_above no_beside s tail =
    (λ i. writing (form_of lines false) out kind false (seg (no_notes notes (no_above refl) i) s.segment.xs (no_note note (no_beside refl) i) tail))
    ∙ wrote_after kind lines stands out depth inner end u k s tail ∙ ap (λ (t : List ℕ). 44 ∷ 32 ∷ (t ++ writing (form_of lines false) out kind false tail)) (sym (append-nil u))

-- a segment with what stands before it and after it
pub passed : (kind : GroupKind) (lines broken : Bool) (stands out depth : ℕ) (f : SegmentFront) (end next u : List ℕ) (k by_it noted : Bool) (b : IsSegmentBegun lines stands f) (e : IsSegmentEnded lines end next by_it)
    → (broken ≡ false → f.above.some ≡ false) → (broken ≡ false → by_it ≡ false) → noted ≡ (f.above.some || by_it) → IsSegmentWritten kind stands out depth f.inner.now end u k
    → IsSegmentPassed kind (form_of lines broken) (not f.one) stands out depth f.from.now next k noted
    (front_written broken f.one out (notes_begun lines stands f b) ++ (u ++ back_written broken (note_ended lines end next by_it e)))
passed kind lines broken stands out depth f end next u k by_it noted b e no_above no_beside noted_is s = λ first text v n h c so.
    let notes = notes_begun lines stands f b in
    let note = note_ended lines end next by_it e in
    let w = front_written broken f.one out notes ++ (u ++ back_written broken note) in
    subst (λ t. ContinuesWritten kind (form_of lines broken) first false stands out depth text next (v ++ w) (n + 1) (h || k) (c || t))
    ((λ i. begun_some lines stands f b i || ended_some lines end next by_it e i) ∙ sym noted_is)
    (more_written kind (form_of lines broken) first (not f.one) stands out depth text f.from.now f.inner.now end next v u w n h k c so notes (begun_are lines stands f b) note (ended_are lines end next by_it e) s
    (stood kind lines broken stands out depth f f.one refl end next u k by_it b e s)
    (wrote kind lines broken f.one stands out depth f.inner.now end u k notes note (λ no. begun_some lines stands f b ∙ no_above no) (λ no. ended_some lines end next by_it e ∙ no_beside no) s))

-- in place there are no comments
pub none_in_place : (lines : Bool) (stands : ℕ) (f : SegmentFront) (end next : List ℕ) (by_it : Bool) → IsSegmentBegun lines stands f → IsSegmentEnded lines end next by_it → lines ≡ false → (f.above.some || by_it) ≡ false
none_in_place true stands f end next by_it b e flat = absurd (false≢true (sym flat))
none_in_place false stands f end next by_it b e flat = λ i. b.0 i || e.0 i

-- all segments
pub all_written : (kind : GroupKind) (lines broken none : Bool) (stands out depth : ℕ) (text rest w : List ℕ) (n : ℕ) (h c : Bool)
    → ContinuesWritten kind (form_of lines broken) true none stands out depth text rest w n h c → AreSegmentsWritten kind (form_of lines broken) true stands out depth text rest w n h c
all_written kind lines broken none stands out depth text rest w n h c so =
    finish_written kind (form_of lines broken) true none stands out depth text rest w n h c so (stands_none lines) (sym (ap (λ (t : List ℕ). w ++ t) (writes_none broken) ∙ append-nil w))
  where
    stands_none : (lines : Bool) → rest ≡ standing (form_of lines broken) own stands kind none no_segs ++ rest
    stands_none true = refl
    stands_none false = refl

    writes_none : (broken : Bool) → writing (form_of lines broken) out kind none no_segs ≡ []
    writes_none true = refl
    writes_none false = refl

-- a group, by its segments and its end
pub group_written : (kind : GroupKind) (lines broken : Bool) (stands out depth below : ℕ) (inside middle w : List ℕ) (z n : ℕ) (h c : Bool) (g : GroupEnd) → suc below ≡ depth → closing kind ≡ z ∷ []
    → ((n : ℕ) → has_commas kind false n ≡ true) → AreSegmentsWritten kind (form_of lines broken) true (deeper lines stands) (deeper broken out) below inside middle w n h c → (lines ≡ false → c ≡ false)
    → (e : IsGroupEnded lines z stands middle g) → (g.above.some || (c || (breaks_by_count kind n || (nat_le 2 n && h)))) ≡ broken
    → IsGroupWritten kind stands out depth (opening kind ++ inside) g.rest.now (opening kind ++ (w ++ end_written broken out z (notes_ended lines z stands middle g e))) (broken || h)
group_written kind true true stands out depth below inside middle w z n h c g deep closes commas s bare e many =
    broken_written kind stands out depth below inside middle g.rest.now w e.0.notes z n h c deep closes commas s e.0.are
    (e.0.front ∙ ap (λ (t : List ℕ). bytes_of (comments (stands + 1) e.0.notes) ++ t) e.1) (four_or (is_filled e.0.notes) c (breaks_by_count kind n) (nat_le 2 n && h) ∙ ap (λ b. b || (c || (breaks_by_count kind n || (nat_le 2 n && h)))) e.0.some_is ∙ many)
group_written kind false true stands out depth below inside middle w z n h c g deep closes commas s bare e many =
    spread_written kind stands out depth below inside middle g.rest.now w z n h deep closes commas
    (subst (AreSegmentsWritten kind (form_of false true) true stands (out + 1) below inside middle w n h) (bare refl) s) e.2
    ((λ i. sym e.0 i || (sym (bare refl) i || (breaks_by_count kind n || (nat_le 2 n && h)))) ∙ many)
group_written kind lines false stands out depth below inside middle w z n h c g deep closes commas s bare e many = none lines s e
  where
    few : (a c t : Bool) → (a || (c || t)) ≡ false → (a ≡ false) × (c ≡ false) × (t ≡ false)
    few true c t is = absurd (false≢true (sym is))
    few false true t is = absurd (false≢true (sym is))
    few false false t is = (refl, refl, is)

    so : (g.above.some ≡ false) × (c ≡ false) × ((breaks_by_count kind n || (nat_le 2 n && h)) ≡ false)
    so = few g.above.some c (breaks_by_count kind n || (nat_le 2 n && h)) many

    none : (lines : Bool) → AreSegmentsWritten kind (form_of lines false) true (deeper lines stands) out below inside middle w n h c → (e : IsGroupEnded lines z stands middle g)
        → IsGroupWritten kind stands out depth (opening kind ++ inside) g.rest.now (opening kind ++ (w ++ z ∷ [])) h
    none true s e =
        gathered_written kind stands out depth below inside middle g.rest.now w z n h deep closes commas (subst (AreSegmentsWritten kind (form_of true false) true (stands + 1) out below inside middle w n h) so.1 s)
        (e.0.front ∙ ap (λ ns. bytes_of (comments (stands + 1) ns) ++ g.above.rest.now) (no_notes e.0.notes (e.0.some_is ∙ so.0)) ∙ e.1) so.2
    none false s e =
        flat_written kind stands out depth below inside middle g.rest.now w z n h deep closes (subst (AreSegmentsWritten kind (form_of false false) true stands out below inside middle w n h) so.1 s) e.2 so.2

-- what is put before a segment and after it

begun_notes : (lines : Bool) (stands : ℕ) (f : SegmentFront) (b : IsSegmentBegun lines stands f) → (n : AreNotesFront stands f.from.now f.above.rest.now f.above.some) × (n.notes ≡ notes_begun lines stands f b)
begun_notes true stands f b = (b.0, refl)
begun_notes false stands f b = (record { notes = []; are = refl; front = sym b.1; some_is = sym b.0 }, refl)

pub front_put : (lines broken : Bool) (stands out : ℕ) (f : SegmentFront) (old middle new : List ℕ) → broken ≡ true
    → ((n : AreNotesFront stands f.from.now f.above.rest.now f.above.some) → middle ≡ old ++ bytes_of (comments out n.notes)) → new ≡ middle ++ (10 ∷ indent out)
    → (b : IsSegmentBegun lines stands f) → new ≡ old ++ front_written broken f.one out (notes_begun lines stands f b)
front_put lines broken stands out f old middle new is first second b =
    let n = begun_notes lines stands f b in
    second ∙ ap (λ (t : List ℕ). t ++ (10 ∷ indent out)) (first n.0) ∙ append_assoc old (bytes_of (comments out n.0.notes)) (10 ∷ indent out)
    ∙ ap (λ ns. old ++ (bytes_of (comments out ns) ++ (10 ∷ indent out))) n.1 ∙ ap (λ b'. old ++ front_written b' f.one out (notes_begun lines stands f b)) (sym is)

-- what is put at the end of a group

abbrev pub before_end : Bool → ℕ → List (List ℕ) → List ℕ
before_end broken out notes = if broken then bytes_of (comments (out + 1) notes) ++ (10 ∷ indent out) else []

end_notes : (lines : Bool) (z stands : ℕ) (text : List ℕ) (g : GroupEnd) (e : IsGroupEnded lines z stands text g)
    → (n : AreNotesFront (deeper lines stands) text g.above.rest.now g.above.some) × (n.notes ≡ notes_ended lines z stands text g e)
end_notes true z stands text g e = (e.0, refl)
end_notes false z stands text g e = (record { notes = []; are = refl; front = sym e.1; some_is = sym e.0 }, refl)

pub broken_end_put : (lines broken : Bool) (z stands out level deep : ℕ) (text : List ℕ) (g : GroupEnd) (e : IsGroupEnded lines z stands text g) (old middle new : List ℕ) → broken ≡ true → level ≡ deeper lines stands
    → deep ≡ deeper broken out → ((n : AreNotesFront level text g.above.rest.now g.above.some) → middle ≡ old ++ bytes_of (comments deep n.notes)) → new ≡ middle ++ (10 ∷ indent out)
    → new ≡ old ++ before_end broken out (notes_ended lines z stands text g e)
broken_end_put lines broken z stands out level deep text g e old middle new is level_is deep_is first second =
    let n = end_notes lines z stands text g e in
    second ∙ ap (λ (t : List ℕ). t ++ (10 ∷ indent out)) (at n.0) ∙ append_assoc old (bytes_of (comments (out + 1) n.0.notes)) (10 ∷ indent out)
    ∙ ap (λ ns. old ++ (bytes_of (comments (out + 1) ns) ++ (10 ∷ indent out))) n.1 ∙ ap (λ b'. old ++ before_end b' out (notes_ended lines z stands text g e)) (sym is)
  where
    Puts : ℕ → ℕ → Type 0
    Puts level deep = (n : AreNotesFront level text g.above.rest.now g.above.some) → middle ≡ old ++ bytes_of (comments deep n.notes)

    at : Puts (deeper lines stands) (out + 1)
    at = subst (λ l. Puts l (out + 1)) level_is (subst (Puts level) (deep_is ∙ ap (λ b'. deeper b' out) is) first)

pub flat_end_put : (lines broken : Bool) (z stands out : ℕ) (text : List ℕ) (g : GroupEnd) (e : IsGroupEnded lines z stands text g) (old : List ℕ) → broken ≡ false → old ≡ old ++ before_end broken out (notes_ended lines z stands text g e)
flat_end_put lines broken z stands out text g e old is = sym (append-nil old) ∙ ap (λ b'. old ++ before_end b' out (notes_ended lines z stands text g e)) (sym is)

pub end_put : (broken : Bool) (out z : ℕ) (notes : List (List ℕ)) (old middle new : List ℕ) → middle ≡ old ++ before_end broken out notes → new ≡ middle ++ z ∷ [] → new ≡ old ++ end_written broken out z notes
end_put true out z notes old middle new first second =
    second ∙ ap (λ (t : List ℕ). t ++ z ∷ []) first ∙ append_assoc old (bytes_of (comments (out + 1) notes) ++ (10 ∷ indent out)) (z ∷ [])
    ∙ ap (λ (t : List ℕ). old ++ t) (append_assoc (bytes_of (comments (out + 1) notes)) (10 ∷ indent out) (z ∷ []))
end_put false out z notes old middle new first second = second ∙ ap (λ (t : List ℕ). t ++ z ∷ []) (first ∙ append-nil old)

-- two flags that are not told apart
pub same_of : (a b : Bool) → not (beq a b) ≡ false → a ≡ b
same_of true true is = refl
same_of true false is = absurd (false≢true (sym is))
same_of false true is = absurd (false≢true (sym is))
same_of false false is = refl

-- what is known of an answer that is something
pub got : {A : Type 0} (P : A → Type 0) {o : Option A} {x : A} → o ≡ Some x → IfSome o P → P x
got P is h = subst (λ o. IfSome o P) is h
