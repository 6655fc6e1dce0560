-- Segments of groups that stand otherwise than they would be written, by what was read and written of them.
use Rattle.std.proofs.Common.{◌≡◌, ℕ, ◌+◌, List, [], ◌∷◌, ◌++◌, Bool, true, false, ◌||◌, refl, sym, ap, ◌∙◌, arith, append_assoc}
use Rattle.std.specs.Prelude.{codes, Option, Some, is_some}
use Rattle.bz_token.specs.Common.{is_filled}
use Rattle.bz_token.specs.declared.token.Kind.TheVariants.{Identifier, Operator}
use Rattle.bz_tree.specs.declared.tree.GroupKind.{GroupKind}
use Rattle.bz_tree.specs.declared.tree.GroupKind.TheVariants.{Dict, List as ListKind}
use Rattle.bz_tree.specs.private.Productions.{IsArg}
use Rattle.bz_tree.specs.Tree.{Item, Items, Segs, is_call, item, leaf, no_segs, seg}
use Rattle.bz_tree.specs.Comments.{beside}
use Rattle.bz_layout_laws.specs.Legible.{AreComments}
use Rattle.bz_layout.specs.declared.spacing.Edge.{Edge}
use Rattle.bz_layout.specs.declared.spacing.Edge.TheVariants.{Operand as EdgeOperand, Operator as EdgeOperator, Start}
use Rattle.bz_layout.specs.declared.spacing.Gap.{Gap}
use Rattle.bz_layout.specs.declared.spacing.Gap.TheVariants.{Space}
use Rattle.bz_layout.specs.Pieces.{bytes_of, gap_bytes}
use Rattle.bz_layout.specs.Walked.{edge_after, gap_before, have_comments, no_space_before, segs_hold}
use Rattle.bz_layout.proofs.Pieces.{bytes_append}
use Rattle.bz_layout_laws.specs.FreeLayout.{Choice, free, item_by, items_by, items_spelled_by, own, segs_spelled_by}
use Rattle.bz_layout_laws.specs.Spelled.{spelled_segs}
use Rattle.bz_canonical.specs.private.Fronts.{IsTokenFront}
use Rattle.bz_canonical.specs.private.Otherwise.{AreNodesWritten, AreSegmentsWritten, ContinuesWritten, Form, IsSegmentWritten, IsValueWritten, standing, writing}
use Rattle.bz_canonical.specs.private.Segments.{AreSegments, IsOf}
use Rattle.bz_canonical.proofs.GroupSegments.{argument_of, entry_segment, equals_edge, most, named_segment, no_segments, nodes_segment, one_more, or_assoc, or_no}
use Rattle.bz_canonical.proofs.OtherwiseValues.{value_at}

abbrev nodes_segment_written : (kind : GroupKind) (stands out depth : ℕ) (text rest w : List ℕ) (h : Bool) (n : AreNodesWritten stands out depth text rest w h) → IsOf kind (item n.nodes.x n.nodes.xs)
    → IsSegmentWritten kind stands out depth text rest w h
nodes_segment_written kind stands out depth text rest w h n grammar = record {
  segment = nodes_segment kind out depth w [] h n.nodes grammar;
  choice = n.choice;
  stand = n.stand;
  spelled = n.spelled;
  front = λ gap. n.front (Some kind) gap Start;
}

-- an element
pub element_written : (stands out depth : ℕ) (text rest w : List ℕ) (h : Bool) → AreNodesWritten stands out depth text rest w h → IsSegmentWritten ListKind stands out depth text rest w h
element_written stands out depth text rest w h n = nodes_segment_written ListKind stands out depth text rest w h n n.nodes.are.test

-- an argument by its place
pub positional_written : (kind : GroupKind) → is_call kind ≡ true → (stands out depth : ℕ) (text rest w : List ℕ) (h : Bool) → AreNodesWritten stands out depth text rest w h
    → IsSegmentWritten kind stands out depth text rest w h
positional_written kind call stands out depth text rest w h n =
    nodes_segment_written kind stands out depth text rest w h n (argument_of kind call (item n.nodes.x n.nodes.xs) (IsArg.positional n.nodes.are.test))

-- a token before more
abbrev before : (text rest : List ℕ) (f : IsTokenFront Identifier text rest) (more : List ℕ) → IsTokenFront Identifier (f.token ++ more) more
before text rest f more = record { token = f.token; is = f.is; stays = f.stays; front = refl }

-- an argument by its name
abbrev pub keyword_written : (kind : GroupKind) → is_call kind ≡ true → (stands out depth : ℕ) (text equals value rest w : List ℕ) (h : Bool) (f : IsTokenFront Identifier text equals)
    → equals ≡ codes " = " ++ value → AreNodesWritten stands out depth value rest w h → IsSegmentWritten kind stands out depth text rest (f.token ++ (codes " = " ++ w)) h
keyword_written kind call stands out depth text equals value rest w h f eq n = record {
  segment = named_segment kind out depth (f.token ++ (codes " = " ++ w)) (codes " = " ++ w) [] w h (before text equals f (codes " = " ++ w)) refl n.nodes
      (argument_of kind call _ (IsArg.keyword refl refl n.nodes.are.test));
  choice = free false own (free false own n.choice);
  stand = (tt, (tt, n.stand));
  spelled = ap named n.spelled;
  front = front;
}
  where
    named : Items → Items
    named xs = item (leaf Identifier f.token) (item (leaf Operator (codes "=")) xs)

    nodes : Items
    nodes = item n.nodes.x n.nodes.xs

    gap_is : (first : Gap) (x : Item) → no_space_before x ≡ false → gap_before first EdgeOperator x ≡ Space
    gap_is first x e = rw e refl

    value_is : (first : Gap) → 32 ∷ value ≡ bytes_of (items_by n.choice stands (Some kind) first EdgeOperator nodes) ++ rest
    value_is first = ap (λ g. gap_bytes g ++ value) (sym (gap_is first n.nodes.x n.nodes.are.apart)) ∙ n.front (Some kind) first EdgeOperator

    by : (gap : Gap) (e : Edge) → e ≡ EdgeOperator → gap_bytes gap ++ (f.token ++ (32 ∷ 61 ∷ (bytes_of (items_by n.choice stands (Some kind) gap EdgeOperator nodes) ++ rest)))
        ≡ (gap_bytes gap ++ (f.token ++ (32 ∷ 61 ∷ bytes_of (items_by n.choice stands (Some kind) gap e nodes)))) ++ rest
    by gap e is = rw is (simp append_assoc)

    front : (gap : Gap) → gap_bytes gap ++ text ≡ bytes_of (items_by (free false own (free false own n.choice)) stands (Some kind) gap Start (named nodes)) ++ rest
    front gap = ap (λ (t : List ℕ). gap_bytes gap ++ t) (f.front ∙ ap (λ (t : List ℕ). f.token ++ t) (eq ∙ ap (λ (t : List ℕ). 32 ∷ 61 ∷ t) (value_is gap)))
        ∙ by gap (edge_after (Some kind) EdgeOperand (leaf Operator (codes "="))) (equals_edge (Some kind))

-- an entry of a dict
pub entry_written : (stands out depth : ℕ) (text colon value rest w v : List ℕ) (h : Bool) → IsValueWritten stands out depth text colon w false
    → colon ≡ codes ": " ++ value → AreNodesWritten stands out depth value rest v h → IsSegmentWritten Dict stands out depth text rest (w ++ (codes ": " ++ v)) h
entry_written stands out depth text colon value rest w v h k eq n = record {
  segment = entry_segment out depth (w ++ (codes ": " ++ v)) (codes ": " ++ v) [] v h (value_at out depth w false k.value (codes ": " ++ v) (w ++ (codes ": " ++ v)) refl) refl n.nodes;
  choice = free false k.choice (free false own n.choice);
  stand = (k.stand, (tt, n.stand));
  spelled = ap (λ x. item x (item (leaf Operator (codes ":")) (items_spelled_by n.choice nodes))) k.spelled ∙ ap (λ xs. item k.value.x (item (leaf Operator (codes ":")) xs)) n.spelled;
  front = front;
}
  where
    nodes : Items
    nodes = item n.nodes.x n.nodes.xs

    gap_is : (first : Gap) (x : Item) → no_space_before x ≡ false → gap_before first EdgeOperator x ≡ Space
    gap_is first x e = rw e refl

    value_is : (first : Gap) → 32 ∷ value ≡ bytes_of (items_by n.choice stands (Some Dict) first EdgeOperator nodes) ++ rest
    value_is first = ap (λ g. gap_bytes g ++ value) (sym (gap_is first n.nodes.x n.nodes.are.apart)) ∙ n.front (Some Dict) first EdgeOperator

    by : (gap : Gap) (e : Edge) → e ≡ EdgeOperand → bytes_of (item_by k.choice stands gap k.value.x) ++ (58 ∷ (bytes_of (items_by n.choice stands (Some Dict) gap EdgeOperator nodes) ++ rest))
        ≡ bytes_of (item_by k.choice stands gap k.value.x ++ items_by (free false own n.choice) stands (Some Dict) gap e (item (leaf Operator (codes ":")) nodes)) ++ rest
    by gap e is = rw (is, bytes_append (item_by k.choice stands gap k.value.x) (items_by (free false own n.choice) stands (Some Dict) gap EdgeOperand (item (leaf Operator (codes ":")) nodes))) (simp append_assoc)

    front : (gap : Gap) → gap_bytes gap ++ text ≡ bytes_of (items_by (free false k.choice (free false own n.choice)) stands (Some Dict) gap Start (item k.value.x (item (leaf Operator (codes ":")) nodes))) ++ rest
    front gap = k.front gap ∙ ap (λ (t : List ℕ). bytes_of (item_by k.choice stands gap k.value.x) ++ t) (eq ∙ ap (λ (t : List ℕ). 58 ∷ t) (value_is gap))
        ∙ by gap (edge_after (Some Dict) Start k.value.x) (k.value.is.leaves (Some Dict) Start)

-- none yet
pub begin_written : (kind : GroupKind) (form : Form) (first : Bool) (stands out depth : ℕ) (text : List ℕ) → ContinuesWritten kind form first first stands out depth text text [] 0 false false
begin_written kind form first stands out depth text = λ tail c last are stand spelled is.
    record { segs = tail; are = are; choice = c; stand = stand; spelled = spelled; front = is; spells = refl; count_is = omega arith; breaks = refl; notes = refl }

-- A segment more, which stands so before others (`stood`), and before which this is written (`v`).
pub more_written : (kind : GroupKind) (form : Form) (first none : Bool) (stands out depth : ℕ) (text rest inner end next w u v : List ℕ) (n : ℕ) (h k c : Bool)
    → ContinuesWritten kind form first none stands out depth text rest w n h c
    → (notes : List (List ℕ)) → AreComments notes → (note : Option (List ℕ)) → AreComments (beside note) → (s : IsSegmentWritten kind stands out depth inner end u k)
    → ((tail : Segs) (d : Choice) (last : List ℕ) → next ≡ standing form d stands kind false tail ++ last
    → rest ≡ standing form (free false s.choice d) stands kind none (seg notes s.segment.xs note tail) ++ last)
    → ((tail : Segs) → writing form out kind none (seg notes s.segment.xs note tail) ≡ v ++ writing form out kind false tail)
    → ContinuesWritten kind form first false stands out depth text next (w ++ v) (n + 1) (h || k) (c || (is_filled notes || is_some note))
more_written kind form first none stands out depth text rest inner end next w u v n h k c so notes notes_are note note_is s stood wrote = λ tail d last are stand spelled is.
    let all = so (seg notes s.segment.xs note tail) (free false s.choice d) last (before_it tail are) (s.stand, stand)
    (ap (λ xs. seg notes xs note (segs_spelled_by d tail)) s.spelled ∙ ap (seg notes s.segment.xs note) spelled) (stood tail d last is) in
    record {
      segs = all.segs;
      are = all.are;
      choice = all.choice;
      stand = all.stand;
      spelled = all.spelled;
      front = all.front;
      spells = append_assoc w v (writing form out kind false tail) ∙ ap (λ (t : List ℕ). w ++ t) (sym (wrote tail)) ∙ all.spells;
      count_is = all.count_is ∙ omega arith;
      breaks = all.breaks ∙ ap (λ b. h || (b || segs_hold tail)) s.segment.breaks ∙ or_assoc h k (segs_hold tail);
      notes = all.notes ∙ four c (is_filled notes) (is_some note) (have_comments tail);
    }
  where
    before_it : (tail : Segs) → AreSegments kind depth tail → AreSegments kind depth (seg notes s.segment.xs note tail)
    before_it tail are = record {
      texts = (notes_are, s.segment.is.some, s.segment.is.texts, note_is, are.texts);
      kinds = (s.segment.is.kinds, are.kinds);
      grammar = one_more kind notes s.segment.xs note tail s.segment.is.grammar are.grammar;
      no_for = s.segment.is.no_for;
      depth_fits = most _ _ depth s.segment.is.depth_fits are.depth_fits;
      stays = ap (λ xs. seg notes xs note (spelled_segs tail)) s.segment.is.stays ∙ ap (λ ss. seg notes s.segment.xs note ss) are.stays;
    }

    four : (c d e t : Bool) → (c || (d || e || t)) ≡ ((c || (d || e)) || t)
    four true d e t = refl
    four false true e t = refl
    four false false e t = refl

-- all
pub finish_written : (kind : GroupKind) (form : Form) (first none : Bool) (stands out depth : ℕ) (text rest w : List ℕ) (n : ℕ) (h c : Bool)
    → ContinuesWritten kind form first none stands out depth text rest w n h c → rest ≡ standing form own stands kind none no_segs ++ rest → w ≡ w ++ writing form out kind none no_segs
    → AreSegmentsWritten kind form first stands out depth text rest w n h c
finish_written kind form first none stands out depth text rest w n h c so ends nothing =
    let all = so no_segs own rest (no_segments kind depth) tt refl ends in
    record {
      segs = all.segs;
      are = all.are;
      choice = all.choice;
      stand = all.stand;
      spelled = all.spelled;
      front = all.front;
      spells = nothing ∙ all.spells;
      count_is = all.count_is ∙ omega arith;
      breaks = all.breaks ∙ or_no h;
      notes = all.notes ∙ or_no c;
    }
