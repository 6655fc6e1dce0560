-- Segments of a group, one more of them.
use Rattle.std.proofs.Common.{◌≡◌, ◌≤◌, ℕ, ◌+◌, List, [], ◌∷◌, ◌++◌, Bool, true, false, ◌||◌, refl, sym, ap, ◌∙◌, arith, append_assoc, append-nil}
use Rattle.std.specs.Prelude.{codes, nat_le, Option, Some, None, is_some, max}
use Rattle.std.proofs.lemmas.Bool.Decides.{nat_tests}
use Rattle.bz_token.specs.declared.token.Kind.TheVariants.{Identifier, Comment, Newline, Operator}
use Rattle.bz_token.specs.Lexical.{operators, is_text}
use Rattle.bz_tree.specs.declared.tree.GroupKind.{GroupKind}
use Rattle.bz_tree.specs.declared.tree.GroupKind.TheVariants.{Call, RuleCall, Load, Paren, List as ListKind, Index, Dict, ListComp, DictComp}
use Rattle.bz_tree.specs.private.Productions.{IsTest, IsChain, IsTerm, IsArg, IsEntry, AreArgs, AreTests, AreEntries, AreLoadArgs}
use Rattle.std.proofs.lemmas.Bool.{false≢true}
use Rattle.bz_layout_laws.specs.Legible.{AreComments}
use Rattle.bz_tree.specs.Tree.{Item, leaf, Items, no_items, item, Segs, no_segs, seg, is_call}
use Rattle.bz_layout.specs.declared.spacing.Edge.{Edge}
use Rattle.bz_layout.specs.declared.spacing.Edge.TheVariants.{Start, Operator as EdgeOperator, Operand as EdgeOperand}
use Rattle.bz_layout.specs.declared.spacing.Gap.{Gap}
use Rattle.bz_layout.specs.declared.spacing.Gap.TheVariants.{Closed, Space, Line}
use Rattle.bz_layout.specs.declared.broken.Style.TheVariants.{Broken}
use Rattle.bz_layout.specs.Walked.{segs_hold, have_comments, item_pieces, items_pieces, broken_segs, flat_segs, no_space_before, edge_after, gap_before}
use Rattle.bz_layout.specs.Pieces.{Piece, piece, gap_bytes, bytes_of, comment_lines, comments, indent, suffix_piece}
use Rattle.bz_layout.proofs.Pieces.{bytes_append}
use Rattle.bz_canonical.specs.private.Fronts.{IsTokenFront}
use Rattle.bz_canonical.specs.private.Values.{IsValueFront, AreNodesFront}
use Rattle.bz_canonical.specs.private.Segments.{IsOf, AreOf, IsSegmentFront, AreSegments, AreSegmentsFront, Continues, AreFlatFront, ContinuesFlat, AreLinesFront, AreNotesFront, IsBesideFront}
use Rattle.bz_token.specs.Common.{is_filled}

pub most : (a b n : ℕ) → a ≤ n → b ≤ n → max a b ≤ n
most a b n h k = omega (arith, h, k)

pub one_more : (kind : GroupKind) (before : List (List ℕ)) (xs : Items) (beside : Option (List ℕ)) (ss : Segs) → IsOf kind xs → AreOf kind ss → AreOf kind (seg before xs beside ss)
one_more Call before xs beside ss h hs = AreArgs.one_arg h hs
one_more RuleCall before xs beside ss h hs = AreArgs.one_arg h hs
one_more Load before xs beside ss h hs = AreLoadArgs.load_arg h hs
one_more ListKind before xs beside ss h hs = AreTests.one_test h hs
one_more Dict before xs beside ss h hs = AreEntries.one_entry h hs
one_more Paren before xs beside ss h hs = tt
one_more Index before xs beside ss h hs = tt
one_more ListComp before xs beside ss h hs = tt
one_more DictComp before xs beside ss h hs = tt

none_of : (kind : GroupKind) → AreOf kind no_segs
none_of Call = AreArgs.no_arg
none_of RuleCall = AreArgs.no_arg
none_of Load = AreLoadArgs.no_load_arg
none_of ListKind = AreTests.no_test
none_of Dict = AreEntries.no_entry
none_of Paren = tt
none_of Index = tt
none_of ListComp = tt
none_of DictComp = tt

pub no_segments : (kind : GroupKind) (depth : ℕ) → AreSegments kind depth no_segs
no_segments kind depth = record { texts = tt; kinds = tt; grammar = none_of kind; no_for = refl; depth_fits = omega arith; stays = refl }

pub or_no : (b : Bool) → (b || false) ≡ b
or_no true = refl
or_no false = refl

pub or_assoc : (x y z : Bool) → (x || (y || z)) ≡ ((x || y) || z)
or_assoc true y z = refl
or_assoc false y z = refl

pub four_or : (a b c d : Bool) → (a || b || c || d) ≡ (a || (b || (c || d)))
four_or true b c d = refl
four_or false true c d = refl
four_or false false true d = refl
four_or false false false d = refl

-- a segment with its comments before others
abbrev pub noted_before : (kind : GroupKind) (level depth : ℕ) (rest below inner end after next : List ℕ) (k d e : Bool) → (above : AreNotesFront level rest below d) → (s : IsSegmentFront kind level depth inner end k) → (beside : IsBesideFront after next e)
    → (tail : Segs) → AreSegments kind depth tail → AreSegments kind depth (seg above.notes s.xs beside.note tail)
noted_before kind level depth rest below inner end after next k d e above s beside tail are = record {
  texts = (above.are, s.is.some, s.is.texts, beside.is, are.texts);
  kinds = (s.is.kinds, are.kinds);
  grammar = one_more kind above.notes s.xs beside.note tail s.is.grammar are.grammar;
  no_for = s.is.no_for;
  depth_fits = most _ _ depth s.is.depth_fits are.depth_fits;
  stays = ap (λ xs. seg above.notes xs beside.note _) s.is.stays ∙ ap (λ ss. seg above.notes s.xs beside.note ss) are.stays;
}

-- on lines

abbrev pub begin : (kind : GroupKind) (level depth : ℕ) (text : List ℕ) → Continues kind level depth text text 0 false false
begin kind level depth text = λ tail last are is. record { segs = tail; are = are; front = is; count_is = omega arith; breaks = refl; notes = refl }

abbrev pub more : (kind : GroupKind) (level depth : ℕ) (text rest below inner end after next : List ℕ) (n : ℕ) (h k c d e : Bool) → Continues kind level depth text rest n h c
    → AreNotesFront level rest below d → below ≡ 10 ∷ (indent level ++ inner) → IsSegmentFront kind level depth inner end k → end ≡ 44 ∷ after → IsBesideFront after next e
    → Continues kind level depth text next (n + 1) (h || k) (c || (d || e))
more kind level depth text rest below inner end after next n h k c d e so above line s comma beside = λ tail last are is.
    let all = so (seg above.notes s.xs beside.note tail) last (noted_before kind level depth rest below inner end after next k d e above s beside tail are) (by tail last is) in
    record {
      segs = all.segs;
      are = all.are;
      front = all.front;
      count_is = all.count_is ∙ omega arith;
      breaks = all.breaks ∙ ap (λ b. h || (b || segs_hold tail)) s.breaks ∙ or_assoc h k (segs_hold tail);
      notes = all.notes ∙ noted (is_filled above.notes) above.some_is (is_some beside.note) beside.some_is (have_comments tail);
    }
  where
    join : (P Q R S : List Piece) (last : List ℕ) → bytes_of P ++ (bytes_of Q ++ (44 ∷ (bytes_of R ++ (bytes_of S ++ last))))
        ≡ bytes_of (P ++ (Q ++ (piece Closed Operator (codes ",") ∷ (R ++ S)))) ++ last
    join P Q R S last = rw (bytes_append P (Q ++ (piece Closed Operator (codes ",") ∷ (R ++ S))), bytes_append Q (piece Closed Operator (codes ",") ∷ (R ++ S)), bytes_append R S) (simp append_assoc)

    by : (tail : Segs) (last : List ℕ) → next ≡ bytes_of (broken_segs Broken level kind true tail) ++ last
        → rest ≡ bytes_of (broken_segs Broken level kind true (seg above.notes s.xs beside.note tail)) ++ last
    by tail last is =
        above.front ∙ ap (λ (t : List ℕ). bytes_of (comments level above.notes) ++ t)
        (line ∙ s.front (Line level) ∙ ap (λ (t : List ℕ). bytes_of (items_pieces Broken level (Some kind) (Line level) Start s.xs) ++ t)
        (comma ∙ ap (λ (t : List ℕ). 44 ∷ t) (beside.front ∙ ap (λ (t : List ℕ). bytes_of (suffix_piece beside.note) ++ t) is)))
        ∙ join (comments level above.notes) (items_pieces Broken level (Some kind) (Line level) Start s.xs) (suffix_piece beside.note) (broken_segs Broken level kind true tail) last

    noted : (x : Bool) → x ≡ d → (y : Bool) → y ≡ e → (t : Bool) → (c || (x || y || t)) ≡ ((c || (d || e)) || t)
    noted x x_is y y_is t = rw (x_is, y_is) (four c d e t)
      where
        four : (c d e t : Bool) → (c || (d || e || t)) ≡ ((c || (d || e)) || t)
        four true d e t = refl
        four false true e t = refl
        four false false e t = refl

pub finish : (kind : GroupKind) (level depth : ℕ) (text rest : List ℕ) (n : ℕ) (h c : Bool) → Continues kind level depth text rest n h c → AreSegmentsFront kind level depth text rest n h c
finish kind level depth text rest n h c so =
    let all = so no_segs rest (no_segments kind depth) refl in
    record {
      segs = all.segs;
      are = all.are;
      front = all.front;
      count_is = all.count_is ∙ omega arith;
      breaks = all.breaks ∙ or_no h;
      notes = all.notes ∙ or_no c;
    }

-- in place

pub none_flat : (kind : GroupKind) (level depth : ℕ) (text : List ℕ) → AreFlatFront kind true level depth text text 0 false
none_flat kind level depth text = record { segs = no_segs; are = no_segments kind depth; front = refl; count_is = refl; breaks = refl; bare = refl }

pub begin_after : (kind : GroupKind) (level depth : ℕ) (text : List ℕ) → ContinuesFlat kind false level depth text text 0 false
begin_after kind level depth text = λ tail last are bare is. record { segs = tail; are = are; front = is; count_is = omega arith; breaks = refl; bare = bare }

-- one segment before others
abbrev pub one_before : (kind : GroupKind) (level depth : ℕ) (inner end : List ℕ) (k : Bool) → (s : IsSegmentFront kind level depth inner end k) → (tail : Segs) → AreSegments kind depth tail → AreSegments kind depth (seg [] s.xs None tail)
one_before kind level depth inner end k s tail are = record {
  texts = (refl, s.is.some, s.is.texts, refl, are.texts);
  kinds = (s.is.kinds, are.kinds);
  grammar = one_more kind [] s.xs None tail s.is.grammar are.grammar;
  no_for = s.is.no_for;
  depth_fits = most _ _ depth s.is.depth_fits are.depth_fits;
  stays = ap (λ xs. seg [] xs None _) s.is.stays ∙ ap (λ ss. seg [] s.xs None ss) are.stays;
}

abbrev pub begin_flat : (kind : GroupKind) (level depth : ℕ) (text end : List ℕ) (k : Bool) → IsSegmentFront kind level depth text end k → ContinuesFlat kind true level depth text end 1 k
begin_flat kind level depth text end k s = λ tail last are bare is. record {
  segs = seg [] s.xs None tail;
  are = one_before kind level depth text end k s tail are;
  front = s.front Closed ∙ ap (λ (t : List ℕ). bytes_of (items_pieces Broken level (Some kind) Closed Start s.xs) ++ t) is
      ∙ sym (append_assoc (bytes_of (items_pieces Broken level (Some kind) Closed Start s.xs)) (bytes_of (flat_segs Broken level kind false tail)) last)
      ∙ ap (λ (t : List ℕ). t ++ last) (sym (bytes_append (items_pieces Broken level (Some kind) Closed Start s.xs) (flat_segs Broken level kind false tail)));
  count_is = omega arith;
  breaks = ap (λ b. b || segs_hold tail) s.breaks;
  bare = bare;
}

pub more_flat : (kind : GroupKind) (first : Bool) (level depth : ℕ) (text rest inner end : List ℕ) (n : ℕ) (h k : Bool) → ContinuesFlat kind first level depth text rest n h
    → rest ≡ 44 ∷ 32 ∷ inner → IsSegmentFront kind level depth inner end k → ContinuesFlat kind first level depth text end (n + 1) (h || k)
more_flat kind first level depth text rest inner end n h k so comma s = λ tail last are bare is.
    let all = so (seg [] s.xs None tail) last (one_before kind level depth inner end k s tail are) bare (by tail last is) in
    record {
      segs = all.segs;
      are = all.are;
      front = all.front;
      count_is = all.count_is ∙ omega arith;
      breaks = all.breaks ∙ ap (λ b. h || (b || segs_hold tail)) s.breaks ∙ or_assoc h k (segs_hold tail);
      bare = all.bare;
    }
  where
    join : (P Q : List Piece) (last : List ℕ) → 44 ∷ (bytes_of P ++ (bytes_of Q ++ last)) ≡ bytes_of ((piece Closed Operator (codes ",") ∷ P) ++ Q) ++ last
    join P Q last = rw (bytes_append P Q) (simp append_assoc)

    by : (tail : Segs) (last : List ℕ) → end ≡ bytes_of (flat_segs Broken level kind false tail) ++ last
        → rest ≡ bytes_of (flat_segs Broken level kind false (seg [] s.xs None tail)) ++ last
    by tail last is = comma ∙ ap (λ (t : List ℕ). 44 ∷ t) (s.front Space ∙ ap (λ (t : List ℕ). bytes_of (items_pieces Broken level (Some kind) Space Start s.xs) ++ t) is)
        ∙ join (items_pieces Broken level (Some kind) Space Start s.xs) (flat_segs Broken level kind false tail) last

pub finish_flat : (kind : GroupKind) (first : Bool) (level depth : ℕ) (text rest : List ℕ) (n : ℕ) (h : Bool) → ContinuesFlat kind first level depth text rest n h → AreFlatFront kind first level depth text rest n h
finish_flat kind first level depth text rest n h so =
    let all = so no_segs rest (no_segments kind depth) refl refl in
    record {
      segs = all.segs;
      are = all.are;
      front = all.front;
      count_is = all.count_is ∙ omega arith;
      breaks = all.breaks ∙ or_no h;
      bare = all.bare;
    }

-- comments

abbrev pub ContinuesNotes : ℕ → List ℕ → List ℕ → Bool → Type 0
ContinuesNotes level text rest some = (tail : List (List ℕ)) (last : List ℕ) → AreComments tail → rest ≡ bytes_of (comments level tail) ++ last
    → AreNotesFront level text last (some || is_filled tail)

pub begin_notes : (level : ℕ) (text : List ℕ) → ContinuesNotes level text text false
begin_notes level text = λ tail last are is. record { notes = tail; are = are; front = is; some_is = refl }

pub more_notes : (level : ℕ) (text rest inner next : List ℕ) (b : Bool) → ContinuesNotes level text rest b → rest ≡ 10 ∷ (indent level ++ inner) → IsTokenFront Comment inner next
    → ContinuesNotes level text next true
more_notes level text rest inner next b so line f = λ tail last are is.
    let all = so (f.token ∷ tail) last (rw f.is are)
    (line ∙ ap (λ (t : List ℕ). 10 ∷ (indent level ++ t)) (f.front ∙ ap (λ (t : List ℕ). f.token ++ t) is) ∙ by (comments level tail) last) in
    record { notes = all.notes; are = all.are; front = all.front; some_is = all.some_is ∙ or_yes b }
  where
    by : (P : List Piece) (last : List ℕ) → 10 ∷ (indent level ++ (f.token ++ (bytes_of P ++ last))) ≡ bytes_of (piece (Line level) Comment f.token ∷ P) ++ last
    by P last = simp append_assoc

    or_yes : (b : Bool) → (b || true) ≡ true
    or_yes true = refl
    or_yes false = refl

pub finish_notes : (level : ℕ) (text rest : List ℕ) (b : Bool) → ContinuesNotes level text rest b → AreNotesFront level text rest b
finish_notes level text rest b so =
    let all = so [] rest refl refl in
    record { notes = all.notes; are = all.are; front = all.front; some_is = all.some_is ∙ or_no b }

abbrev pub ContinuesLines : List ℕ → List ℕ → Type 0
ContinuesLines text rest = (tail : List (List ℕ)) (last : List ℕ) → AreComments tail → rest ≡ bytes_of (comment_lines tail) ++ last → AreLinesFront text last

pub begin_lines : (text : List ℕ) → ContinuesLines text text
begin_lines text = λ tail last are is. record { notes = tail; are = are; front = is }

pub more_lines : (text rest end next : List ℕ) → ContinuesLines text rest → IsTokenFront Comment rest end → end ≡ 10 ∷ next → ContinuesLines text next
more_lines text rest end next so f line = λ tail last are is.
    so (f.token ∷ tail) last (rw f.is are) (f.front ∙ ap (λ (t : List ℕ). f.token ++ t) (line ∙ ap (λ (t : List ℕ). 10 ∷ t) is) ∙ by (comment_lines tail) last)
  where
    by : (P : List Piece) (last : List ℕ) → f.token ++ (10 ∷ (bytes_of P ++ last)) ≡ bytes_of (piece Closed Comment f.token ∷ piece Closed Newline (codes "\n") ∷ P) ++ last
    by P last = simp append_assoc

pub finish_lines : (text rest : List ℕ) → ContinuesLines text rest → AreLinesFront text rest
finish_lines text rest so = so [] rest refl refl

pub no_beside : (text : List ℕ) → IsBesideFront text text false
no_beside text = record { note = None; is = refl; front = refl; some_is = refl }

pub one_beside : (text inner rest : List ℕ) → text ≡ 32 ∷ 32 ∷ inner → IsTokenFront Comment inner rest → IsBesideFront text rest true
one_beside text inner rest is f = record {
  note = Some f.token;
  is = rw f.is refl;
  front = is ∙ ap (λ (t : List ℕ). 32 ∷ 32 ∷ t) (f.front ∙ ap (λ (t : List ℕ). t ++ rest) (sym (append-nil f.token)));
  some_is = refl;
}

-- what a segment is

abbrev pub nodes_segment : (kind : GroupKind) (level depth : ℕ) (text rest : List ℕ) (h : Bool) → (v : AreNodesFront level depth text rest h) → IsOf kind (item v.x v.xs) → IsSegmentFront kind level depth text rest h
nodes_segment kind level depth text rest h v grammar = record {
  xs = item v.x v.xs;
  is = record {
    some = refl;
    texts = v.are.texts;
    kinds = v.are.kinds;
    grammar = grammar;
    no_for = v.are.no_for;
    depth_fits = v.are.depth_fits;
    stays = v.are.stays;
  };
  front = λ gap. v.front (Some kind) gap Start;
  breaks = v.breaks;
}

-- an element
abbrev pub element_segment : (level depth : ℕ) (text rest : List ℕ) (h : Bool) → AreNodesFront level depth text rest h → IsSegmentFront ListKind level depth text rest h
element_segment level depth text rest h v = nodes_segment ListKind level depth text rest h v v.are.test

pub argument_of : (kind : GroupKind) → is_call kind ≡ true → (xs : Items) → IsArg xs → IsOf kind xs
argument_of Call is xs a = a
argument_of RuleCall is xs a = a
argument_of Load is xs a = absurd (false≢true is)
argument_of ListKind is xs a = absurd (false≢true is)
argument_of Dict is xs a = absurd (false≢true is)
argument_of Paren is xs a = absurd (false≢true is)
argument_of Index is xs a = absurd (false≢true is)
argument_of ListComp is xs a = absurd (false≢true is)
argument_of DictComp is xs a = absurd (false≢true is)

-- an argument by its place
abbrev pub positional_segment : (kind : GroupKind) (level depth : ℕ) (text rest : List ℕ) (h : Bool) → is_call kind ≡ true → AreNodesFront level depth text rest h → IsSegmentFront kind level depth text rest h
positional_segment kind level depth text rest h call v = nodes_segment kind level depth text rest h v (argument_of kind call (item v.x v.xs) (IsArg.positional v.are.test))

pub equals_text : is_text Operator (codes "=") ≡ true
unfolding operators
equals_text = refl

pub colon_text : is_text Operator (codes ":") ≡ true
unfolding operators
colon_text = refl

-- after an operand `=` is no prefix and no star, whatever it stands in
pub equals_edge : (within : Option GroupKind) → edge_after within EdgeOperand (leaf Operator (codes "=")) ≡ EdgeOperator
equals_edge None = refl
equals_edge (Some Call) = refl
equals_edge (Some RuleCall) = refl
equals_edge (Some Load) = refl
equals_edge (Some Paren) = refl
equals_edge (Some ListKind) = refl
equals_edge (Some Index) = refl
equals_edge (Some Dict) = refl
equals_edge (Some ListComp) = refl
equals_edge (Some DictComp) = refl

-- a value by its name
abbrev pub named_segment : (kind : GroupKind) (level depth : ℕ) (text equals rest value : List ℕ) (h : Bool) → (f : IsTokenFront Identifier text equals)
    → equals ≡ codes " = " ++ value → (v : AreNodesFront level depth value rest h) → IsOf kind (item (leaf Identifier f.token) (item (leaf Operator (codes "=")) (item v.x v.xs)))
    → IsSegmentFront kind level depth text rest h
named_segment kind level depth text equals rest value h f eq v grammar = record {
  xs = item (leaf Identifier f.token) (item (leaf Operator (codes "=")) (item v.x v.xs));
  is = record {
    some = refl;
    texts = ((f.is, refl), ((equals_text, refl), v.are.texts));
    kinds = (λ e. e, tt, (λ e. e, tt, v.are.kinds));
    grammar = grammar;
    no_for = v.are.no_for;
    depth_fits = most _ _ depth (omega arith) (most _ _ depth (omega arith) v.are.depth_fits);
    stays = ap (λ xs. item (leaf Identifier f.token) (item (leaf Operator (codes "=")) xs)) v.are.stays;
  };
  front = front;
  breaks = v.breaks;
}
  where
    gap_is : (first : Gap) (x : Item) → no_space_before x ≡ false → gap_before first EdgeOperator x ≡ Space
    gap_is first x e = rw e refl

    value_is : (first : Gap) → 32 ∷ value ≡ bytes_of (items_pieces Broken level (Some kind) first EdgeOperator (item v.x v.xs)) ++ rest
    value_is first = ap (λ g. gap_bytes g ++ value) (sym (gap_is first v.x v.are.apart)) ∙ v.front (Some kind) first EdgeOperator

    by : (gap : Gap) (e : Edge) → e ≡ EdgeOperator → gap_bytes gap ++ (f.token ++ (32 ∷ 61 ∷ (bytes_of (items_pieces Broken level (Some kind) gap EdgeOperator (item v.x v.xs)) ++ rest)))
        ≡ (gap_bytes gap ++ (f.token ++ (32 ∷ 61 ∷ bytes_of (items_pieces Broken level (Some kind) gap e (item v.x v.xs))))) ++ rest
    by gap e is = rw is (simp append_assoc)

    front : (gap : Gap) → gap_bytes gap ++ text ≡ bytes_of (items_pieces Broken level (Some kind) gap Start (item (leaf Identifier f.token) (item (leaf Operator (codes "=")) (item v.x v.xs)))) ++ rest
    front gap = ap (λ (t : List ℕ). gap_bytes gap ++ t) (f.front ∙ ap (λ (t : List ℕ). f.token ++ t) (eq ∙ ap (λ (t : List ℕ). 32 ∷ 61 ∷ t) (value_is gap)))
        ∙ by gap (edge_after (Some kind) EdgeOperand (leaf Operator (codes "="))) (equals_edge (Some kind))

-- an argument by its name
abbrev pub keyword_segment : (kind : GroupKind) (level depth : ℕ) (text equals rest value : List ℕ) (h : Bool) → is_call kind ≡ true → IsTokenFront Identifier text equals
    → equals ≡ codes " = " ++ value → AreNodesFront level depth value rest h → IsSegmentFront kind level depth text rest h
keyword_segment kind level depth text equals rest value h call f eq v = named_segment kind level depth text equals rest value h f eq v (argument_of kind call _ (IsArg.keyword refl refl v.are.test))

-- an entry of a dict
abbrev pub entry_segment : (level depth : ℕ) (text colon rest value : List ℕ) (h : Bool) → IsValueFront level depth text colon false
    → colon ≡ codes ": " ++ value → AreNodesFront level depth value rest h → IsSegmentFront Dict level depth text rest h
entry_segment level depth text colon rest value h k eq v = record {
  xs = item k.x (item (leaf Operator (codes ":")) (item v.x v.xs));
  is = record {
    some = refl;
    texts = (k.is.texts, ((colon_text, refl), v.are.texts));
    kinds = (λ e. sym k.is.no_comma ∙ e, k.is.kinds, (λ e. e, tt, v.are.kinds));
    grammar = IsEntry.entry {a = item k.x no_items} {b = item v.x v.xs} (leaf Operator (codes ":")) refl (IsTest.plain (IsChain.single (IsTerm.primary k.is.primary))) refl v.are.test;
    no_for = rw (k.is.no_comma, k.is.no_for) v.are.no_for;
    depth_fits = most _ _ depth k.is.depth_fits (most _ _ depth (omega arith) v.are.depth_fits);
    stays = ap (λ x. item x _) k.is.stays ∙ ap (λ xs. item k.x (item (leaf Operator (codes ":")) xs)) v.are.stays;
  };
  front = front;
  breaks = rw k.breaks v.breaks;
}
  where
    gap_is : (first : Gap) (x : Item) → no_space_before x ≡ false → gap_before first EdgeOperator x ≡ Space
    gap_is first x e = rw e refl

    value_is : (first : Gap) → 32 ∷ value ≡ bytes_of (items_pieces Broken level (Some Dict) first EdgeOperator (item v.x v.xs)) ++ rest
    value_is first = ap (λ g. gap_bytes g ++ value) (sym (gap_is first v.x v.are.apart)) ∙ v.front (Some Dict) first EdgeOperator

    by : (gap : Gap) (e : Edge) → e ≡ EdgeOperand → bytes_of (item_pieces Broken level gap k.x) ++ (58 ∷ (bytes_of (items_pieces Broken level (Some Dict) gap EdgeOperator (item v.x v.xs)) ++ rest))
        ≡ bytes_of (item_pieces Broken level gap k.x ++ items_pieces Broken level (Some Dict) gap e (item (leaf Operator (codes ":")) (item v.x v.xs))) ++ rest
    by gap e is = rw (is, bytes_append (item_pieces Broken level gap k.x) (items_pieces Broken level (Some Dict) gap EdgeOperand (item (leaf Operator (codes ":")) (item v.x v.xs)))) (simp append_assoc)

    front : (gap : Gap) → gap_bytes gap ++ text ≡ bytes_of (items_pieces Broken level (Some Dict) gap Start (item k.x (item (leaf Operator (codes ":")) (item v.x v.xs)))) ++ rest
    front gap = k.front gap ∙ ap (λ (t : List ℕ). bytes_of (item_pieces Broken level gap k.x) ++ t) (eq ∙ ap (λ (t : List ℕ). 58 ∷ t) (value_is gap))
        ∙ by gap (edge_after (Some Dict) Start k.x) (k.is.leaves (Some Dict) Start)

pub first_of_more : (n : ℕ) → true ≡ nat_le 1 (n + 1)
first_of_more n = grind (arith, nat_tests)

pub second_of_more : (n : ℕ) → nat_le 1 n ≡ nat_le 2 (n + 1)
second_of_more n = grind (arith, nat_tests)
