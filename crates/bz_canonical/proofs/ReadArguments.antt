-- Arguments of a rule, and what is written of them.
use Rattle.std.proofs.Common.{subst, ◌||◌, ◌≡◌, ◌≤◌, ◌<◌, ℕ, suc, length, List, [], ◌∷◌, ◌++◌, Bool, true, false, refl, sym, ap, ◌∙◌, arith, append_assoc, append-nil}
use Rattle.std.specs.Prelude.{codes, flat_map, map, nat_le, not, Some, if◌then◌else◌, Option}
use Rattle.std.proofs.lemmas.Bool.{false≢true}
use Rattle.std.proofs.lemmas.Bool.Decides.{nat_tests}
use Rattle.std.proofs.lemmas.List.{length-append}
use Rattle.bz_token.specs.declared.token.Kind.TheVariants.{Identifier, Operator, String}
use Rattle.bz_tree.specs.declared.tree.kinds.Preceding.TheVariants.{Other}
use Rattle.bz_tree.specs.declared.tree.kinds.Shape.TheVariants.{Square}
use Rattle.bz_tree.specs.declared.tree.GroupKind.TheVariants.{List as ListKind, RuleCall}
use Rattle.bz_tree.specs.private.Productions.{AreArgs, AreSuffixes, AreTests, IsArg, IsChain, IsOperand, IsPrimary, IsTerm, IsTest}
use Rattle.bz_token.specs.Lexical.{is_text}
use Rattle.bz_tree.specs.Comments.{beside}
use Rattle.bz_tree.specs.Kinds.{group_kind}
use Rattle.bz_tree.specs.Tree.{leaf, group, Items, no_items, item, Segs, no_segs, seg, items_of, segments, segs_of, Segment}
use Rattle.bz_layout.specs.Walked.{count, have_comments, is_broken, segs_hold, broken_segs, flat_segs}
use Rattle.bz_layout.specs.Layout.{breaks}
use Rattle.bz_layout.specs.Pieces.{Piece, piece, bytes_of, comments, indent, suffix_piece}
use Rattle.bz_layout.specs.declared.broken.Style.TheVariants.{Broken}
use Rattle.bz_layout.specs.declared.spacing.Edge.TheVariants.{Start}
use Rattle.bz_layout.specs.declared.spacing.Gap.TheVariants.{Closed, Line, Space}
use Rattle.bz_layout.proofs.Pieces.{bytes_append}
use Rattle.bz_layout_laws.specs.FreeLayout.{SegsStand, broken_by, flat_by, free, own, segs_spelled_by}
use Rattle.bz_layout_laws.specs.Legible.{AreComments, segs_depth}
use Rattle.bz_layout_laws.specs.Parsed.{SegsHaveKinds, have_for}
use Rattle.bz_layout_laws.specs.TextsOfKinds.{SegsHaveTexts}
use Rattle.bz_canonical.specs.Canonical.{argument_lines}
use Rattle.bz_canonical.specs.private.Arguments.{AreArgumentsRead, AreEnded, AreRead, IsValueEnd, IsArgumentRead, IsHeadRead}
use Rattle.bz_canonical.specs.private.Placed.{AreFormed, ArePlaced, IsPlaced, Placed, args_of, placed_lines}
use Rattle.bz_canonical.specs.private.Pendings.{IsPending}
use Rattle.bz_canonical.specs.private.Elements.{AreElements, Element, IsListRead, element_list, element_segs, elements_as_is}
use Rattle.bz_canonical.specs.private.Fronts.{IsTokenFront}
use Rattle.bz_token.specs.Common.{is_filled}
use Rattle.bz_layout_laws.specs.Spelled.{spelled_segs}
use Rattle.bz_canonical.specs.declared.arguments.ReadArguments.{ReadArguments}
use Rattle.bz_canonical.specs.declared.arguments.NamedArguments.{NamedArguments}
use Rattle.bz_canonical.specs.private.Segments.{AreNotesFront, AreSegments, AreSegmentsFront, IsBesideFront}
use Rattle.bz_canonical.proofs.ArgumentLines.{argument_front, lines_after, lines_append, segs_same}
use Rattle.bz_canonical.proofs.ElementLists.{flat_append}
use Rattle.bz_canonical.proofs.GroupSegments.{equals_text, most, no_segments}
use Rattle.bz_canonical.proofs.Pendings.{pend_more, pend_same}
use Rattle.bz_canonical.proofs.OwnLayout.{own_items, own_spelled, own_stand}

-- elements, as a well-formed statement has them

pub element_texts : (es : List Element) → AreElements es → SegsHaveTexts (element_segs es)
element_texts [] are = tt
element_texts (e ∷ es) are = (are.0, refl, ((are.1, refl), tt), are.2, element_texts es are.3)

pub element_kinds : (es : List Element) → SegsHaveKinds false (element_segs es)
element_kinds [] = tt
element_kinds (e ∷ es) = ((λ is. is, tt, tt), element_kinds es)

pub element_tests : (es : List Element) → AreTests (element_segs es)
element_tests [] = AreTests.no_test
element_tests (e ∷ es) = AreTests.one_test (IsTest.plain (IsChain.single (IsTerm.primary (IsPrimary.operand (IsOperand.text refl) AreSuffixes.no_suffix)))) (element_tests es)

pub element_for : (es : List Element) → have_for (element_segs es) ≡ false
element_for [] = refl
element_for (e ∷ es) = refl

pub element_depth : (es : List Element) → segs_depth (element_segs es) ≤ 0
element_depth [] = omega arith
element_depth (e ∷ es) = most _ _ 0 (omega arith) (element_depth es)

pub element_stand : (es : List Element) → SegsStand (elements_as_is es) (element_segs es)
element_stand [] = tt
element_stand (e ∷ es) = ((tt, tt), element_stand es)

pub element_spelled : (es : List Element) → segs_spelled_by (elements_as_is es) (element_segs es) ≡ element_segs es
element_spelled [] = refl
element_spelled (e ∷ es) = ap (λ ss. seg e.before (item (leaf String e.token) no_items) e.suffix ss) (element_spelled es)

pub absurd_of : {A : Type 0} → false ≡ true → A
absurd_of h = absurd (false≢true h)

-- an argument whose value is a list of strings

-- what follows the first bracket, as it stands, and as it is written
abbrev pub standing : Bool → List Element → List Piece
standing b es = if b then broken_by (elements_as_is es) 2 ListKind true (element_segs es) ++ (piece (Line 1) Operator (codes "]") ∷ []) else flat_by (elements_as_is es) 1 ListKind true (element_segs es) ++ (piece Closed Operator (codes "]") ∷ [])

abbrev pub laid : List Element → List Piece
laid es = if breaks Broken (is_broken ListKind (element_segs es) [] (segs_hold (element_segs es))) then broken_segs Broken 2 ListKind true (element_segs es) ++ (piece (Line 1) Operator (codes "]") ∷ [])
    else flat_segs Broken 1 ListKind true (element_segs es) ++ (piece Closed Operator (codes "]") ∷ [])

pub argument_bytes : (C R S : List Piece) (word : List ℕ)
    → bytes_of (C ++ ((piece (Line 1) Identifier word ∷ piece Space Operator (codes "=") ∷ piece Space Operator (codes "[") ∷ (R ++ [])) ++ (piece Closed Operator (codes ",") ∷ (S ++ []))))
    ≡ bytes_of C ++ (10 ∷ (indent 1 ++ (word ++ (codes " = " ++ ((91 ∷ bytes_of R) ++ (44 ∷ bytes_of S))))))
argument_bytes C R S word =
    rw (
      append-nil R,
      append-nil S,
      bytes_append C (piece (Line 1) Identifier word ∷ piece Space Operator (codes "=") ∷ piece Space Operator (codes "[") ∷ (R ++ (piece Closed Operator (codes ",") ∷ S))),
      bytes_append R (piece Closed Operator (codes ",") ∷ S),
    ) refl

abbrev pub list_placed : List (List ℕ) → List ℕ → Bool → List Element → Option (List ℕ) → Placed
list_placed notes word breaks es suffix = record {
  arg = record { before = notes; nodes = leaf Identifier word ∷ leaf Operator (codes "=") ∷ element_list es ∷ []; suffix = suffix };
  choice = free true own (free true own (free true (free breaks (elements_as_is es) own) own));
}

pub list_lines : (notes : List (List ℕ)) (word : List ℕ) (breaks : Bool) (es : List Element) (suffix : Option (List ℕ))
    → placed_lines (list_placed notes word breaks es suffix) ≡ bytes_of (comments 1 notes) ++ (10 ∷ (indent 1 ++ (word ++ (codes " = " ++ ((91 ∷ bytes_of (standing breaks es)) ++ (44 ∷ bytes_of (suffix_piece suffix)))))))
list_lines notes word breaks es suffix = argument_bytes (comments 1 notes) (standing breaks es) (suffix_piece suffix) word

pub list_is_placed : (depth : ℕ) (notes : List (List ℕ)) (word : List ℕ) (breaks : Bool) (es : List Element) (suffix : Option (List ℕ)) → 0 < depth → AreComments notes → is_text Identifier word ≡ true → AreElements es
    → (breaks ≡ false → have_comments (element_segs es) ≡ false) → AreComments (beside suffix) → IsPlaced depth (list_placed notes word breaks es suffix)
list_is_placed depth notes word breaks es suffix deep above is are stands side = record {
  formed = record {
    texts = (above, refl, ((is, refl), ((equals_text, refl), ((element_texts es are, refl), tt))), side, tt);
    kinds = ((λ is. is, tt, (λ is. is, tt, (λ is. is, (Square, ap (group_kind Square Other) (sym (element_for es)), record { one = λ is. absurd_of is; comma = λ is. absurd_of is }, element_kinds es), tt))), tt);
    grammar = AreArgs.one_arg (IsArg.keyword refl refl (IsTest.plain (IsChain.single (IsTerm.primary (IsPrimary.operand (IsOperand.list (element_tests es)) AreSuffixes.no_suffix))))) AreArgs.no_arg;
    depth_fits = most _ _ depth (most _ _ depth (omega arith) (most _ _ depth (omega arith) (most _ _ depth (omega (arith, element_depth es, deep)) (omega arith)))) (omega arith);
  };
  stand = (tt, (tt, ((stands, element_stand es), tt)));
  spelled = ap (λ ss. item (leaf Identifier word) (item (leaf Operator (codes "=")) (item (group ListKind ss false []) no_items))) (element_spelled es);
}

pub head_some : (C X : List ℕ) → 0 < length (C ++ (10 ∷ X))
head_some C X = omega (arith, length-append C (10 ∷ X))

-- one that stands otherwise
pub list_read : (depth : ℕ) (attr text value end comma next w : List ℕ) (e named : Bool) → 0 < depth → IsHeadRead attr text value named → IsListRead value end w → end ≡ 44 ∷ comma → IsBesideFront comma next e
    → (front back : List ℕ) × (text ≡ front ++ value) × (end ≡ back ++ next) × (0 < length front) × (read : IsArgumentRead depth attr text next (front ++ (w ++ back)) named)
    × (end ≡ 44 ∷ (bytes_of (suffix_piece read.placed.arg.suffix) ++ next))
list_read depth attr text value end comma next w e named deep h l is side =
    let es : List Element = l.elements in
    let C : List ℕ = bytes_of (comments 1 h.notes) in
    let S : List ℕ = bytes_of (suffix_piece side.note) in
    let F : List ℕ = C ++ (10 ∷ (indent 1 ++ (h.word ++ codes " = "))) in
    let begins : text ≡ F ++ value = h.front ∙ start C value in
    let ends : end ≡ (44 ∷ S) ++ next = is ∙ ap (λ (t : List ℕ). 44 ∷ t) side.front in (
      F,
      44 ∷ S,
      begins,
      ends,
      head_some C (indent 1 ++ (h.word ++ codes " = ")),
      record {
        placed = list_placed h.notes h.word l.breaks es side.note;
        is = list_is_placed depth h.notes h.word l.breaks es side.note deep h.are h.is l.are l.stands side.is;
        front = begins ∙ ap (λ (t : List ℕ). F ++ t) (l.front ∙ ap (λ (t : List ℕ). (91 ∷ bytes_of (standing l.breaks es)) ++ t) ends) ∙ whole C (91 ∷ bytes_of (standing l.breaks es)) S
            ∙ ap (λ (t : List ℕ). t ++ next) (sym (list_lines h.notes h.word l.breaks es side.note));
        spells = ap (λ (t : List ℕ). F ++ (t ++ (44 ∷ S))) l.spells ∙ again C (91 ∷ bytes_of (laid es)) S ∙ sym (argument_bytes (comments 1 h.notes) (laid es) (suffix_piece side.note) h.word);
        named_is = h.named_is;
        word = h.word;
        value = element_list es ∷ [];
        nodes_is = refl;
      },
      ends,
    )
  where
    start : (C rest : List ℕ) → C ++ (10 ∷ (indent 1 ++ (h.word ++ (codes " = " ++ rest)))) ≡ (C ++ (10 ∷ (indent 1 ++ (h.word ++ codes " = ")))) ++ rest
    start C rest = simp append_assoc

    whole : (C L S : List ℕ) → (C ++ (10 ∷ (indent 1 ++ (h.word ++ codes " = ")))) ++ (L ++ ((44 ∷ S) ++ next)) ≡ (C ++ (10 ∷ (indent 1 ++ (h.word ++ (codes " = " ++ (L ++ (44 ∷ S))))))) ++ next
    whole C L S = simp append_assoc

    again : (C L S : List ℕ) → (C ++ (10 ∷ (indent 1 ++ (h.word ++ codes " = ")))) ++ (L ++ (44 ∷ S)) ≡ C ++ (10 ∷ (indent 1 ++ (h.word ++ (codes " = " ++ (L ++ (44 ∷ S))))))
    again C L S = simp append_assoc

-- an argument that stands as it is written

abbrev nodes_in : Segs → Items
nodes_in no_segs = no_items
nodes_in (seg before nodes suffix ss) = nodes

abbrev segs_after : Segs → Segs
segs_after no_segs = no_segs
segs_after (seg before nodes suffix ss) = ss

abbrev pub as_it_is : Segment → Placed
as_it_is a = record { arg = a; choice = own }

pub lines_as_is : (a : Segment) → placed_lines (as_it_is a) ≡ argument_lines (a ∷ [])
lines_as_is a = ap (λ (P : List Piece). bytes_of (comments 1 a.before ++ (P ++ (piece Closed Operator (codes ",") ∷ (suffix_piece a.suffix ++ []))))) (own_items 1 (Some RuleCall) (Line 1) Start (items_of a.nodes))

first_arg : (before : List (List ℕ)) (nodes : Items) (suffix : Option (List ℕ)) (ss : Segs) → AreArgs (seg before nodes suffix ss) → IsArg nodes
first_arg before nodes suffix ss (AreArgs.one_arg h hs) = h

later_args : (before : List (List ℕ)) (nodes : Items) (suffix : Option (List ℕ)) (ss : Segs) → AreArgs (seg before nodes suffix ss) → AreArgs ss
later_args before nodes suffix ss (AreArgs.one_arg h hs) = hs

first_formed : (depth : ℕ) (a : Segment) (xs : List Segment) → AreFormed depth (segs_of (a ∷ xs)) → AreFormed depth (segs_of (a ∷ []))
first_formed depth a xs f = record {
  texts = (f.texts.0, f.texts.1, f.texts.2, f.texts.3, tt);
  kinds = (f.kinds.0, tt);
  grammar = AreArgs.one_arg (first_arg a.before (items_of a.nodes) a.suffix (segs_of xs) f.grammar) AreArgs.no_arg;
  depth_fits = omega (arith, f.depth_fits);
}

later_formed : (depth : ℕ) (a : Segment) (xs : List Segment) → AreFormed depth (segs_of (a ∷ xs)) → AreFormed depth (segs_of xs)
later_formed depth a xs f = record {
  texts = f.texts.4;
  kinds = f.kinds.1;
  grammar = later_args a.before (items_of a.nodes) a.suffix (segs_of xs) f.grammar;
  depth_fits = omega (arith, f.depth_fits);
}

pub are_as_is : (depth : ℕ) (xs : List Segment) → AreFormed depth (segs_of xs) → spelled_segs (segs_of xs) ≡ segs_of xs → ArePlaced depth (map as_it_is xs)
are_as_is depth [] f stays = tt
are_as_is depth (a ∷ xs) f stays = (
  record { formed = first_formed depth a xs f; stand = own_stand (items_of a.nodes); spelled = own_spelled (items_of a.nodes) ∙ ap nodes_in stays },
  are_as_is depth xs (later_formed depth a xs f) (ap segs_after stays),
)

all_lines : (xs : List Segment) → flat_map placed_lines (map as_it_is xs) ≡ argument_lines xs
all_lines [] = refl
all_lines (a ∷ xs) = (λ i. lines_as_is a i ++ all_lines xs i) ∙ sym (lines_append (a ∷ []) xs)

args_as_is : (xs : List Segment) → args_of (map as_it_is xs) ≡ xs
args_as_is [] = refl
args_as_is (a ∷ xs) = ap (λ ys. a ∷ ys) (args_as_is xs)

count_as_is : (xs : List Segment) → length (map as_it_is xs) ≡ count (segs_of xs)
count_as_is [] = refl
count_as_is (a ∷ xs) = ap suc (count_as_is xs)

pub value_read : (depth : ℕ) (attr text value end rest : List ℕ) (named : Bool) → (h : IsHeadRead attr text value named) → IsValueEnd depth value end rest
    → (w : List ℕ) × (text ≡ w ++ rest) × (read : IsArgumentRead depth attr text rest w named) × (end ≡ 44 ∷ (bytes_of (suffix_piece read.placed.arg.suffix) ++ rest))
value_read depth attr text value end rest named h v =
    let inner : List ℕ = h.word ++ (codes " = " ++ value) in
    let ident : IsTokenFront Identifier inner (codes " = " ++ value) = record { token = h.word; is = h.is; stays = refl; front = refl } in
    let above : AreNotesFront 1 text (10 ∷ (indent 1 ++ inner)) (is_filled h.notes) = record { notes = h.notes; are = h.are; front = h.front; some_is = refl } in
    let a = argument_front depth attr text (10 ∷ (indent 1 ++ inner)) inner (codes " = " ++ value) value end v.comma rest v.holds (is_filled h.notes) v.noted above refl ident refl v.nodes v.is v.side named (sym h.named_is) in
    let are : AreSegments RuleCall depth (segs_of (a.arg ∷ [])) = a.are [] (no_segments RuleCall depth) in
    let formed : AreFormed depth (segs_of (a.arg ∷ [])) = record { texts = are.texts; kinds = are.kinds; grammar = are.grammar; depth_fits = are.depth_fits } in (
      argument_lines (a.arg ∷ []),
      a.front,
      record {
        placed = as_it_is a.arg;
        is = (are_as_is depth (a.arg ∷ []) formed are.stays).0;
        front = a.front ∙ ap (λ (t : List ℕ). t ++ rest) (sym (lines_as_is a.arg));
        spells = refl;
        named_is = a.named_is;
        word = h.word;
        value = _;
        nodes_is = refl;
      },
      v.is ∙ ap (λ (t : List ℕ). 44 ∷ t) v.side.front,
    )

-- one after another

pub all_append : (depth : ℕ) (ps qs : List Placed) → ArePlaced depth ps → ArePlaced depth qs → ArePlaced depth (ps ++ qs)
all_append depth [] qs are more = more
all_append depth (p ∷ ps) qs are more = (are.0, all_append depth ps qs are.1 more)

pub all_args : (ps qs : List Placed) → args_of (ps ++ qs) ≡ args_of ps ++ args_of qs
all_args [] qs = refl
all_args (p ∷ ps) qs = ap (λ xs. p.arg ∷ xs) (all_args ps qs)

one_of_more : (n : ℕ) → nat_le 1 (suc n) ≡ true
one_of_more n = grind (arith, nat_tests)

pub either_one : (ps qs : List Placed) → (nat_le 1 (length ps) || nat_le 1 (length qs)) ≡ nat_le 1 (length (ps ++ qs))
either_one [] qs = refl
either_one (p ∷ ps) qs = ap (λ b. b || nat_le 1 (length qs)) (one_of_more (length ps)) ∙ sym (one_of_more (length (ps ++ qs)))

abbrev pub none_read : (depth : ℕ) (text : List ℕ) → AreRead depth text text [] false
none_read depth text = record { placed = []; are = tt; front = refl; spells = refl; one_is = refl }

abbrev pub append_read : (depth : ℕ) (text middle rest w v : List ℕ) (one more : Bool) → AreRead depth text middle w one → AreRead depth middle rest v more → AreRead depth text rest (w ++ v) (one || more)
append_read depth text middle rest w v one more a b = record {
  placed = a.placed ++ b.placed;
  are = all_append depth a.placed b.placed a.are b.are;
  front = a.front ∙ ap (λ (t : List ℕ). flat_map placed_lines a.placed ++ t) b.front ∙ sym (append_assoc (flat_map placed_lines a.placed) (flat_map placed_lines b.placed) rest)
      ∙ ap (λ (t : List ℕ). t ++ rest) (sym (flat_append placed_lines a.placed b.placed));
  spells = (λ i. a.spells i ++ b.spells i) ∙ sym (lines_append (args_of a.placed) (args_of b.placed)) ∙ ap argument_lines (sym (all_args a.placed b.placed));
  one_is = (λ i. a.one_is i || b.one_is i) ∙ either_one a.placed b.placed;
}

abbrev pub single_read : (depth : ℕ) (attr text rest w : List ℕ) (named : Bool) → IsArgumentRead depth attr text rest w named → AreRead depth text rest w true
single_read depth attr text rest w named p = record {
  placed = p.placed ∷ [];
  are = (p.is, tt);
  front = p.front ∙ ap (λ (t : List ℕ). t ++ rest) (sym (append-nil (placed_lines p.placed)));
  spells = p.spells;
  one_is = refl;
}

pub or_true : (b : Bool) → (b || true) ≡ true
or_true true = refl
or_true false = refl

-- one more
pub one_more : (depth : ℕ) (attr text rest next w v : List ℕ) (one named : Bool) → AreRead depth text rest w one → IsArgumentRead depth attr rest next v named → AreRead depth text next (w ++ v) true
one_more depth attr text rest next w v one named a p =
    subst (λ b. AreRead depth text next (w ++ v) b) (or_true one) (append_read depth text rest next w v one true a (single_read depth attr rest next v named p))

-- the last of them, as they stand
pub last_read : (depth : ℕ) (text middle : List ℕ) (n : ℕ) (h k one : Bool) → (t : AreSegmentsFront RuleCall 1 depth text middle n h k) → one ≡ nat_le 1 n
    → (w : List ℕ) × (text ≡ w ++ middle) × AreRead depth text middle w one
last_read depth text middle n h k one t one_is =
    let all : List Segment = segments t.segs in
    let same : segs_of all ≡ t.segs = segs_same t.segs in
    let front : text ≡ argument_lines all ++ middle = t.front ∙ ap (λ (b : List ℕ). b ++ middle) (sym (lines_after t.segs)) in
    let formed : AreFormed depth (segs_of all) = subst (AreFormed depth) (sym same) (record { texts = t.are.texts; kinds = t.are.kinds; grammar = t.are.grammar; depth_fits = t.are.depth_fits }) in (
      argument_lines all,
      front,
      record {
        placed = map as_it_is all;
        are = are_as_is depth all formed (ap spelled_segs same ∙ t.are.stays ∙ sym same);
        front = front ∙ ap (λ (b : List ℕ). b ++ middle) (sym (all_lines all));
        spells = ap argument_lines (sym (args_as_is all));
        one_is = one_is ∙ ap (nat_le 1) (sym t.count_is ∙ ap count (sym same) ∙ sym (count_as_is all));
      },
    )

nobody_later : (ps : List Placed) → nat_le 1 (length ps) ≡ false → ps ≡ []
nobody_later [] none = refl
nobody_later (p ∷ ps) none = absurd (false≢true (sym none ∙ one_of_more (length ps)))

-- all of them, and the comments after them

abbrev arguments_end : (depth : ℕ) (text middle rest w : List ℕ) (one e some : Bool) (a : AreRead depth text middle w one) (n : AreNotesFront 1 middle rest e) → some ≡ (one || e)
    → AreArgumentsRead depth text rest (w ++ bytes_of (comments 1 n.notes)) some
arguments_end depth text middle rest w one e some a n some_is = record {
  placed = a.placed;
  are = a.are;
  end = n.notes;
  end_is = n.are;
  front = a.front ∙ ap (λ (t : List ℕ). flat_map placed_lines a.placed ++ t) n.front;
  spells = ap (λ (t : List ℕ). t ++ bytes_of (comments 1 n.notes)) a.spells;
  some_is = some_is ∙ (λ i. a.one_is i || sym n.some_is i);
}

-- the arguments after those that have names, and the comments after them
pub arguments_ended : (depth : ℕ) (whole text buffer begun w : List ℕ) (before : NamedArguments) (read : ReadArguments) → IsPending whole buffer (begun ++ w) before.at.from.now before.at.rest.now
    → (a : AreRead depth text before.at.rest.now w before.one) → (e : AreEnded depth before read)
    → (v : List ℕ) × IsPending whole buffer (begun ++ v) read.at.from.now read.at.rest.now × (args : AreArgumentsRead depth text read.at.rest.now v read.some) × (read.named ≡ true → args.placed ≡ a.placed)
arguments_ended depth whole text buffer begun w before read p a e =
    let last = last_read depth before.at.rest.now e.middle e.count e.holds e.noted (nat_le 1 e.count) e.segments refl in
    let all = append_read depth text before.at.rest.now e.middle w last.0 before.one (nat_le 1 e.count) a last.2 in
    let notes : List ℕ = bytes_of (comments 1 e.notes.notes) in
    let lines = pend_more whole buffer (begun ++ w) before.at.from.now before.at.rest.now last.0 e.middle p last.1 in
    let ends = pend_more whole buffer ((begun ++ w) ++ last.0) before.at.from.now e.middle notes read.at.rest.now lines e.notes.front in (
      (w ++ last.0) ++ notes,
      subst (λ (from : List ℕ). IsPending whole buffer (begun ++ ((w ++ last.0) ++ notes)) from read.at.rest.now) (sym e.from)
          (pend_same whole buffer (((begun ++ w) ++ last.0) ++ notes) before.at.from.now read.at.rest.now (begun ++ ((w ++ last.0) ++ notes)) ends (joined last.0 notes)),
      arguments_end depth text e.middle read.at.rest.now (w ++ last.0) (before.one || nat_le 1 e.count) e.ended read.some all e.notes e.some_is,
      λ named. ap (λ (ps : List Placed). a.placed ++ ps) (nobody_later last.2.placed (sym last.2.one_is ∙ unless (nat_le 1 e.count) (sym e.named_is ∙ named))) ∙ append-nil a.placed,
    )
  where
    unless : (b : Bool) → not b ≡ true → b ≡ false
    unless true is = absurd (false≢true is)
    unless false is = refl

    joined : (x n : List ℕ) → ((begun ++ w) ++ x) ++ n ≡ begun ++ ((w ++ x) ++ n)
    joined x n = simp append_assoc
