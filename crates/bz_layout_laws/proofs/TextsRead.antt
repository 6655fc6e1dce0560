-- The tokens and comments of what is read are texts of their kinds.
use Rattle.std.proofs.Common.{◌≡◌, ℕ, List, [], ◌∷◌, ◌++◌, Bool, true, false, refl, sym, ap, subst, ◌∙◌}
use Rattle.std.specs.Prelude.{codes, if◌then◌else◌}
use Rattle.std.specs.Str.{bytes_eq}
use Rattle.std.specs.List.{list_all}
use Rattle.std.proofs.lemmas.Bool.{false≢true, and_parts}
use Rattle.bz_token.specs.declared.token.Kind.{Kind}
use Rattle.bz_token.specs.declared.token.Kind.TheVariants.{Operator, Comment as CommentToken}
use Rattle.bz_token.specs.Lexical.{is_text, is_comment}
use Rattle.bz_token.specs.Places.{Placed}
use Rattle.bz_token.specs.Reading.{AreTokensOf}
use Rattle.bz_layout_laws.proofs.Deeper.{tokens_are_texts}
use Rattle.bz_token.proofs.Quiet.{both}
use Rattle.bz_tree.specs.declared.tree.kinds.Mark.{Mark}
use Rattle.bz_tree.specs.declared.tree.kinds.Mark.TheVariants.{Open, Close, Comma, Comment, Newline, Plain}
use Rattle.bz_tree.specs.declared.tree.kinds.Preceding.{Preceding}
use Rattle.bz_tree.specs.declared.tree.kinds.Preceding.TheVariants.{Other}
use Rattle.bz_tree.specs.declared.tree.kinds.Shape.TheVariants.{Round, Square, Curly}
use Rattle.bz_tree.specs.Brackets.{with_comma_nodes, preceding, is_line, without_lines, end_line}
use Rattle.bz_tree.specs.Elements.{has_for}
use Rattle.bz_tree.specs.Elements.{Elem, single, bracket, Elems, no_elems, elem, elem_tokens, elems_tokens, own_of, elems_own, is_single, AreWell}
use Rattle.bz_tree.specs.Comments.{beside}
use Rattle.bz_tree.specs.Kinds.{mark_of, kind_mark, operator_mark, group_kind, is_one}
use Rattle.bz_tree.specs.Owners.{Inner}
use Rattle.bz_tree.specs.Cells.{Last, no_token, end_of_node, end_of_comma, entries_of, inside}
use Rattle.bz_tree.specs.Statement.{class_of, IsStatementOf}
use Rattle.bz_tree.specs.Elements.{rule_call, one_segment}
use Rattle.bz_tree.specs.Tree.{Item, leaf, group, Items, no_items, item, Segs, no_segs, seg, Segment, Statement, items_of, segs_of, is_rule}
use Rattle.bz_layout.specs.Layout.{is_comment as is_comment_class}
use Rattle.bz_layout_laws.specs.Legible.{is_leaf_mark, are_some, AreComments}
use Rattle.bz_layout_laws.specs.TextsOfKinds.{HasText, HaveTexts, SegsHaveTexts, HasTexts}
use Rattle.bz_layout_laws.proofs.EachRead.{Each, EachNode, EachSegment, inside_each, comments_join}
use Rattle.bz_layout_laws.proofs.SameTests.{rule_nodes}
use Rattle.bz_tree.proofs.Trees.Nested.{tree_of}

abbrev pub is_token_text : Placed → Bool
is_token_text t = is_text t.kind t.text

-- tokens that pass a test, along brackets
abbrev mutual
  pub ElemTexts : (Placed → Bool) → Elem → Type 0
  ElemTexts test (single t) = test t ≡ true
  ElemTexts test (bracket shape opening inner closing) = ElemsTexts test inner

  pub ElemsTexts : (Placed → Bool) → Elems → Type 0
  ElemsTexts test no_elems = Unit {0}
  ElemsTexts test (elem x xs) = ElemTexts test x × ElemsTexts test xs

all_parts : (test : Placed → Bool) (xs ys : List Placed) → list_all test (xs ++ ys) ≡ true → (list_all test xs ≡ true) × (list_all test ys ≡ true)
all_parts test [] ys h = (refl, h)
all_parts test (x ∷ xs) ys h =
    let p = and_parts (test x) (list_all test (xs ++ ys)) h in
    let q = all_parts test xs ys p.1 in
    (both (test x) (list_all test xs) p.0 q.0, q.1)

mutual
  elem_texts : (test : Placed → Bool) (x : Elem) → list_all test (elem_tokens x) ≡ true → ElemTexts test x
  elem_texts test (single t) h = (and_parts (test t) true h).0
  elem_texts test (bracket shape opening inner closing) h =
      elems_texts test inner (all_parts test (elems_tokens inner) (closing ∷ []) (and_parts (test opening) (list_all test (elems_tokens inner ++ closing ∷ [])) h).1).0

  pub elems_texts : (test : Placed → Bool) (xs : Elems) → list_all test (elems_tokens xs) ≡ true → ElemsTexts test xs
  elems_texts test no_elems h = tt
  elems_texts test (elem x xs) h =
      let p = all_parts test (elem_tokens x) (elems_tokens xs) h in
      (elem_texts test x p.0, elems_texts test xs p.1)

pub unlined_texts : (test : Placed → Bool) (ts : List Placed) → list_all test ts ≡ true → list_all test (without_lines ts) ≡ true
unlined_texts test [] h = refl
unlined_texts test (t ∷ ts) h = by (is_line (mark_of t)) (and_parts (test t) (list_all test ts) h).0 (unlined_texts test ts (and_parts (test t) (list_all test ts) h).1)
  where
    by : (b : Bool) → test t ≡ true → list_all test (without_lines ts) ≡ true → list_all test (if b then without_lines ts else t ∷ without_lines ts) ≡ true
    by true one rest = rest
    by false one rest = both (test t) (list_all test (without_lines ts)) one rest

-- only comments have the mark of one
abbrev pub is_comment_mark : Mark → Bool
is_comment_mark Comment = true
is_comment_mark _ = false

pub operator_comment : (text : List ℕ) → is_comment_mark (operator_mark text) ≡ false
operator_comment text = by (bytes_eq text (codes "(")) (bytes_eq text (codes "[")) (bytes_eq text (codes "{")) (bytes_eq text (codes ")")) (bytes_eq text (codes "]")) (bytes_eq text (codes "}")) (bytes_eq text (codes ","))
  where
    by : (a b c d e f g : Bool) → is_comment_mark (if a then Open Round else (if b then Open Square else (if c then Open Curly else (if d then Close Round else (if e then Close Square else (if f then Close Curly else (if g then Comma else Plain))))))) ≡ false
    by true b c d e f g = refl
    by false true c d e f g = refl
    by false false true d e f g = refl
    by false false false true e f g = refl
    by false false false false true f g = refl
    by false false false false false true g = refl
    by false false false false false false true = refl
    by false false false false false false false = refl

pub comment_text : (kind : Kind) (text : List ℕ) → kind_mark kind text ≡ Comment → is_text kind text ≡ true → is_comment text ≡ true
comment_text CommentToken text e is = is
comment_text Operator text e is = absurd (false≢true (sym (operator_comment text) ∙ ap is_comment_mark e))
comment_text _ text e is = absurd (false≢true (ap is_comment_mark e))

-- one more token
more_texts : (one : Bool) (at : Last) (m : Mark) (t : Placed) (owns : List Inner) → mark_of t ≡ m → is_single m ≡ true → is_token_text t ≡ true → ((last : Last) → Each HasText is_comment (entries_of last (with_comma_nodes one owns)))
    → Each HasText is_comment (entries_of at (with_comma_nodes one (own_of m t ∷ owns)))
more_texts true at Comma t owns e ok is rest = ((is, ap is_leaf_mark e), rest (end_of_node t.line))
more_texts false at Comma t owns e ok is rest = rest (end_of_comma t.line)
more_texts true at Comment t owns e ok is rest = (comment_text t.kind t.text e is, rest no_token)
more_texts false at Comment t owns e ok is rest = (comment_text t.kind t.text e is, rest no_token)
more_texts true at Plain t owns e ok is rest = ((is, ap is_leaf_mark e), rest (end_of_node (end_line t)))
more_texts false at Plain t owns e ok is rest = ((is, ap is_leaf_mark e), rest (end_of_node (end_line t)))
more_texts one at (Open shape) t owns e ok is rest = absurd (false≢true ok)
more_texts one at (Close shape) t owns e ok is rest = absurd (false≢true ok)
more_texts one at Newline t owns e ok is rest = absurd (false≢true ok)

nodes_texts : (xs : Items) → EachNode HasText xs → HaveTexts xs
nodes_texts no_items h = tt
nodes_texts (item x xs) h = (h.0, nodes_texts xs h.1)

segs_texts : (ss : Segs) → EachSegment HasText is_comment ss → SegsHaveTexts ss
segs_texts no_segs h = tt
segs_texts (seg before nodes suffix ss) h = (h.0, h.1, nodes_texts nodes h.2, h.3, segs_texts ss h.4)

texts_along : (one : Bool) (at : Last) (b : Preceding) (xs : Elems) → AreWell b xs → ElemsTexts is_token_text xs → Each HasText is_comment (entries_of at (with_comma_nodes one (elems_own b xs)))
texts_along one at b no_elems h texts = tt
texts_along one at b (elem (single t) xs) h texts =
    more_texts one at (mark_of t) t (elems_own (preceding b (own_of (mark_of t) t)) xs) refl h.0 texts.0 (λ last. texts_along one last (preceding b (own_of (mark_of t) t)) xs h.1 texts.1)
texts_along true at b (elem (bracket shape opening inner closing) xs) h texts =
    let one = is_one (group_kind shape b (has_for (elems_own Other inner))) in
    let i = inside_each HasText is_comment (entries_of no_token (with_comma_nodes one (elems_own Other inner))) (texts_along one no_token Other inner h.0.2 texts.0) in
    ((segs_texts _ i.0, i.1), texts_along true (end_of_node closing.line) _ xs h.1 texts.1)
texts_along false at b (elem (bracket shape opening inner closing) xs) h texts =
    let one = is_one (group_kind shape b (has_for (elems_own Other inner))) in
    let i = inside_each HasText is_comment (entries_of no_token (with_comma_nodes one (elems_own Other inner))) (texts_along one no_token Other inner h.0.2 texts.0) in
    ((segs_texts _ i.0, i.1), texts_along false (end_of_node closing.line) _ xs h.1 texts.1)

-- the call of a rule has the texts of one that is none
call_text : (xs : List Item) → HaveTexts (items_of xs) → HaveTexts (items_of (rule_call xs))
call_text [] h = tt
call_text (leaf kind text ∷ []) h = h
call_text (group kind segs one_comma end ∷ []) h = h
call_text (x ∷ y ∷ ys) h = (h.0, call_text (y ∷ ys) h.1)

rule_texts : (xs : List Item) → HaveTexts (items_of xs) → HaveTexts (items_of (rule_nodes xs))
rule_texts xs h = by (is_rule xs)
  where
    by : (b : Bool) → HaveTexts (items_of (if b then rule_call xs else xs))
    by true = call_text xs h
    by false = h

class_some : (xs : List Item) → is_comment_class (class_of xs) ≡ false → are_some (items_of xs) ≡ true
class_some [] h = absurd (false≢true (sym h))
class_some (x ∷ xs) h = refl

-- of the segment that stands outside brackets
segment_texts : (ss : List Segment) (end : List (List ℕ)) → SegsHaveTexts (segs_of ss) → AreComments end → AreComments (one_segment ss end).before × HaveTexts (items_of (one_segment ss end).nodes) × AreComments (beside (one_segment ss end).suffix)
segment_texts [] end h k = (k, tt, refl)
segment_texts (s ∷ ss) end h k = (comments_join is_comment s.before end h.0 k, h.2, h.3)

pub read_texts : (first depth : ℕ) (bytes : List ℕ) (tokens : List Placed) (t : Statement) → AreTokensOf first depth bytes tokens → IsStatementOf tokens t → HasTexts t
read_texts first depth bytes tokens t are of =
    let is = tree_of tokens t of in
    let i = inside (with_comma_nodes true (elems_own Other is.elems)) in
    let s = one_segment i.segs i.end in
    let texts = elems_texts is_token_text is.elems (subst (λ ts. list_all is_token_text ts ≡ true) is.tokens_are (unlined_texts is_token_text tokens (tokens_are_texts first depth bytes tokens are))) in
    let each = inside_each HasText is_comment (entries_of no_token (with_comma_nodes true (elems_own Other is.elems))) (texts_along true no_token Other is.elems is.well texts) in
    let own = segment_texts i.segs i.end (segs_texts (segs_of i.segs) each.0) each.1 in
    subst HasTexts (sym is.is) (record { some = class_some (rule_nodes s.nodes); before = own.0; nodes = rule_texts s.nodes own.1; suffix = own.2 })
