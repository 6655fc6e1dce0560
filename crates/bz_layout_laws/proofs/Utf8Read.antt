-- What is read of a text that is UTF-8 has texts that are.
use Rattle.std.proofs.Common.{◌≡◌, ℕ, ◌&&◌, List, [], ◌∷◌, Bool, true, false, refl, sym, subst}
use Rattle.std.specs.Prelude.{if◌then◌else◌}
use Rattle.std.specs.List.{list_all}
use Rattle.std.specs.Str.{IsUtf8, is_utf8}
use Rattle.std.proofs.lemmas.Bool.{false≢true, and_parts}
use Rattle.bz_token.specs.Places.{Placed}
use Rattle.bz_token.specs.Reading.{AreTokensOf}
use Rattle.bz_token.proofs.Quiet.{both}
use Rattle.bz_tree.specs.declared.tree.kinds.Mark.{Mark}
use Rattle.bz_tree.specs.declared.tree.kinds.Mark.TheVariants.{Open, Close, Comma, Comment, Newline, Plain}
use Rattle.bz_tree.specs.declared.tree.kinds.Preceding.{Preceding}
use Rattle.bz_tree.specs.declared.tree.kinds.Preceding.TheVariants.{Other}
use Rattle.bz_tree.specs.Brackets.{with_comma_nodes, preceding, end_line}
use Rattle.bz_tree.specs.Elements.{has_for}
use Rattle.bz_tree.specs.Elements.{single, bracket, Elems, no_elems, elem, own_of, elems_own, is_single, AreWell}
use Rattle.bz_tree.specs.Comments.{beside}
use Rattle.bz_tree.specs.Kinds.{mark_of, group_kind, is_one}
use Rattle.bz_tree.specs.Owners.{Inner}
use Rattle.bz_tree.specs.Cells.{Last, no_token, end_of_node, end_of_comma, entries_of, inside}
use Rattle.bz_tree.specs.Statement.{IsStatementOf}
use Rattle.bz_tree.specs.Elements.{rule_call, one_segment}
use Rattle.bz_tree.specs.Tree.{Item, leaf, group, Items, no_items, item, Segs, no_segs, seg, Segment, Statement, items_of, segs_of, is_rule}
use Rattle.bz_layout_laws.specs.EachText.{item_passes, items_pass, segs_pass, statement_passes, HasUtf8}
use Rattle.bz_layout_laws.proofs.EachRead.{AllPass, Each, EachNode, EachSegment, inside_each, comments_join}
use Rattle.bz_layout_laws.proofs.SameTests.{rule_nodes}
use Rattle.bz_layout_laws.proofs.TextsRead.{ElemsTexts, elems_texts, unlined_texts}
use Rattle.bz_layout_laws.proofs.Utf8Tokens.{tokens_utf8}
use Rattle.bz_tree.proofs.Trees.Nested.{tree_of}

abbrev Passes : (List ℕ → Bool) → Item → Type 0
Passes q x = item_passes q x ≡ true

abbrev passes_token : (List ℕ → Bool) → Placed → Bool
passes_token q t = q t.text

more_passes : (q : List ℕ → Bool) (one : Bool) (at : Last) (m : Mark) (t : Placed) (owns : List Inner) → mark_of t ≡ m → is_single m ≡ true → q t.text ≡ true → ((last : Last) → Each (Passes q) q (entries_of last (with_comma_nodes one owns)))
    → Each (Passes q) q (entries_of at (with_comma_nodes one (own_of m t ∷ owns)))
more_passes q true at Comma t owns e ok is rest = (is, rest (end_of_node t.line))
more_passes q false at Comma t owns e ok is rest = rest (end_of_comma t.line)
more_passes q true at Comment t owns e ok is rest = (is, rest no_token)
more_passes q false at Comment t owns e ok is rest = (is, rest no_token)
more_passes q true at Plain t owns e ok is rest = (is, rest (end_of_node (end_line t)))
more_passes q false at Plain t owns e ok is rest = (is, rest (end_of_node (end_line t)))
more_passes q one at (Open shape) t owns e ok is rest = absurd (false≢true ok)
more_passes q one at (Close shape) t owns e ok is rest = absurd (false≢true ok)
more_passes q one at Newline t owns e ok is rest = absurd (false≢true ok)

nodes_pass : (q : List ℕ → Bool) (xs : Items) → EachNode (Passes q) xs → items_pass q xs ≡ true
nodes_pass q no_items h = refl
nodes_pass q (item x xs) h = both (item_passes q x) (items_pass q xs) h.0 (nodes_pass q xs h.1)

each_segs_pass : (q : List ℕ → Bool) (ss : Segs) → EachSegment (Passes q) q ss → segs_pass q ss ≡ true
each_segs_pass q no_segs h = refl
each_segs_pass q (seg before nodes suffix ss) h =
    both (list_all q before && items_pass q nodes && list_all q (beside suffix)) (segs_pass q ss)
    (both (list_all q before && items_pass q nodes) (list_all q (beside suffix)) (both (list_all q before) (items_pass q nodes) h.0 (nodes_pass q nodes h.2)) h.3)
    (each_segs_pass q ss h.4)

passes_along : (q : List ℕ → Bool) (one : Bool) (at : Last) (b : Preceding) (xs : Elems) → AreWell b xs → ElemsTexts (passes_token q) xs → Each (Passes q) q (entries_of at (with_comma_nodes one (elems_own b xs)))
passes_along q one at b no_elems h texts = tt
passes_along q one at b (elem (single t) xs) h texts =
    more_passes q one at (mark_of t) t (elems_own (preceding b (own_of (mark_of t) t)) xs) refl h.0 texts.0 (λ last. passes_along q one last (preceding b (own_of (mark_of t) t)) xs h.1 texts.1)
passes_along q true at b (elem (bracket shape opening inner closing) xs) h texts =
    let one = is_one (group_kind shape b (has_for (elems_own Other inner))) in
    let i = inside_each (Passes q) q (entries_of no_token (with_comma_nodes one (elems_own Other inner))) (passes_along q one no_token Other inner h.0.2 texts.0) in
    (both _ _ (each_segs_pass q _ i.0) i.1, passes_along q true (end_of_node closing.line) _ xs h.1 texts.1)
passes_along q false at b (elem (bracket shape opening inner closing) xs) h texts =
    let one = is_one (group_kind shape b (has_for (elems_own Other inner))) in
    let i = inside_each (Passes q) q (entries_of no_token (with_comma_nodes one (elems_own Other inner))) (passes_along q one no_token Other inner h.0.2 texts.0) in
    (both _ _ (each_segs_pass q _ i.0) i.1, passes_along q false (end_of_node closing.line) _ xs h.1 texts.1)

-- the call of a rule has the texts of one that is none
call_passes : (q : List ℕ → Bool) (xs : List Item) → items_pass q (items_of xs) ≡ true → items_pass q (items_of (rule_call xs)) ≡ true
call_passes q [] h = refl
call_passes q (leaf kind text ∷ []) h = h
call_passes q (group kind segs one_comma end ∷ []) h = h
call_passes q (x ∷ y ∷ ys) h =
    let p = and_parts (item_passes q x) (items_pass q (items_of (y ∷ ys))) h in
    both (item_passes q x) _ p.0 (call_passes q (y ∷ ys) p.1)

rule_passes : (q : List ℕ → Bool) (xs : List Item) → items_pass q (items_of xs) ≡ true → items_pass q (items_of (rule_nodes xs)) ≡ true
rule_passes q xs h = by (is_rule xs)
  where
    by : (b : Bool) → items_pass q (items_of (if b then rule_call xs else xs)) ≡ true
    by true = call_passes q xs h
    by false = h

abbrev SegmentPasses : (List ℕ → Bool) → Segment → Type 0
SegmentPasses q s = AllPass q s.before × (items_pass q (items_of s.nodes) ≡ true) × AllPass q (beside s.suffix)

-- of the segment that stands outside brackets
segment_passes : (q : List ℕ → Bool) (ss : List Segment) (end : List (List ℕ)) → EachSegment (Passes q) q (segs_of ss) → AllPass q end → SegmentPasses q (one_segment ss end)
segment_passes q [] end h k = (k, refl, refl)
segment_passes q (s ∷ ss) end h k = (comments_join q s.before end h.0 k, nodes_pass q (items_of s.nodes) h.2, h.3)

-- what passes of each token passes of each text of the statement that the tokens are
pub read_passes : (q : List ℕ → Bool) (tokens : List Placed) (t : Statement) → list_all (passes_token q) tokens ≡ true → IsStatementOf tokens t → statement_passes q t ≡ true
read_passes q tokens t pass of =
    let is = tree_of tokens t of in
    let i = inside (with_comma_nodes true (elems_own Other is.elems)) in
    let s = one_segment i.segs i.end in
    let texts = elems_texts (passes_token q) is.elems (subst (λ ts. list_all (passes_token q) ts ≡ true) is.tokens_are (unlined_texts (passes_token q) tokens pass)) in
    let each = inside_each (Passes q) q (entries_of no_token (with_comma_nodes true (elems_own Other is.elems))) (passes_along q true no_token Other is.elems is.well texts) in
    let own = segment_passes q i.segs i.end each.0 each.1 in
    subst (λ t. statement_passes q t ≡ true) (sym is.is) (both _ _ (both _ _ own.0 (rule_passes q s.nodes own.1)) own.2)

pub read_utf8 : (first depth : ℕ) (bytes : List ℕ) (tokens : List Placed) (t : Statement) → IsUtf8 bytes → AreTokensOf first depth bytes tokens → IsStatementOf tokens t → HasUtf8 t
read_utf8 first depth bytes tokens t u are is = read_passes is_utf8 tokens t (tokens_utf8 first depth bytes tokens are u) is
