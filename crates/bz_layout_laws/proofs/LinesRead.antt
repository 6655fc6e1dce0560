-- A statement without nodes that tokens are read as is comment lines: it has no suffix, and one comment at least.
use Rattle.std.proofs.Common.{◌≡◌, List, [], ◌∷◌, Bool, true, false, refl, sym, ap, subst, ◌∙◌}
use Rattle.std.specs.Prelude.{ℕ, if◌then◌else◌, None, IsSome}
use Rattle.std.proofs.lemmas.Bool.{false≢true}
use Rattle.bz_token.specs.Places.{Placed}
use Rattle.bz_tree.specs.declared.tree.kinds.Mark.{Mark}
use Rattle.bz_tree.specs.declared.tree.kinds.Mark.TheVariants.{Open, Close, Comma, Comment, Newline, Plain}
use Rattle.bz_tree.specs.declared.tree.kinds.Preceding.TheVariants.{Other}
use Rattle.bz_tree.specs.Brackets.{with_comma_nodes, as_node}
use Rattle.bz_tree.specs.Elements.{single, bracket, Elems, no_elems, elem, elems_tokens, elems_own, own_of}
use Rattle.bz_tree.specs.Kinds.{mark_of}
use Rattle.bz_tree.specs.Owners.{Inner}
use Rattle.bz_tree.specs.Cells.{no_token, Entry, a_node, a_comma, a_comment, first_cell, other_cells, later_lines, same_line, below_last, nodes_in, comments_in, cell_segment, with_segment, segments_from, end_from, inside, entries_of}
use Rattle.bz_tree.specs.Statement.{first_seen, IsStatementOf}
use Rattle.bz_tree.specs.Elements.{rule_call, one_segment}
use Rattle.bz_tree.specs.Tree.{Item, Segment, Statement, is_rule}
use Rattle.bz_layout_laws.specs.Parsed.{IsParsed}
use Rattle.bz_layout_laws.proofs.KindsRead.{no_cells}
use Rattle.bz_layout_laws.proofs.ParsedRead.{read_kinds}
use Rattle.bz_layout_laws.proofs.SameTests.{rule_nodes}
use Rattle.bz_token.specs.Common.{first_of, is_filled}
use Rattle.bz_tree.proofs.Trees.Nested.{tree_of}

-- each segment has a node
abbrev pub AreFilled : List Segment → Type 0
AreFilled [] = Unit {0}
AreFilled (s ∷ ss) = (is_filled s.nodes ≡ true) × AreFilled ss

with_filled : (s : Segment) (ss : List Segment) → AreFilled ss → AreFilled (with_segment s ss)
with_filled s ss rest = by (is_filled s.nodes) refl
  where
    by : (b : Bool) → is_filled s.nodes ≡ b → AreFilled (if b then s ∷ ss else ss)
    by true e = (e, rest)
    by false e = rest

pub segments_filled : (cell : List Entry) (cells : List (List Entry)) → AreFilled (segments_from cell cells)
segments_filled cell [] = with_filled (cell_segment cell [] []) [] tt
segments_filled cell (next ∷ cells) = with_filled (cell_segment cell (below_last cell) (same_line next)) (segments_from (later_lines next) cells) (segments_filled (later_lines next) cells)

call_filled : (xs : List Item) → is_filled (rule_call xs) ≡ is_filled xs
call_filled [] = refl
call_filled (x ∷ []) = refl
call_filled (x ∷ y ∷ ys) = refl

rule_filled : (xs : List Item) → is_filled (rule_nodes xs) ≡ is_filled xs
rule_filled xs = by (is_rule xs)
  where
    by : (b : Bool) → is_filled (if b then rule_call xs else xs) ≡ is_filled xs
    by true = call_filled xs
    by false = refl

none_before : (xs : List Item) → rule_nodes xs ≡ [] → xs ≡ []
none_before [] none = refl
none_before (x ∷ xs) none = absurd (false≢true (sym (ap is_filled none) ∙ rule_filled (x ∷ xs)))

-- without nodes there is no segment, so no suffix
no_suffix : (ss : List Segment) (end : List (List ℕ)) → AreFilled ss → (one_segment ss end).nodes ≡ [] → (one_segment ss end).suffix ≡ None
no_suffix [] end filled none = refl
no_suffix (s ∷ ss) end filled none = absurd (false≢true (sym (ap is_filled none) ∙ filled.0))

-- a node or a comment stands first
abbrev starts : List Entry → Bool
starts [] = false
starts (a_comma ∷ es) = false
starts (e ∷ es) = true

-- of one cell: without nodes its comments stand before
cell_lines : (cell : List Entry) → starts cell ≡ true → (one_segment (segments_from cell []) (end_from cell [])).nodes ≡ [] → is_filled (one_segment (segments_from cell []) (end_from cell [])).before ≡ true
cell_lines [] h none = absurd (false≢true h)
cell_lines (a_comma ∷ es) h none = absurd (false≢true h)
cell_lines (a_node x ∷ es) h none = absurd (false≢true (sym (ap is_filled none)))
cell_lines (a_comment on text ∷ es) h none = by (is_filled (nodes_in es)) refl none
  where
    by : (b : Bool) → is_filled (nodes_in es) ≡ b
        → (one_segment (if b then cell_segment (a_comment on text ∷ es) [] [] ∷ [] else []) (if b then below_last es else text ∷ comments_in es)).nodes ≡ []
        → is_filled (one_segment (if b then cell_segment (a_comment on text ∷ es) [] [] ∷ [] else []) (if b then below_last es else text ∷ comments_in es)).before ≡ true
    by true e gone = absurd (false≢true (sym (ap is_filled gone) ∙ e))
    by false e gone = refl

token_starts : (m : Mark) (t : Placed) (os : List Inner) → starts (first_cell (entries_of no_token (as_node (own_of m t) ∷ os))) ≡ true
token_starts (Open shape) t os = refl
token_starts (Close shape) t os = refl
token_starts Comma t os = refl
token_starts Comment t os = refl
token_starts Newline t os = refl
token_starts Plain t os = refl

some_starts : (xs : Elems) → IsSome (first_of (elems_tokens xs)) → starts (first_cell (entries_of no_token (with_comma_nodes true (elems_own Other xs)))) ≡ true
some_starts no_elems some = absurd (false≢true some)
some_starts (elem (single t) xs) some = token_starts (mark_of t) t _
some_starts (elem (bracket shape opening inner closing) xs) some = refl

has_lines : (xs : Elems) → IsSome (first_of (elems_tokens xs)) → let i = inside (with_comma_nodes true (elems_own Other xs)) in ((one_segment i.segs i.end).nodes ≡ [] → is_filled (one_segment i.segs i.end).before ≡ true)
has_lines xs some =
    let os = elems_own Other xs in
    let es = entries_of no_token (with_comma_nodes true os) in
    subst (λ cells. (one_segment (segments_from (first_cell es) cells) (end_from (first_cell es) cells)).nodes ≡ [] → is_filled (one_segment (segments_from (first_cell es) cells) (end_from (first_cell es) cells)).before ≡ true) (sym (no_cells no_token os)) (cell_lines (first_cell es) (some_starts xs some))

pub read_parsed : (tokens : List Placed) (t : Statement) → IsStatementOf tokens t → IsSome (first_seen tokens) → IsParsed t
read_parsed tokens t of some =
    let is = tree_of tokens t of in
    let i = inside (with_comma_nodes true (elems_own Other is.elems)) in
    let s = one_segment i.segs i.end in
    let es = entries_of no_token (with_comma_nodes true (elems_own Other is.elems)) in
    let kinds = read_kinds tokens t of in
    let gone : t.nodes ≡ [] → s.nodes ≡ [] = λ none. none_before s.nodes (sym (ap (λ (u : Statement). u.nodes) is.is) ∙ none) in
    record {
      kinds = kinds.0;
      rule = kinds.1;
      class = kinds.2;
      alone = λ none. ap (λ (u : Statement). u.suffix) is.is ∙ no_suffix i.segs i.end (segments_filled (first_cell es) (other_cells es)) (gone none);
      lines = λ none. ap (λ (u : Statement). is_filled u.before) is.is ∙ has_lines is.elems (subst (λ ts. IsSome (first_of ts)) is.tokens_are some) (gone none);
    }
