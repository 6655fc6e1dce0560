-- Whether a bracket has `for` before its first comma, by its entries.
use Rattle.std.proofs.Common.{◌≡◌, ℕ, ◌||◌, List, [], ◌∷◌, ◌++◌, map, Bool, true, false, Option, Some, None, refl, sym, ap, ◌∙◌}
use Rattle.std.specs.Prelude.{if◌then◌else◌}
use Rattle.std.proofs.lemmas.Bool.{false≢true}
use Rattle.bz_token.specs.declared.token.Kind.TheVariants.{String}
use Rattle.bz_token.specs.Places.{Placed}
use Rattle.bz_tree.specs.declared.tree.kinds.Mark.{Mark}
use Rattle.bz_tree.specs.declared.tree.kinds.Mark.TheVariants.{Open, Close, Comma, Comment, Newline, Plain}
use Rattle.bz_tree.specs.declared.tree.kinds.Preceding.{Preceding}
use Rattle.bz_tree.specs.Brackets.{leaf_of, with_comma_nodes, preceding, is_for_item, end_line}
use Rattle.bz_tree.specs.Elements.{has_for}
use Rattle.bz_tree.specs.Elements.{single, bracket, Elems, no_elems, elem, own_of, elems_own, is_single, AreWell}
use Rattle.bz_tree.specs.Kinds.{mark_of}
use Rattle.bz_tree.specs.Owners.{Inner}
use Rattle.bz_tree.specs.Cells.{Last, no_token, end_of_node, Entry, a_node, a_comma, a_comment, entries_of}
use Rattle.bz_tree.specs.Tree.{Item, leaf, group, Items, no_items, item, Segs, no_segs, seg, list_of, segments}
use Rattle.bz_layout_laws.specs.Written.{own_lines, suffix_entry, written_entries}
use Rattle.bz_layout_laws.specs.Parsed.{is_comma_mark, is_comma, nodes_have_for, have_for}
use Rattle.bz_layout_laws.specs.Spelled.{spelled, spelled_items, spelled_segs}
use Rattle.bz_layout_laws.proofs.Written.{comma_entry}
use Rattle.bz_token.specs.Common.{is_filled}

abbrev pub entries_have_for : List Entry → Bool
entries_have_for [] = false
entries_have_for (a_node x ∷ es) = if is_comma x then false else (is_for_item x || entries_have_for es)
entries_have_for (a_comma ∷ es) = false
entries_have_for (a_comment on text ∷ es) = entries_have_for es

-- one more token
one_more : (one : Bool) (at : Last) (m : Mark) (t : Placed) (owns : List Inner) → mark_of t ≡ m → is_single m ≡ true → ((last : Last) → has_for owns ≡ entries_have_for (entries_of last (with_comma_nodes one owns)))
    → has_for (own_of m t ∷ owns) ≡ entries_have_for (entries_of at (with_comma_nodes one (own_of m t ∷ owns)))
one_more true at Comma t owns e ok rest = ap (λ m. if is_comma_mark m then false else (is_for_item (leaf_of t) || entries_have_for (entries_of (end_of_node t.line) (with_comma_nodes true owns)))) (sym e)
one_more false at Comma t owns e ok rest = refl
one_more true at Comment t owns e ok rest = rest no_token
one_more false at Comment t owns e ok rest = rest no_token
one_more true at Plain t owns e ok rest =
    ap (λ b. is_for_item (leaf_of t) || b) (rest (end_of_node (end_line t)))
    ∙ ap (λ m. if is_comma_mark m then false else (is_for_item (leaf_of t) || entries_have_for (entries_of (end_of_node (end_line t)) (with_comma_nodes true owns)))) (sym e)
one_more false at Plain t owns e ok rest =
    ap (λ b. is_for_item (leaf_of t) || b) (rest (end_of_node (end_line t)))
    ∙ ap (λ m. if is_comma_mark m then false else (is_for_item (leaf_of t) || entries_have_for (entries_of (end_of_node (end_line t)) (with_comma_nodes false owns)))) (sym e)
one_more one at (Open shape) t owns e ok rest = absurd (false≢true ok)
one_more one at (Close shape) t owns e ok rest = absurd (false≢true ok)
one_more one at Newline t owns e ok rest = absurd (false≢true ok)

pub owns_have_for : (one : Bool) (at : Last) (b : Preceding) (xs : Elems) → AreWell b xs → has_for (elems_own b xs) ≡ entries_have_for (entries_of at (with_comma_nodes one (elems_own b xs)))
owns_have_for one at b no_elems h = refl
owns_have_for one at b (elem (single t) xs) h =
    one_more one at (mark_of t) t (elems_own (preceding b (own_of (mark_of t) t)) xs) refl h.0 (λ last. owns_have_for one last (preceding b (own_of (mark_of t) t)) xs h.1)
owns_have_for true at b (elem (bracket shape opening inner closing) xs) h = owns_have_for true (end_of_node closing.line) _ xs h.1
owns_have_for false at b (elem (bracket shape opening inner closing) xs) h = owns_have_for false (end_of_node closing.line) _ xs h.1

-- the spelling of strings plays no part
comma_spelled : (x : Item) → is_comma (spelled x) ≡ is_comma x
comma_spelled (group kind segs one_comma end) = refl
comma_spelled (leaf String text) = refl
comma_spelled (leaf _ text) = refl

for_spelled : (x : Item) → is_for_item (spelled x) ≡ is_for_item x
for_spelled (group kind segs one_comma end) = refl
for_spelled (leaf String text) = refl
for_spelled (leaf _ text) = refl

nodes_for_spelled : (xs : Items) → nodes_have_for (spelled_items xs) ≡ nodes_have_for xs
nodes_for_spelled no_items = refl
nodes_for_spelled (item x xs) = λ i. if comma_spelled x i then false else (for_spelled x i || nodes_for_spelled xs i)

pub have_for_spelled : (ss : Segs) → have_for (spelled_segs ss) ≡ have_for ss
have_for_spelled no_segs = refl
have_for_spelled (seg before nodes suffix ss) = nodes_for_spelled nodes

-- in the form that is written
lines_for : (texts : List (List ℕ)) (es : List Entry) → entries_have_for (own_lines texts ++ es) ≡ entries_have_for es
lines_for [] es = refl
lines_for (text ∷ texts) es = lines_for texts es

nodes_for : (xs : Items) (es : List Entry) → entries_have_for es ≡ false → entries_have_for (map a_node (list_of xs) ++ es) ≡ nodes_have_for xs
nodes_for no_items es h = h
nodes_for (item x xs) es h = ap (λ b. if is_comma x then false else (is_for_item x || b)) (nodes_for xs es h)

alone_for : (end : List (List ℕ)) → entries_have_for (own_lines end) ≡ false
alone_for [] = refl
alone_for (text ∷ texts) = alone_for texts

suffix_for : (suffix : Option (List ℕ)) (es : List Entry) → entries_have_for (suffix_entry suffix ++ es) ≡ entries_have_for es
suffix_for None es = refl
suffix_for (Some text) es = refl

after_for : (trailing : Bool) (suffix : Option (List ℕ)) (ss : Segs) (end : List (List ℕ)) → entries_have_for (comma_entry (trailing || is_filled (segments ss)) ++ (suffix_entry suffix ++ written_entries trailing (segments ss) end)) ≡ false
after_for true suffix ss end = refl
after_for false suffix no_segs end = suffix_for suffix (own_lines end) ∙ alone_for end
after_for false suffix (seg before nodes other ss) end = refl

pub written_for : (trailing : Bool) (ss : Segs) (end : List (List ℕ)) → entries_have_for (written_entries trailing (segments ss) end) ≡ have_for ss
written_for trailing no_segs end = alone_for end
written_for trailing (seg before nodes suffix ss) end =
    let after = comma_entry (trailing || is_filled (segments ss)) ++ (suffix_entry suffix ++ written_entries trailing (segments ss) end) in
    lines_for before (map a_node (list_of nodes) ++ after) ∙ nodes_for nodes after (after_for trailing suffix ss end)

-- so of a bracket whose entries are these
pub same_for : (one trailing : Bool) (b : Preceding) (xs : Elems) (ss : Segs) (end : List (List ℕ)) → AreWell b xs → entries_of no_token (with_comma_nodes one (elems_own b xs)) ≡ written_entries trailing (segments ss) end
    → has_for (elems_own b xs) ≡ have_for ss
same_for one trailing b xs ss end well e = owns_have_for one no_token b xs well ∙ ap entries_have_for e ∙ written_for trailing ss end
