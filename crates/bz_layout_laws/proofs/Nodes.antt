-- Whose the comments are does not hang on what the nodes are.
use Rattle.std.proofs.Common.{◌≡◌, ℕ, List, [], ◌∷◌, ◌++◌, map, true, false, not, cond, refl, ap, ◌∙◌, drop}
use Rattle.bz_tree.specs.Tree.{Item, Segment}
use Rattle.bz_tree.specs.Cells.{Entry, a_node, a_comma, a_comment, first_cell, other_cells, same_line, later_lines, nodes_in, has_node, comments_in, above_last, beside_last, below_last, cell_segment, with_segment, segments_from, end_from, has_trailing_comma, inside_by_cells}
use Rattle.bz_layout_laws.specs.Nodes.{entry_mapped, segment_mapped, inside_mapped}
use Rattle.bz_token.specs.Common.{first_of, is_filled}

abbrev over : (Item → Item) → List Entry → List Entry
over f es = map (entry_mapped f) es

first_over : (f : Item → Item) (es : List Entry) → first_cell (over f es) ≡ over f (first_cell es)
first_over f [] = refl
first_over f (a_node x ∷ es) = ap (λ l. a_node (f x) ∷ l) (first_over f es)
first_over f (a_comma ∷ es) = refl
first_over f (a_comment on text ∷ es) = ap (λ l. a_comment on text ∷ l) (first_over f es)

others_over : (f : Item → Item) (es : List Entry) → other_cells (over f es) ≡ map (over f) (other_cells es)
others_over f [] = refl
others_over f (a_node x ∷ es) = others_over f es
others_over f (a_comma ∷ es) = λ i. first_over f es i ∷ others_over f es i
others_over f (a_comment on text ∷ es) = others_over f es

nodes_over : (f : Item → Item) (es : List Entry) → nodes_in (over f es) ≡ map f (nodes_in es)
nodes_over f [] = refl
nodes_over f (a_node x ∷ es) = ap (λ l. f x ∷ l) (nodes_over f es)
nodes_over f (a_comma ∷ es) = nodes_over f es
nodes_over f (a_comment on text ∷ es) = nodes_over f es

has_over : (f : Item → Item) (es : List Entry) → has_node (over f es) ≡ has_node es
has_over f [] = refl
has_over f (a_node x ∷ es) = refl
has_over f (a_comma ∷ es) = has_over f es
has_over f (a_comment on text ∷ es) = has_over f es

on_over : (f : Item → Item) (es : List Entry) → same_line (over f es) ≡ same_line es
on_over f [] = refl
on_over f (a_node x ∷ es) = refl
on_over f (a_comma ∷ es) = refl
on_over f (a_comment true text ∷ es) = refl
on_over f (a_comment false text ∷ es) = refl

off_over : (f : Item → Item) (es : List Entry) → later_lines (over f es) ≡ over f (later_lines es)
off_over f [] = refl
off_over f (a_node x ∷ es) = refl
off_over f (a_comma ∷ es) = refl
off_over f (a_comment true text ∷ es) = refl
off_over f (a_comment false text ∷ es) = refl

comments_over : (f : Item → Item) (es : List Entry) → comments_in (over f es) ≡ comments_in es
comments_over f [] = refl
comments_over f (a_node x ∷ es) = comments_over f es
comments_over f (a_comma ∷ es) = comments_over f es
comments_over f (a_comment on text ∷ es) = ap (λ l. text ∷ l) (comments_over f es)

comments_off-over : (f : Item → Item) (es : List Entry) → comments_in (later_lines (over f es)) ≡ comments_in (later_lines es)
comments_off-over f es = ap (λ l. comments_in l) (off_over f es) ∙ comments_over f (later_lines es)

above_over : (f : Item → Item) (es : List Entry) → above_last (over f es) ≡ above_last es
above_over f [] = refl
above_over f (a_node x ∷ es) = above_over f es
above_over f (a_comma ∷ es) = above_over f es
above_over f (a_comment on text ∷ es) = λ i. cond (has_over f es i) (text ∷ above_over f es i) []

beside_over : (f : Item → Item) (es : List Entry) → beside_last (over f es) ≡ beside_last es
beside_over f [] = refl
beside_over f (a_node x ∷ es) = λ i. cond (has_over f es i) (beside_over f es i) (on_over f es i)
beside_over f (a_comma ∷ es) = beside_over f es
beside_over f (a_comment on text ∷ es) = beside_over f es

below_over : (f : Item → Item) (es : List Entry) → below_last (over f es) ≡ below_last es
below_over f [] = refl
below_over f (a_node x ∷ es) = λ i. cond (has_over f es i) (below_over f es i) (comments_off-over f es i)
below_over f (a_comma ∷ es) = below_over f es
below_over f (a_comment on text ∷ es) = λ i. cond (has_over f es i) (below_over f es i) (text ∷ comments_over f es i)

segment_over : (f : Item → Item) (cell : List Entry) (under comment : List (List ℕ)) → cell_segment (over f cell) under comment ≡ segment_mapped f (cell_segment cell under comment)
segment_over f cell under comment =
    λ i. record { before = above_over f cell i ++ (under ++ drop 1 (beside_over f cell i ++ comment)); nodes = nodes_over f cell i; suffix = first_of (beside_over f cell i ++ comment) }

with_over : (f : Item → Item) (s : Segment) (ss : List Segment) → with_segment (segment_mapped f s) (map (segment_mapped f) ss) ≡ map (segment_mapped f) (with_segment s ss)
with_over f s ss = at_nodes s.nodes
  where
    at_nodes : (xs : List Item) → cond (is_filled (map f xs)) (segment_mapped f s ∷ map (segment_mapped f) ss) (map (segment_mapped f) ss) ≡ map (segment_mapped f) (cond (is_filled xs) (s ∷ ss) ss)
    at_nodes [] = refl
    at_nodes (x ∷ xs) = refl

segments_over : (f : Item → Item) (cell : List Entry) (cells : List (List Entry)) → segments_from (over f cell) (map (over f) cells) ≡ map (segment_mapped f) (segments_from cell cells)
segments_over f cell [] = ap (λ s. with_segment s []) (segment_over f cell [] []) ∙ with_over f (cell_segment cell [] []) []
segments_over f cell (next ∷ cells) =
    let parts : segments_from (over f cell) (over f next ∷ map (over f) cells) ≡ with_segment (cell_segment (over f cell) (below_last cell) (same_line next)) (segments_from (over f (later_lines next)) (map (over f) cells)) =
    λ i. with_segment (cell_segment (over f cell) (below_over f cell i) (on_over f next i)) (segments_from (off_over f next i) (map (over f) cells)) in
    let both : with_segment (cell_segment (over f cell) (below_last cell) (same_line next)) (segments_from (over f (later_lines next)) (map (over f) cells))
    ≡ with_segment (segment_mapped f (cell_segment cell (below_last cell) (same_line next))) (map (segment_mapped f) (segments_from (later_lines next) cells)) =
    λ i. with_segment (segment_over f cell (below_last cell) (same_line next) i) (segments_over f (later_lines next) cells i) in
    parts ∙ (both ∙ with_over f (cell_segment cell (below_last cell) (same_line next)) (segments_from (later_lines next) cells))

end_over : (f : Item → Item) (cell : List Entry) (cells : List (List Entry)) → end_from (over f cell) (map (over f) cells) ≡ end_from cell cells
end_over f cell [] = below_over f cell
end_over f cell (next ∷ cells) = ap (λ c. end_from c (map (over f) cells)) (off_over f next) ∙ end_over f (later_lines next) cells

trailed_over : (f : Item → Item) (cells : List (List Entry)) → has_trailing_comma (map (over f) cells) ≡ has_trailing_comma cells
trailed_over f [] = refl
trailed_over f (cell ∷ []) = ap (λ b. not b) (has_over f cell)
trailed_over f (cell ∷ next ∷ cells) = trailed_over f (next ∷ cells)

pub inside_over : (f : Item → Item) (es : List Entry) → inside_by_cells (map (entry_mapped f) es) ≡ inside_mapped f (inside_by_cells es)
inside_over f es = rw (first_over f es, others_over f es)
    (λ i. record { segs = segments_over f (first_cell es) (other_cells es) i; trailing = trailed_over f (other_cells es) i; end = end_over f (first_cell es) (other_cells es) i })
