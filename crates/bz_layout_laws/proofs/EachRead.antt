-- What holds of each node and each comment that stands in a bracket holds of those of its segments and of its end.
use Rattle.std.proofs.Common.{◌≡◌, ℕ, List, [], ◌∷◌, ◌++◌, Bool, true, false, refl, drop}
use Rattle.std.specs.Prelude.{if◌then◌else◌}
use Rattle.std.specs.List.{list_all}
use Rattle.std.proofs.lemmas.Bool.{false≢true, and_parts}
use Rattle.bz_token.proofs.Quiet.{both}
use Rattle.bz_tree.specs.Comments.{beside}
use Rattle.bz_tree.specs.Cells.{Entry, a_node, a_comma, a_comment, first_cell, other_cells, same_line, later_lines, nodes_in, has_node, comments_in, above_last, beside_last, below_last, cell_segment, with_segment, segments_from, end_from, inside_by_cells}
use Rattle.bz_tree.specs.Tree.{Item, Items, no_items, item, Segs, no_segs, seg, Segment, items_of, segs_of}
use Rattle.bz_layout_laws.specs.Legible.{are_some}
use Rattle.bz_token.specs.Common.{first_of, is_filled}

-- texts that pass a test
abbrev pub AllPass : (List ℕ → Bool) → List (List ℕ) → Type 0
AllPass q texts = list_all q texts ≡ true

-- along the entries of a bracket
abbrev pub Each : (Item → Type 0) → (List ℕ → Bool) → List Entry → Type 0
Each P q [] = Unit {0}
Each P q (a_node x ∷ es) = P x × Each P q es
Each P q (a_comma ∷ es) = Each P q es
Each P q (a_comment on text ∷ es) = (q text ≡ true) × Each P q es

abbrev EachCell : (Item → Type 0) → (List ℕ → Bool) → List (List Entry) → Type 0
EachCell P q [] = Unit {0}
EachCell P q (cell ∷ cells) = Each P q cell × EachCell P q cells

abbrev pub EachNode : (Item → Type 0) → Items → Type 0
EachNode P no_items = Unit {0}
EachNode P (item x xs) = P x × EachNode P xs

abbrev pub EachSegment : (Item → Type 0) → (List ℕ → Bool) → Segs → Type 0
EachSegment P q no_segs = Unit {0}
EachSegment P q (seg before nodes suffix ss) = AllPass q before × (are_some nodes ≡ true) × EachNode P nodes × AllPass q (beside suffix) × EachSegment P q ss

pub comments_join : (q : List ℕ → Bool) (xs ys : List (List ℕ)) → AllPass q xs → AllPass q ys → AllPass q (xs ++ ys)
comments_join q [] ys h k = k
comments_join q (x ∷ xs) ys h k =
    let p = and_parts (q x) (list_all q xs) h in
    both (q x) (list_all q (xs ++ ys)) p.0 (comments_join q xs ys p.1 k)

one_more : (q : List ℕ → Bool) (x : List ℕ) (xs : List (List ℕ)) → q x ≡ true → AllPass q xs → AllPass q (x ∷ xs)
one_more q x xs h k = both (q x) (list_all q xs) h k

pick : (q : List ℕ → Bool) (b : Bool) (xs ys : List (List ℕ)) → AllPass q xs → AllPass q ys → AllPass q (if b then xs else ys)
pick q true xs ys h k = h
pick q false xs ys h k = k

first_each : (P : Item → Type 0) (q : List ℕ → Bool) (es : List Entry) → Each P q es → Each P q (first_cell es)
first_each P q [] h = tt
first_each P q (a_node x ∷ es) h = (h.0, first_each P q es h.1)
first_each P q (a_comma ∷ es) h = tt
first_each P q (a_comment on text ∷ es) h = (h.0, first_each P q es h.1)

other_each : (P : Item → Type 0) (q : List ℕ → Bool) (es : List Entry) → Each P q es → EachCell P q (other_cells es)
other_each P q [] h = tt
other_each P q (a_node x ∷ es) h = other_each P q es h.1
other_each P q (a_comma ∷ es) h = (first_each P q es h, other_each P q es h)
other_each P q (a_comment on text ∷ es) h = other_each P q es h.1

later_each : (P : Item → Type 0) (q : List ℕ → Bool) (es : List Entry) → Each P q es → Each P q (later_lines es)
later_each P q [] h = tt
later_each P q (a_node x ∷ es) h = h
later_each P q (a_comma ∷ es) h = h
later_each P q (a_comment true text ∷ es) h = h.1
later_each P q (a_comment false text ∷ es) h = h

nodes_each : (P : Item → Type 0) (q : List ℕ → Bool) (es : List Entry) → Each P q es → EachNode P (items_of (nodes_in es))
nodes_each P q [] h = tt
nodes_each P q (a_node x ∷ es) h = (h.0, nodes_each P q es h.1)
nodes_each P q (a_comma ∷ es) h = nodes_each P q es h
nodes_each P q (a_comment on text ∷ es) h = nodes_each P q es h.1

comments_each : (P : Item → Type 0) (q : List ℕ → Bool) (es : List Entry) → Each P q es → AllPass q (comments_in es)
comments_each P q [] h = refl
comments_each P q (a_node x ∷ es) h = comments_each P q es h.1
comments_each P q (a_comma ∷ es) h = comments_each P q es h
comments_each P q (a_comment on text ∷ es) h = one_more q text (comments_in es) h.0 (comments_each P q es h.1)

same_each : (P : Item → Type 0) (q : List ℕ → Bool) (es : List Entry) → Each P q es → AllPass q (same_line es)
same_each P q [] h = refl
same_each P q (a_node x ∷ es) h = refl
same_each P q (a_comma ∷ es) h = refl
same_each P q (a_comment true text ∷ es) h = one_more q text [] h.0 refl
same_each P q (a_comment false text ∷ es) h = refl

above_each : (P : Item → Type 0) (q : List ℕ → Bool) (es : List Entry) → Each P q es → AllPass q (above_last es)
above_each P q [] h = refl
above_each P q (a_node x ∷ es) h = above_each P q es h.1
above_each P q (a_comma ∷ es) h = above_each P q es h
above_each P q (a_comment on text ∷ es) h = pick q (has_node es) (text ∷ above_last es) [] (one_more q text (above_last es) h.0 (above_each P q es h.1)) refl

beside_each : (P : Item → Type 0) (q : List ℕ → Bool) (es : List Entry) → Each P q es → AllPass q (beside_last es)
beside_each P q [] h = refl
beside_each P q (a_node x ∷ es) h = pick q (has_node es) (beside_last es) (same_line es) (beside_each P q es h.1) (same_each P q es h.1)
beside_each P q (a_comma ∷ es) h = beside_each P q es h
beside_each P q (a_comment on text ∷ es) h = beside_each P q es h.1

below_each : (P : Item → Type 0) (q : List ℕ → Bool) (es : List Entry) → Each P q es → AllPass q (below_last es)
below_each P q [] h = refl
below_each P q (a_node x ∷ es) h = pick q (has_node es) (below_last es) (comments_in (later_lines es)) (below_each P q es h.1) (comments_each P q (later_lines es) (later_each P q es h.1))
below_each P q (a_comma ∷ es) h = below_each P q es h
below_each P q (a_comment on text ∷ es) h = pick q (has_node es) (below_last es) (text ∷ comments_in es) (below_each P q es h.1) (one_more q text (comments_in es) h.0 (comments_each P q es h.1))

first_comment : (q : List ℕ → Bool) (texts : List (List ℕ)) → AllPass q texts → AllPass q (beside (first_of texts))
first_comment q [] h = refl
first_comment q (text ∷ texts) h = one_more q text [] (and_parts (q text) (list_all q texts) h).0 refl

other_comments : (q : List ℕ → Bool) (texts : List (List ℕ)) → AllPass q texts → AllPass q (drop 1 texts)
other_comments q [] h = refl
other_comments q (text ∷ texts) h = (and_parts (q text) (list_all q texts) h).1

filled_some : (xs : List Item) → is_filled xs ≡ true → are_some (items_of xs) ≡ true
filled_some [] h = absurd (false≢true h)
filled_some (x ∷ xs) h = refl

-- a cell's segment, if it has a node, before the segments of the cells after it
cell_each : (P : Item → Type 0) (q : List ℕ → Bool) (cell : List Entry) (below comment : List (List ℕ)) (ss : List Segment) → Each P q cell → AllPass q below → AllPass q comment → EachSegment P q (segs_of ss) → EachSegment P q (segs_of (with_segment (cell_segment cell below comment) ss))
cell_each P q cell below comment ss h down more rest = by (is_filled (nodes_in cell)) refl
  where
    shown : List (List ℕ)
    shown = beside_last cell ++ comment

    are : AllPass q shown
    are = comments_join q (beside_last cell) comment (beside_each P q cell h) more

    by : (b : Bool) → is_filled (nodes_in cell) ≡ b → EachSegment P q (segs_of (if b then cell_segment cell below comment ∷ ss else ss))
    by false e = rest
    by true e = (comments_join q (above_last cell) (below ++ drop 1 shown) (above_each P q cell h) (comments_join q below (drop 1 shown) down (other_comments q shown are)), filled_some (nodes_in cell) e, nodes_each P q cell h, first_comment q shown are, rest)

cells_each : (P : Item → Type 0) (q : List ℕ → Bool) (cell : List Entry) (cells : List (List Entry)) → Each P q cell → EachCell P q cells → EachSegment P q (segs_of (segments_from cell cells))
cells_each P q cell [] h rest = cell_each P q cell [] [] [] h refl refl tt
cells_each P q cell (next ∷ cells) h rest =
    cell_each P q cell (below_last cell) (same_line next) (segments_from (later_lines next) cells) h (below_each P q cell h) (same_each P q next rest.0) (cells_each P q (later_lines next) cells (later_each P q next rest.0) rest.1)

end_each : (P : Item → Type 0) (q : List ℕ → Bool) (cell : List Entry) (cells : List (List Entry)) → Each P q cell → EachCell P q cells → AllPass q (end_from cell cells)
end_each P q cell [] h rest = below_each P q cell h
end_each P q cell (next ∷ cells) h rest = end_each P q (later_lines next) cells (later_each P q next rest.0) rest.1

pub inside_each : (P : Item → Type 0) (q : List ℕ → Bool) (es : List Entry) → Each P q es → EachSegment P q (segs_of (inside_by_cells es).segs) × AllPass q (inside_by_cells es).end
inside_each P q es h = (cells_each P q (first_cell es) (other_cells es) (first_each P q es h) (other_each P q es h), end_each P q (first_cell es) (other_cells es) (first_each P q es h) (other_each P q es h))
