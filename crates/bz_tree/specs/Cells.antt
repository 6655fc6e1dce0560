-- The segments of one bracket, and whose each of its comments is, by a walk over the cells between its commas: `Owners` says it shorter,
-- and both are the same. For the laws on what is read back.
use Rattle.std.specs.Prelude.{ℕ, List, [], ◌∷◌, ◌++◌, Bool, true, false, not, if◌then◌else◌, ◌==◌, ◌&&◌, drop}
use Rattle.bz_tree.specs.Tree.{Item, Segment}
use Rattle.bz_tree.specs.Owners.{Inner, node, comma, comment, Inside}
use Rattle.bz_token.specs.Common.{first_of, is_filled}

-- What stands directly before a comment: nothing or a comment, or a node or a comma that ends on a line. A comment ends its line, so
-- nothing before another comment is on the line of the next.
pub data Last : Type 0 where
  no_token : Last
  end_of_node : ℕ → Last
  end_of_comma : ℕ → Last

abbrev pub is_on : Last → ℕ → Bool
is_on no_token line = false
is_on (end_of_node end) line = end == line
is_on (end_of_comma end) line = end == line

-- What stands in a bracket, without lines: a comment says whether it is on the line on which the node or comma directly before it
-- ends. The bracket is cut at its commas into cells. A cell's nodes make a segment, if it has any; a comment of a cell stands above
-- its last node, beside it or below it.
pub data Entry : Type 0 where
  a_node : Item → Entry
  a_comma : Entry
  a_comment : Bool → List ℕ → Entry

-- what stands before the first comma
abbrev pub first_cell : List Entry → List Entry
first_cell [] = []
first_cell (a_comma ∷ es) = []
first_cell (e ∷ es) = e ∷ first_cell es

-- of each comma, what stands between it and the next
abbrev pub other_cells : List Entry → List (List Entry)
other_cells [] = []
other_cells (a_comma ∷ es) = first_cell es ∷ other_cells es
other_cells (e ∷ es) = other_cells es

-- a comment that stands first, on the line on which what stands before it ends
abbrev pub same_line : List Entry → List (List ℕ)
same_line (a_comment true text ∷ es) = text ∷ []
same_line es = []

-- what stands after that comment; everything, where there is none
abbrev pub later_lines : List Entry → List Entry
later_lines (a_comment true text ∷ es) = es
later_lines es = es

abbrev pub nodes_in : List Entry → List Item
nodes_in [] = []
nodes_in (a_node x ∷ es) = x ∷ nodes_in es
nodes_in (e ∷ es) = nodes_in es

abbrev pub has_node : List Entry → Bool
has_node es = is_filled (nodes_in es)

abbrev pub comments_in : List Entry → List (List ℕ)
comments_in [] = []
comments_in (a_comment on text ∷ es) = text ∷ comments_in es
comments_in (e ∷ es) = comments_in es

-- a cell's comments before its last node
abbrev pub above_last : List Entry → List (List ℕ)
above_last [] = []
above_last (a_comment on text ∷ es) = if has_node es then text ∷ above_last es else []
above_last (e ∷ es) = above_last es

-- the comment directly after its last node, on the line on which that node ends
abbrev pub beside_last : List Entry → List (List ℕ)
beside_last [] = []
beside_last (a_node x ∷ es) = if has_node es then beside_last es else same_line es
beside_last (e ∷ es) = beside_last es

-- its other comments after its last node
abbrev pub below_last : List Entry → List (List ℕ)
below_last [] = []
below_last (a_node x ∷ es) = if has_node es then below_last es else comments_in (later_lines es)
below_last (a_comment on text ∷ es) = if has_node es then below_last es else text ∷ comments_in es
below_last (a_comma ∷ es) = below_last es

-- The segment of a cell, of those comments below its last node that are the segment's, and of the comment on the line of the comma
-- after it. Of the comment beside the last node and this one the first is the suffix. All others stand before the segment, in
-- their order.
abbrev pub cell_segment : List Entry → List (List ℕ) → List (List ℕ) → Segment
cell_segment cell below_it on_comma =
    let shown = beside_last cell ++ on_comma in
    record {
      before = above_last cell ++ (below_it ++ drop 1 shown);
      nodes = nodes_in cell;
      suffix = first_of shown;
    }

-- a segment, if it has a node
abbrev pub with_segment : Segment → List Segment → List Segment
with_segment s ss = if is_filled s.nodes then s ∷ ss else ss

-- The segments of a cell and of the cells after it. Where a comma follows, the comments below the cell's last node are its segment's, as
-- is the comment on the line of that comma; those below the last cell's last node are no segment's.
abbrev pub segments_from : List Entry → List (List Entry) → List Segment
segments_from cell [] = with_segment (cell_segment cell [] []) []
segments_from cell (next ∷ cells) =
    with_segment (cell_segment cell (below_last cell) (same_line next))
    (segments_from (later_lines next) cells)

-- the end comments: those of the last cell that stand below its last node; where it has no node, all but the one on its comma's line
abbrev pub end_from : List Entry → List (List Entry) → List (List ℕ)
end_from cell [] = below_last cell
end_from cell (next ∷ cells) = end_from (later_lines next) cells

-- a comma stands after the last node
abbrev pub has_trailing_comma : List (List Entry) → Bool
has_trailing_comma [] = false
has_trailing_comma (cell ∷ []) = not (has_node cell)
has_trailing_comma (cell ∷ next ∷ cells) = has_trailing_comma (next ∷ cells)

abbrev pub inside_by_cells : List Entry → Inside
inside_by_cells es = record {
  segs = segments_from (first_cell es) (other_cells es);
  trailing = has_trailing_comma (other_cells es);
  end = end_from (first_cell es) (other_cells es);
}

-- the entries of what stands in a bracket, after what ends on this line
abbrev pub entries_of : Last → List Inner → List Entry
entries_of last [] = []
entries_of last (node line x ∷ os) = a_node x ∷ entries_of (end_of_node line) os
entries_of last (comma t ∷ os) = a_comma ∷ entries_of (end_of_comma t.line) os
entries_of last (comment line text ∷ os) = a_comment (is_on last line) text ∷ entries_of no_token os

-- no segment is empty: a node stands before each comma, after the comma before
abbrev pub no_empty_cell : Bool → List Inner → Bool
no_empty_cell has_node [] = true
no_empty_cell has_node (node line x ∷ rest) = no_empty_cell true rest
no_empty_cell has_node (comma t ∷ rest) = has_node && no_empty_cell false rest
no_empty_cell has_node (comment line text ∷ rest) = no_empty_cell has_node rest

-- the same as `inside` of `Owners`
abbrev pub inside : List Inner → Inside
inside owns = inside_by_cells (entries_of no_token owns)
