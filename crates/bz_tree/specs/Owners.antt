-- The segments of one bracket, and what each of its comments belongs to (this project's own rule). Only what stands
-- in the bracket itself counts: an inner bracket is one node.
-- Begin with `inside`.
use Rattle.std.specs.Prelude.{ℕ, List, [], ◌∷◌, ◌++◌, map, flat_map, Bool, true, false, not, if◌then◌else◌, ◌==◌, ◌||◌, length, drop, Option, None, Some}
use Rattle.std.specs.List.{list_any, list_all, filter, before_last, after_last}
use Rattle.bz_token.specs.Places.{Placed}
use Rattle.bz_token.specs.Groups.{grouped}
use Rattle.bz_tree.specs.Tree.{Item, Segment}
use Rattle.bz_token.specs.Common.{first_of, is_filled, last_of}

-- one of the things that stand in a bracket, and in no bracket within it
pub data Inner : Type 0 where
  -- a token or an inner bracket, and the line on which it ends
  node : ℕ → Item → Inner
  comma : Placed → Inner
  -- a comment: its line and its text
  comment : ℕ → List ℕ → Inner

-- the segments of a bracket, whether a comma stands after its last node, its end comments
pub record Inside : Type 0 where
  pub segs : List Segment
  pub trailing : Bool
  pub end : List (List ℕ)

-- the node that this is, as a list; else none
abbrev pub nodes_of : Inner → List Item
nodes_of (node line x) = x ∷ []
nodes_of _ = []

-- the text of the comment that this is, as a list; else none
abbrev pub texts_of : Inner → List (List ℕ)
texts_of (comment line text) = text ∷ []
texts_of _ = []

-- a token or an inner bracket
abbrev pub is_node : Inner → Bool
is_node inner = is_filled (nodes_of inner)

-- a comma
abbrev pub is_comma : Inner → Bool
is_comma (comma t) = true
is_comma _ = false

-- a comment on the line on which the node or comma directly before it ends
abbrev pub is_beside : Option Inner → Inner → Bool
is_beside (Some (node end x)) (comment line text) = end == line
is_beside (Some (comma t)) (comment line text) = t.line == line
is_beside _ _ = false

-- the texts of such comments, where `before` stands before all
abbrev pub beside : Option Inner → List Inner → List (List ℕ)
beside before [] = []
beside before (here ∷ rest) = (if is_beside before here then texts_of here else []) ++ beside (Some here) rest

-- the texts of the other comments
abbrev pub on_own_lines : Option Inner → List Inner → List (List ℕ)
on_own_lines before [] = []
on_own_lines before (here ∷ rest) =
    (if is_beside before here then [] else texts_of here) ++ on_own_lines (Some here) rest

-- A bracket is cut into cells: what stands up to a comma, the comma, and the comment beside it. What stands
-- after the last comma is a cell too, without a comma.
abbrev pub cell_goes_on : List Inner → Inner → Bool
cell_goes_on cell inner = not (list_any is_comma cell) || is_beside (last_of cell) inner

-- the cells of a bracket
abbrev pub cells : List Inner → List (List Inner)
cells inners = grouped cell_goes_on inners

-- a cell from its last node on; the whole cell, where it has no node (`before_last` is empty then)
abbrev pub from_last_node : List Inner → List Inner
from_last_node cell = drop (length (before_last is_node cell)) cell

-- the end comments of the last cell without a comma: those on lines of their own after its last node
abbrev pub end_comments : List Inner → List (List ℕ)
end_comments cell = if list_any is_comma cell then [] else on_own_lines None (from_last_node cell)

-- The segment of a cell. The first comment beside its last node or its comma is the suffix; its other
-- comments that are no end comments stand before the segment.
abbrev pub cell_segment : List Inner → Segment
cell_segment cell =
    let last = from_last_node cell in
    let below = if list_any is_comma cell then on_own_lines None last else [] in
    record {
      before = flat_map texts_of (before_last is_node cell) ++ (below ++ drop 1 (beside None last));
      nodes = flat_map nodes_of cell;
      suffix = first_of (beside None last);
    }

-- no segment is empty: each cell that has a comma has a node
abbrev pub no_empty_cell : List Inner → Bool
no_empty_cell inners = list_all (λ cell. list_any is_node cell || not (list_any is_comma cell)) (cells inners)

-- the inside of a bracket: each cell with a node is a segment
abbrev pub inside : List Inner → Inside
inside inners = record {
  segs = map cell_segment (filter (list_any is_node) (cells inners));
  trailing = list_any is_comma (after_last is_node inners);
  end = flat_map end_comments (cells inners);
}
