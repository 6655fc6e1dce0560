-- A form in which segments may stand in a bracket, and from which they are read back.
use Rattle.std.specs.Prelude.{◌≡◌, ℕ, List, [], ◌∷◌, ◌++◌, map, Bool, true, false, ◌||◌, if◌then◌else◌, Option, Some, None}
use Rattle.bz_tree.specs.Tree.{Segment}
use Rattle.bz_tree.specs.Cells.{Entry, a_node, a_comma, a_comment}
use Rattle.bz_token.specs.Common.{is_filled}

-- comments on lines of their own
abbrev pub own_lines : List (List ℕ) → List Entry
own_lines texts = map (a_comment false) texts

-- a comment on the line on which what stands directly before it ends
abbrev pub suffix_entry : Option (List ℕ) → List Entry
suffix_entry None = []
suffix_entry (Some text) = a_comment true text ∷ []

-- Segments and end comments in this form: the comments before a segment on lines of their own, its nodes, a comma, and its
-- suffix directly after it. After the last segment the comma is optional; where there is none the suffix stands directly after the node.
abbrev pub written_entries : Bool → List Segment → List (List ℕ) → List Entry
written_entries trailing [] end = own_lines end
written_entries trailing (s ∷ ss) end =
    own_lines s.before ++ (map a_node s.nodes ++ ((if trailing || is_filled ss then a_comma ∷ [] else []) ++ (suffix_entry s.suffix ++ written_entries trailing ss end)))

-- no segment is without nodes
abbrev pub HaveNodes : List Segment → Type 0
HaveNodes [] = Unit {0}
HaveNodes (s ∷ ss) = (is_filled s.nodes ≡ true) × HaveNodes ss
