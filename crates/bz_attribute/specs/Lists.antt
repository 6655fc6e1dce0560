-- The list parts of a value, and which elements equal a text (this project's own rule).
-- Begin with `parts`, `edit_parts` and `equals`.
use Rattle.std.specs.Prelude.{ℕ, List, [], ◌∷◌, ◌++◌, Bool, true, false, ◌||◌, if◌then◌else◌, Option, Some, None, codes, map, take, is_some, bytes_eq}
use Rattle.std.specs.List.{filter_map, join_by, list_all, slice_split}
use Rattle.bz_token.specs.declared.token.Kind.TheVariants.{Keyword, Operator}
use Rattle.bz_tree.specs.declared.tree.GroupKind.TheVariants.{List as ListKind}
use Rattle.bz_tree.specs.Tree.{Item, leaf, group, Segment, segs_of, segments, is_operator_item}
use Rattle.bz_label.specs.Labels.{Package}
use Rattle.bz_label.specs.Same.{same}
use Rattle.bz_attribute.specs.Rules.{name_of, string_value}
use Rattle.bz_token.specs.Common.{map_or}

-- the element is one string whose value is the same label as the text `word`: that is a value of a command,
-- or the value of another element
abbrev pub equals : Package → List ℕ → Segment → Bool
equals home word element = map_or false (λ value. same home value word) (string_value element.nodes)

-- a node that may stand in a value that is split: an operand, a plus operator or a dot; no keyword, no other
-- operator
abbrev pub may_be_in_sum : Item → Bool
may_be_in_sum (leaf Keyword text) = false
may_be_in_sum (leaf Operator text) = bytes_eq text (codes "+") || bytes_eq text (codes ".")
may_be_in_sum _ = true

-- the elements of a value, or of a piece of one, that is one list
abbrev pub only_list : List Item → Option (List Segment)
only_list (group ListKind segs one_comma end ∷ []) = Some (segments segs)
only_list _ = None

-- A value is split at each plus operator, if all that stands in it outside inner brackets is operands, plus
-- operators and dots. A piece that is one list is a list part.
abbrev pub pieces : List Item → List (List Item)
pieces nodes = if list_all may_be_in_sum nodes then slice_split (is_operator_item (codes "+")) nodes else nodes ∷ []

-- pieces with a plus operator between two
abbrev pub sum_of : List (List Item) → List Item
sum_of pieces = join_by (λ piece. piece) (leaf Operator (codes "+") ∷ []) pieces

-- the elements of each list part
abbrev pub parts : List Item → List (List Segment)
parts nodes = filter_map only_list (pieces nodes)

-- a piece of a value: a list part (as `only_list` has it, here with what else the list holds) is edited by f, any
-- other piece stays
abbrev pub edit_piece : (List Segment → List Segment) → List Item → List Item
edit_piece f (group ListKind ss comma end ∷ []) = group ListKind (segs_of (f (segments ss))) comma end ∷ []
edit_piece f piece = piece

-- a value of which each list part is edited by f
abbrev pub edit_parts : (List Segment → List Segment) → List Item → List Item
edit_parts f nodes = sum_of (map (edit_piece f) (pieces nodes))

-- a keyword argument
abbrev pub is_attribute : Segment → Bool
is_attribute s = is_some (name_of s.nodes)

-- an argument with these nodes as its value
abbrev pub with_value : List Item → Segment → Segment
with_value nodes s = record s { nodes = take 2 s.nodes ++ nodes }
