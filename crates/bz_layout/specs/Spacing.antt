-- Where a space stands between two neighbouring nodes (this project's own rule).
-- Begin with `gap_before`.
-- Everywhere `within` is the kind of the group around the nodes, and `before` what stands before a node, the
-- nearest first.
use Rattle.std.specs.Prelude.{codes, List, [], ◌∷◌, Bool, true, false, not, ◌&&◌, ◌||◌, if◌then◌else◌, Option, bytes_eq}
use Rattle.bz_token.specs.declared.token.Kind.TheVariants.{Keyword, Operator}
use Rattle.bz_tree.specs.declared.tree.GroupKind.{GroupKind}
use Rattle.bz_tree.specs.declared.tree.GroupKind.TheVariants.{Load, Index}
use Rattle.bz_layout.specs.declared.spacing.Gap.{Gap}
use Rattle.bz_layout.specs.declared.spacing.Gap.TheVariants.{Closed, Space}
use Rattle.bz_tree.specs.Tree.{Item, leaf, group, is_operator_item, is_operator_among, is_call}
use Rattle.bz_tree.specs.Grammar.{prefix_signs, stars}
use Rattle.bz_token.specs.Common.{is_empty, map_or}

-- a group that stands directly after what comes before it
abbrev pub is_group_without_space : GroupKind → Bool
is_group_without_space Load = true
is_group_without_space Index = true
is_group_without_space kind = is_call kind

-- no space stands before `.`, `,`, `:` and such a group
abbrev pub no_space_before : Item → Bool
no_space_before (leaf kind text) = is_operator_among (codes "." ∷ codes "," ∷ codes ":" ∷ []) (leaf kind text)
no_space_before (group kind segs one_comma end) = is_group_without_space kind

-- where an operand begins: at the start, after a keyword and after an operator other than `.`
abbrev pub begins_operand : List Item → Bool
begins_operand [] = true
begins_operand (leaf Keyword text ∷ before) = true
begins_operand (leaf Operator text ∷ before) = not (bytes_eq text (codes "."))
begins_operand _ = false

-- the brackets of an index
abbrev pub is_index : GroupKind → Bool
is_index Index = true
is_index _ = false

-- no space stands after `.`, a prefix operator, the star that begins an argument and the colon of an index
abbrev pub no_space_after : Option GroupKind → List Item → Item → Bool
no_space_after within before x =
    is_operator_item (codes ".") x
    || is_operator_among prefix_signs x && begins_operand before
    || is_operator_among stars x && is_empty before && map_or false is_call within
    || is_operator_item (codes ":") x && map_or false is_index within

-- the gap before x, where `first` stands before the first node
abbrev pub gap_before : Option GroupKind → Gap → List Item → Item → Gap
gap_before within first [] x = first
gap_before within first (y ∷ ys) x = if no_space_after within ys y || no_space_before x then Closed else Space
