-- The canonical text as a walk from left to right makes it: where a space stands by what the nodes so far leave to the next,
-- and which groups are broken by those that hold a broken one. It is that of `Layout` (`proofs/SameLayout.antt`).
-- Begin with `layout_text`.
use Rattle.std.specs.Prelude.{codes, ℕ, suc, ◌+◌, List, [], ◌∷◌, ◌++◌, Bool, true, false, ◌&&◌, ◌||◌, if◌then◌else◌, Option, is_some, nat_le}
use Rattle.std.specs.Prelude.Option.{Some, None}
use Rattle.std.specs.Str.{bytes_eq}
use Rattle.bz_token.specs.Common.{is_filled, map_or}
use Rattle.bz_token.specs.declared.token.Kind.TheVariants.{Keyword, Newline, Operator as OperatorToken}
use Rattle.bz_tree.specs.declared.tree.GroupKind.{GroupKind}
use Rattle.bz_tree.specs.declared.tree.GroupKind.TheVariants.{List as ListKind, Index, Dict, ListComp, DictComp}
use Rattle.bz_tree.specs.Tree.{Item, leaf, group, Items, no_items, item, Segs, no_segs, seg, Statement, items_of, is_call}
use Rattle.bz_layout.specs.declared.spacing.Edge.{Edge}
use Rattle.bz_layout.specs.declared.spacing.Edge.TheVariants.{Start, Joined, Dotted, Operator, Operand}
use Rattle.bz_layout.specs.declared.spacing.Gap.{Gap}
use Rattle.bz_layout.specs.declared.spacing.Gap.TheVariants.{Closed, Space, Line}
use Rattle.bz_layout.specs.declared.broken.Style.{Style}
use Rattle.bz_layout.specs.declared.broken.Style.TheVariants.{Flat, Broken}
use Rattle.bz_layout.specs.Respell.{respell}
use Rattle.bz_layout.specs.Spacing.{is_group_without_space}
use Rattle.bz_layout.specs.Broken.{breaks_by_count}
use Rattle.bz_layout.specs.Pieces.{Piece, piece, bytes_of, comma_if, comments, comment_lines, suffix_piece}
use Rattle.bz_layout.specs.Layout.{breaks, has_commas, is_comment}

-- no space stands before `.`, `,`, `:` and such a group
abbrev pub no_space_before : Item → Bool
no_space_before (leaf OperatorToken text) = bytes_eq text (codes ".") || bytes_eq text (codes ",") || bytes_eq text (codes ":")
no_space_before (leaf _ text) = false
no_space_before (group kind segs one_comma end) = is_group_without_space kind

-- at the start, after an operator other than `.` and after a keyword an operator begins an operand
abbrev pub awaits_operand : Edge → Bool
awaits_operand Dotted = false
awaits_operand Operand = false
awaits_operand _ = true

abbrev pub is_prefix : Edge → List ℕ → Bool
is_prefix left text = awaits_operand left && (bytes_eq text (codes "+") || bytes_eq text (codes "-") || bytes_eq text (codes "~"))

-- the `*` or `**` that begins an argument
abbrev pub begins_argument : Option GroupKind → Edge → List ℕ → Bool
begins_argument within Start text = map_or false is_call within && (bytes_eq text (codes "*") || bytes_eq text (codes "**"))
begins_argument within _ text = false

abbrev pub is_index_colon : Option GroupKind → List ℕ → Bool
is_index_colon (Some Index) text = bytes_eq text (codes ":")
is_index_colon _ text = false

abbrev pub operator_edge : Option GroupKind → Edge → List ℕ → Edge
operator_edge within left text =
    if bytes_eq text (codes ".") then Dotted else
    (if is_prefix left text || begins_argument within left text || is_index_colon within text then Joined else Operator)

-- what a node leaves to the one after it
abbrev pub edge_after : Option GroupKind → Edge → Item → Edge
edge_after within left (leaf OperatorToken text) = operator_edge within left text
edge_after within left (leaf Keyword text) = Operator
edge_after within left (leaf _ text) = Operand
edge_after within left (group kind segs one_comma end) = Operand

-- the next node stands directly after `.`, a prefix, the star of an argument and the colon of an index
abbrev pub no_space_after : Edge → Bool
no_space_after Dotted = true
no_space_after Joined = true
no_space_after _ = false

-- the gap before what closes up or does not: at the start that of the nodes, else a space where neither neighbour closes up
abbrev pub gap_for : Gap → Edge → Bool → Gap
gap_for first Start closes = first
gap_for first left closes = if no_space_after left || closes then Closed else Space

abbrev pub gap_before : Gap → Edge → Item → Gap
gap_before first left x = gap_for first left (no_space_before x)

abbrev pub count : Segs → ℕ
count no_segs = 0
count (seg before nodes suffix ss) = suc (count ss)

-- a segment has a comment above it or after it
abbrev pub have_comments : Segs → Bool
have_comments no_segs = false
have_comments (seg before nodes suffix ss) = is_filled before || is_some suffix || have_comments ss

-- a group is broken, where `inside` tells whether a segment of it holds a broken group at any depth
abbrev pub is_broken : GroupKind → Segs → List (List ℕ) → Bool → Bool
is_broken kind segs end inside = is_filled end || have_comments segs || breaks_by_count kind (count segs) || (nat_le 2 (count segs) && inside)

abbrev mutual
  -- it is a broken group, or holds one at any depth
  pub holds_broken : Item → Bool
  holds_broken (leaf kind text) = false
  holds_broken (group kind segs one_comma end) = is_broken kind segs end (segs_hold segs) || segs_hold segs

  pub items_hold : Items → Bool
  items_hold no_items = false
  items_hold (item x xs) = holds_broken x || items_hold xs

  pub segs_hold : Segs → Bool
  segs_hold no_segs = false
  segs_hold (seg before nodes suffix ss) = items_hold nodes || segs_hold ss

abbrev pub opening : GroupKind → List ℕ
opening ListKind = codes "["
opening Index = codes "["
opening ListComp = codes "["
opening Dict = codes "{"
opening DictComp = codes "{"
opening _ = codes "("

abbrev pub closing : GroupKind → List ℕ
closing ListKind = codes "]"
closing Index = codes "]"
closing ListComp = codes "]"
closing Dict = codes "}"
closing DictComp = codes "}"
closing _ = codes ")"

-- The level is that of the line on which a node stands: a broken group puts its segments one level deeper, any other group leaves them on the line.
abbrev mutual
  pub item_pieces : Style → ℕ → Gap → Item → List Piece
  item_pieces style level gap (leaf kind text) = piece gap kind (respell kind text) ∷ []
  item_pieces style level gap (group kind segs one_comma end) =
      piece gap OperatorToken (opening kind) ∷
      (if breaks style (is_broken kind segs end (segs_hold segs))
      then broken_segs style (level + 1) kind (has_commas kind one_comma (count segs)) segs ++ (comments (level + 1) end ++ piece (Line level) OperatorToken (closing kind) ∷ [])
      else flat_segs style level kind true segs ++ (comma_if one_comma ++ piece Closed OperatorToken (closing kind) ∷ []))

  -- the nodes of a segment or statement
  pub items_pieces : Style → ℕ → Option GroupKind → Gap → Edge → Items → List Piece
  items_pieces style level within first left no_items = []
  items_pieces style level within first left (item x xs) = item_pieces style level (gap_before first left x) x ++ items_pieces style level within first (edge_after within left x) xs

  -- segments on lines of their own, a comma after each
  pub broken_segs : Style → ℕ → GroupKind → Bool → Segs → List Piece
  broken_segs style level kind comma no_segs = []
  broken_segs style level kind comma (seg before nodes suffix ss) =
      comments level before ++ (items_pieces style level (Some kind) (Line level) Start nodes ++ (comma_if comma ++ (suffix_piece suffix ++ broken_segs style level kind comma ss)))

  -- segments in place, a comma and a space between them
  pub flat_segs : Style → ℕ → GroupKind → Bool → Segs → List Piece
  flat_segs style level kind first no_segs = []
  flat_segs style level kind first (seg before nodes suffix ss) =
      (if first then items_pieces style level (Some kind) Closed Start nodes else piece Closed OperatorToken (codes ",") ∷ items_pieces style level (Some kind) Space Start nodes) ++ flat_segs style level kind false ss

-- the nodes, two spaces and the suffix if there is one, a newline
abbrev pub statement_line : Statement → List Piece
statement_line s = items_pieces Broken 0 None Closed Start (items_of s.nodes) ++ (suffix_piece s.suffix ++ piece Closed Newline (codes "\n") ∷ [])

-- the comments above, then the statement; comment lines alone have no more (a block is one token, written as it stands)
abbrev pub layout : Statement → List Piece
layout s = comment_lines s.before ++ (if is_comment s.class then [] else statement_line s)

abbrev pub layout_text : Statement → List ℕ
layout_text s = bytes_of (layout s)

-- the nodes on one line, without comments
abbrev pub flat_text : Option GroupKind → List Item → List ℕ
flat_text within xs = bytes_of (items_pieces Flat 0 within Closed Start (items_of xs))
