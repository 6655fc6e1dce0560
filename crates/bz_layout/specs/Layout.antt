-- The canonical text of a statement (this project's own layout): its tokens and comments in order, each after
-- its gap.
-- Begin with `layout_text`.
use Rattle.std.specs.Prelude.{codes, ℕ, ◌+◌, List, [], ◌∷◌, ◌++◌, Bool, true, false, ◌||◌, if◌then◌else◌, Option, length, nat_le}
use Rattle.std.specs.Prelude.Option.{Some, None}
use Rattle.bz_token.specs.declared.token.Kind.TheVariants.{Operator, Newline}
use Rattle.bz_tree.specs.declared.tree.GroupKind.{GroupKind}
use Rattle.bz_tree.specs.declared.tree.GroupKind.TheVariants.{Paren, List as ListKind, Index, Dict, ListComp, DictComp}
use Rattle.bz_tree.specs.declared.tree.Class.{Class}
use Rattle.bz_tree.specs.declared.tree.Class.TheVariants.{Comment}
use Rattle.bz_tree.specs.Tree.{Item, leaf, group, Items, no_items, item, Segs, no_segs, seg, Statement, items_of, segments}
use Rattle.bz_layout.specs.declared.spacing.Gap.{Gap}
use Rattle.bz_layout.specs.declared.spacing.Gap.TheVariants.{Closed, Space, Line}
use Rattle.bz_layout.specs.declared.broken.Style.{Style}
use Rattle.bz_layout.specs.declared.broken.Style.TheVariants.{Flat, Broken}
use Rattle.bz_layout.specs.Respell.{respell}
use Rattle.bz_layout.specs.Spacing.{gap_before}
use Rattle.bz_layout.specs.Broken.{is_broken}
use Rattle.bz_layout.specs.Pieces.{Piece, piece, are_lined, bytes_of, comma_if, comments, comment_lines, suffix_piece}

-- the opening and the closing bracket of a group, by its kind (`group_kind` of bz_tree goes the other way)
abbrev pub brackets : GroupKind → List ℕ × List ℕ
brackets ListKind = (codes "[", codes "]")
brackets Index = (codes "[", codes "]")
brackets ListComp = (codes "[", codes "]")
brackets Dict = (codes "{", codes "}")
brackets DictComp = (codes "{", codes "}")
brackets _ = (codes "(", codes ")")

-- whether a broken group of n segments has a comma after each
abbrev pub has_commas : GroupKind → Bool → ℕ → Bool
has_commas ListComp one_comma n = false
has_commas DictComp one_comma n = false
has_commas Index one_comma n = false
has_commas Paren one_comma n = one_comma || nat_le 2 n
has_commas _ one_comma n = true

-- whether a group is broken in a text of this style: in a flat one none is (`Style` is an enum of
-- `src/broken.rt`)
abbrev pub breaks : Style → Bool → Bool
breaks Flat broken = false
breaks Broken broken = broken

-- The level is the indentation of the line on which a node stands: a broken group puts its segments one level
-- deeper, any other group leaves them on the line.
abbrev mutual
  -- a node after a gap
  pub item_pieces : Style → ℕ → Gap → Item → List Piece
  item_pieces style level gap (leaf kind text) = piece gap kind (respell kind text) ∷ []
  item_pieces style level gap (group kind segs one_comma end) =
      let in_place = flat_segs style level kind true segs in
      let comma = has_commas kind one_comma (length (segments segs)) in
      piece gap Operator (brackets kind).0 ∷
      (if breaks style (is_broken kind (segments segs) end (are_lined in_place))
      then broken_segs style (level + 1) kind comma segs
      ++ (comments (level + 1) end ++ piece (Line level) Operator (brackets kind).1 ∷ [])
      else in_place ++ (comma_if one_comma ++ piece Closed Operator (brackets kind).1 ∷ []))

  -- the nodes of a segment or statement, after those before them (`before`, the nearest first); `first` is the
  -- gap before the first node. (The `before` of a `seg` is something else: the comments above it.)
  pub items_pieces : Style → ℕ → Option GroupKind → Gap → List Item → Items → List Piece
  items_pieces style level within first before no_items = []
  items_pieces style level within first before (item x xs) =
      item_pieces style level (gap_before within first before x) x
      ++ items_pieces style level within first (x ∷ before) xs

  -- segments on lines of their own, and after each a comma if `comma`
  pub broken_segs : Style → ℕ → GroupKind → Bool → Segs → List Piece
  broken_segs style level kind comma no_segs = []
  broken_segs style level kind comma (seg before nodes suffix ss) =
      comments level before
      ++ (items_pieces style level (Some kind) (Line level) [] nodes
      ++ (comma_if comma ++ (suffix_piece suffix ++ broken_segs style level kind comma ss)))

  -- segments in place, a comma and a space between them (`first`: none stands before these), without their
  -- comments. A flat text leaves these out. In any other a group that has some is broken (`is_broken`),
  -- however it would stand in place.
  pub flat_segs : Style → ℕ → GroupKind → Bool → Segs → List Piece
  flat_segs style level kind first no_segs = []
  flat_segs style level kind first (seg before nodes suffix ss) =
      (if first then items_pieces style level (Some kind) Closed [] nodes
      else piece Closed Operator (codes ",") ∷ items_pieces style level (Some kind) Space [] nodes)
      ++ flat_segs style level kind false ss

-- the line of a statement: its nodes, two spaces and the suffix if there is one, a newline
abbrev pub statement_line : Statement → List Piece
statement_line s = items_pieces Broken 0 None Closed [] (items_of s.nodes)
    ++ (suffix_piece s.suffix ++ piece Closed Newline (codes "\n") ∷ [])

-- the class of comment lines alone
abbrev pub is_comment : Class → Bool
is_comment Comment = true
is_comment _ = false

-- the comments above, then the statement; comment lines alone have no more (a block is one token, written as
-- it stands)
abbrev pub layout : Statement → List Piece
layout s = comment_lines s.before ++ (if is_comment s.class then [] else statement_line s)

-- the canonical text of a statement
abbrev pub layout_text : Statement → List ℕ
layout_text s = bytes_of (layout s)

-- the nodes with no group broken, without comments (a newline within a string stays)
abbrev pub flat_text : Option GroupKind → List Item → List ℕ
flat_text within xs = bytes_of (items_pieces Flat 0 within Closed [] (items_of xs))
