-- The text of a statement in which each group stands on lines or in place as one likes, and strings as they are or as the
-- layout spells them: what people write where the layout would have it otherwise.
-- Begin with `text_by`.
use Rattle.std.specs.Prelude.{◌≡◌, codes, ℕ, ◌+◌, List, [], ◌∷◌, ◌++◌, Bool, true, false, ◌||◌, if◌then◌else◌, Option, None, Some}
use Rattle.bz_token.specs.Common.{is_filled}
use Rattle.bz_token.specs.declared.token.Kind.{Kind}
use Rattle.bz_token.specs.declared.token.Kind.TheVariants.{Operator, Newline}
use Rattle.bz_tree.specs.declared.tree.GroupKind.{GroupKind}
use Rattle.bz_tree.specs.Tree.{Item, leaf, group, Items, no_items, item, Segs, no_segs, seg, Statement, items_of, list_of}
use Rattle.bz_layout.specs.declared.spacing.Edge.{Edge}
use Rattle.bz_layout.specs.declared.spacing.Edge.TheVariants.{Start}
use Rattle.bz_layout.specs.declared.spacing.Gap.{Gap}
use Rattle.bz_layout.specs.declared.spacing.Gap.TheVariants.{Closed, Space, Line}
use Rattle.bz_layout.specs.Respell.{respell}
use Rattle.bz_layout.specs.Walked.{edge_after, gap_before, count, have_comments, is_broken, segs_hold, closing, opening}
use Rattle.bz_layout.specs.Layout.{has_commas, is_comment}
use Rattle.bz_layout.specs.Pieces.{Piece, piece, bytes_of, comma_if, comments, comment_lines, suffix_piece}

-- How a node stands, and those in it and after it. `own`: as the layout has it. `free`: whether a group stands on lines, how what
-- is in it stands, and how what follows; a string then stands as it is.
pub data Choice : Type 0 where
  own : Choice
  free : Bool → Choice → Choice → Choice

abbrev pub breaks_by : Choice → Bool → Bool
breaks_by own broken = broken
breaks_by (free breaks inner others) broken = breaks

abbrev pub inside : Choice → Choice
inside own = own
inside (free breaks inner others) = inner

abbrev pub following : Choice → Choice
following own = own
following (free breaks inner others) = others

abbrev pub text_of : Choice → Kind → List ℕ → List ℕ
text_of own kind text = respell kind text
text_of (free breaks inner others) kind text = text

abbrev mutual
  pub item_by : Choice → ℕ → Gap → Item → List Piece
  item_by c level gap (leaf kind text) = piece gap kind (text_of c kind text) ∷ []
  item_by c level gap (group kind segs one_comma end) =
      piece gap Operator (opening kind) ∷
      (if breaks_by c (is_broken kind segs end (segs_hold segs))
      then broken_by (inside c) (level + 1) kind (has_commas kind one_comma (count segs)) segs ++ (comments (level + 1) end ++ piece (Line level) Operator (closing kind) ∷ [])
      else flat_by (inside c) level kind true segs ++ (comma_if one_comma ++ piece Closed Operator (closing kind) ∷ []))

  pub items_by : Choice → ℕ → Option GroupKind → Gap → Edge → Items → List Piece
  items_by c level within first left no_items = []
  items_by c level within first left (item x xs) = item_by (inside c) level (gap_before first left x) x ++ items_by (following c) level within first (edge_after within left x) xs

  pub broken_by : Choice → ℕ → GroupKind → Bool → Segs → List Piece
  broken_by c level kind comma no_segs = []
  broken_by c level kind comma (seg before nodes suffix ss) =
      comments level before ++ (items_by (inside c) level (Some kind) (Line level) Start nodes ++ (comma_if comma ++ (suffix_piece suffix ++ broken_by (following c) level kind comma ss)))

  pub flat_by : Choice → ℕ → GroupKind → Bool → Segs → List Piece
  flat_by c level kind first no_segs = []
  flat_by c level kind first (seg before nodes suffix ss) =
      (if first then items_by (inside c) level (Some kind) Closed Start nodes else piece Closed Operator (codes ",") ∷ items_by (inside c) level (Some kind) Space Start nodes) ++ flat_by (following c) level kind false ss

abbrev pub statement_by : Choice → Statement → List Piece
statement_by c s = comment_lines s.before
    ++ (if is_comment s.class then [] else items_by c 0 None Closed Start (items_of s.nodes) ++ (suffix_piece s.suffix ++ piece Closed Newline (codes "\n") ∷ []))

abbrev pub text_by : Choice → Statement → List ℕ
text_by c s = bytes_of (statement_by c s)

-- a group with comments stands on lines
abbrev mutual
  pub Stands : Choice → Item → Type 0
  Stands c (leaf kind text) = Unit {0}
  Stands c (group kind segs one_comma end) =
      (breaks_by c (is_broken kind segs end (segs_hold segs)) ≡ false → (is_filled end || have_comments segs) ≡ false) × SegsStand (inside c) segs

  pub Stand : Choice → Items → Type 0
  Stand c no_items = Unit {0}
  Stand c (item x xs) = Stands (inside c) x × Stand (following c) xs

  pub SegsStand : Choice → Segs → Type 0
  SegsStand c no_segs = Unit {0}
  SegsStand c (seg before nodes suffix ss) = Stand (inside c) nodes × SegsStand (following c) ss

-- with its strings as they stand in that text
abbrev mutual
  pub item_spelled_by : Choice → Item → Item
  item_spelled_by c (leaf kind text) = leaf kind (text_of c kind text)
  item_spelled_by c (group kind segs one_comma end) = group kind (segs_spelled_by (inside c) segs) one_comma end

  pub items_spelled_by : Choice → Items → Items
  items_spelled_by c no_items = no_items
  items_spelled_by c (item x xs) = item (item_spelled_by (inside c) x) (items_spelled_by (following c) xs)

  pub segs_spelled_by : Choice → Segs → Segs
  segs_spelled_by c no_segs = no_segs
  segs_spelled_by c (seg before nodes suffix ss) = seg before (items_spelled_by (inside c) nodes) suffix (segs_spelled_by (following c) ss)

abbrev pub spelled_by : Choice → Statement → Statement
spelled_by c s = record s { nodes = list_of (items_spelled_by c (items_of s.nodes)) }
