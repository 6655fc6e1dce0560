-- Among the nodes of a statement stands no newline token.
use Rattle.std.proofs.Common.{◌≡◌, ℕ, ◌+◌, List, [], ◌∷◌, ◌++◌, Bool, true, false, Option, Some, None, refl, subst}
use Rattle.std.specs.Prelude.{codes}
use Rattle.std.specs.List.{list_any}
use Rattle.std.proofs.lemmas.Bool.{or_parts, or_from}
use Rattle.bz_token.specs.declared.token.Kind.{Kind}
use Rattle.bz_token.specs.declared.token.Kind.TheVariants.{Operator, Comment}
use Rattle.bz_token.specs.Brackets.{is_line}
use Rattle.bz_token.specs.TokenLines.{is_newline_piece}
use Rattle.bz_tree.specs.declared.tree.GroupKind.{GroupKind}
use Rattle.bz_tree.specs.Tree.{Item, leaf, group, Items, no_items, item, Segs, no_segs, seg, Statement, items_of}
use Rattle.bz_layout.specs.declared.spacing.Edge.{Edge}
use Rattle.bz_layout.specs.declared.spacing.Edge.TheVariants.{Start}
use Rattle.bz_layout.specs.declared.spacing.Gap.{Gap}
use Rattle.bz_layout.specs.declared.spacing.Gap.TheVariants.{Closed, Space, Apart, Line}
use Rattle.bz_layout.specs.declared.broken.Style.TheVariants.{Broken}
use Rattle.bz_layout.specs.Walked.{edge_after, gap_before, count, is_broken, segs_hold, opening, closing, items_pieces}
use Rattle.bz_layout.specs.Pieces.{Piece, piece, comma_if, comments, suffix_piece}
use Rattle.bz_layout.specs.Layout.{has_commas}
use Rattle.bz_layout_laws.specs.FreeLayout.{Choice, own, breaks_by, inside, following, text_of, item_by, items_by, broken_by, flat_by}
use Rattle.bz_layout_laws.specs.Legible.{IsLegibleItem, AreLegible, AreLegibleSegs, IsLegible}
use Rattle.bz_layout_laws.specs.ReadPieces.{read_pieces}
use Rattle.bz_layout_laws.proofs.OwnLayout.{items_own}
use Rattle.bz_layout_laws.proofs.Texts.{either_way}
use Rattle.bz_layout_laws.proofs.NoBrackets.{leaf_line}

-- a record, so that its pieces are known from its type
pub record HasNoLine (ps : List Piece) : Type 0 where
  pub none : list_any is_newline_piece (read_pieces ps) ≡ false

joined_none : (ps qs : List Piece) → list_any is_newline_piece (read_pieces ps) ≡ false → list_any is_newline_piece (read_pieces qs) ≡ false → list_any is_newline_piece (read_pieces (ps ++ qs)) ≡ false
joined_none [] qs a b = b
joined_none (p ∷ ps) qs a b =
    let h = or_parts (is_line p.kind) (list_any is_newline_piece (read_pieces ps)) a in
    or_from (is_line p.kind) (list_any is_newline_piece (read_pieces (ps ++ qs))) h.0 (joined_none ps qs h.1 b)

pub join : {ps qs : List Piece} → HasNoLine ps → HasNoLine qs → HasNoLine (ps ++ qs)
join {ps} {qs} a b = record { none = joined_none ps qs a.none b.none }

nothing : HasNoLine []
nothing = record { none = refl }

one : (gap : Gap) (kind : Kind) (text : List ℕ) → is_line kind ≡ false → HasNoLine (piece gap kind text ∷ [])
one gap kind text h = record { none = or_from (is_line kind) false h refl }

commas : (b : Bool) → HasNoLine (comma_if b)
commas true = one Closed Operator (codes ",") refl
commas false = nothing

comment_texts : (level : ℕ) (texts : List (List ℕ)) → HasNoLine (comments level texts)
comment_texts level [] = nothing
comment_texts level (text ∷ texts) = join (one (Line level) Comment text refl) (comment_texts level texts)

pub suffix_no_line : (suffix : Option (List ℕ)) → HasNoLine (suffix_piece suffix)
suffix_no_line None = nothing
suffix_no_line (Some text) = one Apart Comment text refl

mutual
  item_no_line : (c : Choice) (level : ℕ) (gap : Gap) (x : Item) → IsLegibleItem x → HasNoLine (item_by c level gap x)
  item_no_line c level gap (leaf kind text) h = one gap kind (text_of c kind text) (leaf_line kind text h.1)
  item_no_line c level gap (group kind segs one_comma end) h =
      let comma = has_commas kind one_comma (count segs) in
      let last : List Piece = piece (Line level) Operator (closing kind) ∷ [] in
      let close : List Piece = piece Closed Operator (closing kind) ∷ [] in
      join (one gap Operator (opening kind) refl)
      (either_way HasNoLine (breaks_by c (is_broken kind segs end (segs_hold segs))) (broken_by (inside c) (level + 1) kind comma segs ++ (comments (level + 1) end ++ last)) (flat_by (inside c) level kind true segs ++ (comma_if one_comma ++ close))
      (join (broken_no_line (inside c) (level + 1) kind comma segs h.0) (join (comment_texts (level + 1) end) (one (Line level) Operator (closing kind) refl)))
      (join (flat_no_line (inside c) level kind true segs h.0) (join (commas one_comma) (one Closed Operator (closing kind) refl))))

  pub items_no_line : (c : Choice) (level : ℕ) (within : Option GroupKind) (first : Gap) (left : Edge) (xs : Items) → AreLegible within left xs → HasNoLine (items_by c level within first left xs)
  items_no_line c level within first left no_items h = nothing
  items_no_line c level within first left (item x xs) h =
      join (item_no_line (inside c) level (gap_before first left x) x h.1) (items_no_line (following c) level within first (edge_after within left x) xs h.2)

  broken_no_line : (c : Choice) (level : ℕ) (kind : GroupKind) (comma : Bool) (ss : Segs) → AreLegibleSegs kind ss → HasNoLine (broken_by c level kind comma ss)
  broken_no_line c level kind comma no_segs h = nothing
  broken_no_line c level kind comma (seg before nodes suffix ss) h =
      join (comment_texts level before)
      (join (items_no_line (inside c) level (Some kind) (Line level) Start nodes h.2) (join (commas comma) (join (suffix_no_line suffix) (broken_no_line (following c) level kind comma ss h.4))))

  flat_no_line : (c : Choice) (level : ℕ) (kind : GroupKind) (first : Bool) (ss : Segs) → AreLegibleSegs kind ss → HasNoLine (flat_by c level kind first ss)
  flat_no_line c level kind first no_segs h = nothing
  flat_no_line c level kind true (seg before nodes suffix ss) h =
      join (items_no_line (inside c) level (Some kind) Closed Start nodes h.2) (flat_no_line (following c) level kind false ss h.4)
  flat_no_line c level kind false (seg before nodes suffix ss) h =
      join (one Closed Operator (codes ",") refl) (join (items_no_line (inside c) level (Some kind) Space Start nodes h.2) (flat_no_line (following c) level kind false ss h.4))

-- so of the layout
pub layout_no_line : (s : Statement) → IsLegible s → HasNoLine (items_pieces Broken 0 None Closed Start (items_of s.nodes))
layout_no_line s h = subst HasNoLine (items_own 0 None Closed Start (items_of s.nodes)) (items_no_line own 0 None Closed Start (items_of s.nodes) h.nodes)
