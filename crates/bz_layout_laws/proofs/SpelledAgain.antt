-- Strings that are spelled as they are written are written so again.
use Rattle.std.proofs.Common.{◌≡◌, ℕ, ◌+◌, List, [], ◌∷◌, Bool, true, false, Option, Some, map, refl, ap, sym, ◌∙◌}
use Rattle.bz_token.specs.declared.token.Kind.TheVariants.{String}
use Rattle.bz_tree.specs.declared.tree.GroupKind.{GroupKind}
use Rattle.bz_tree.specs.Tree.{Item, leaf, group, Items, no_items, item, Segs, no_segs, seg, Statement, items_of}
use Rattle.bz_layout.specs.declared.spacing.Edge.{Edge}
use Rattle.bz_layout.specs.declared.spacing.Edge.TheVariants.{Start, Operator, Operand}
use Rattle.bz_layout.specs.declared.spacing.Gap.{Gap}
use Rattle.bz_layout.specs.declared.broken.Style.{Style}
use Rattle.bz_layout.specs.Walked.{no_space_before, edge_after, gap_before, count, have_comments, holds_broken, items_hold, segs_hold, is_broken, item_pieces, items_pieces, broken_segs, flat_segs}
use Rattle.bz_layout.specs.Walked as walked
use Rattle.bz_layout.proofs.SameLayout.{layout_is}
use Rattle.bz_layout.specs.Pieces.{piece, bytes_of}
use Rattle.bz_layout.specs.Layout.{layout, layout_text}
use Rattle.bz_layout_laws.specs.Lineless.{lineless}
use Rattle.bz_layout_laws.specs.Spelled.{spelled, spelled_items, spelled_segs, spelled_statement}
use Rattle.bz_layout_laws.proofs.Respelled.{respelled_once}

closes_spelled : (x : Item) → no_space_before (spelled x) ≡ no_space_before x
closes_spelled (leaf String text) = refl
closes_spelled (leaf _ text) = refl
closes_spelled (group kind segs one_comma end) = refl

edge_spelled : (within : Option GroupKind) (left : Edge) (x : Item) → edge_after within left (spelled x) ≡ edge_after within left x
edge_spelled within left (leaf String text) = refl
edge_spelled within left (leaf _ text) = refl
edge_spelled within left (group kind segs one_comma end) = refl

gap_spelled : (first : Gap) (left : Edge) (x : Item) → gap_before first left (spelled x) ≡ gap_before first left x
gap_spelled first Operator x = rw (closes_spelled x) refl
gap_spelled first Operand x = rw (closes_spelled x) refl
gap_spelled first _ x = refl

count_spelled : (ss : Segs) → count (spelled_segs ss) ≡ count ss
count_spelled no_segs = refl
count_spelled (seg before nodes suffix ss) = rw (count_spelled ss) refl

comments_spelled : (ss : Segs) → have_comments (spelled_segs ss) ≡ have_comments ss
comments_spelled no_segs = refl
comments_spelled (seg before nodes suffix ss) = rw (comments_spelled ss) refl

broken_spelled : (kind : GroupKind) (ss : Segs) (end : List (List ℕ)) (inside : Bool) → is_broken kind (spelled_segs ss) end inside ≡ is_broken kind ss end inside
broken_spelled kind ss end inside = rw (count_spelled ss, comments_spelled ss) refl

mutual
  holds_spelled : (x : Item) → holds_broken (spelled x) ≡ holds_broken x
  holds_spelled (leaf kind text) = refl
  holds_spelled (group kind segs one_comma end) = rw (segs_hold_spelled segs, broken_spelled kind segs end (segs_hold segs)) refl

  items_hold_spelled : (xs : Items) → items_hold (spelled_items xs) ≡ items_hold xs
  items_hold_spelled no_items = refl
  items_hold_spelled (item x xs) = rw (holds_spelled x, items_hold_spelled xs) refl

  segs_hold_spelled : (ss : Segs) → segs_hold (spelled_segs ss) ≡ segs_hold ss
  segs_hold_spelled no_segs = refl
  segs_hold_spelled (seg before nodes suffix ss) = rw (items_hold_spelled nodes, segs_hold_spelled ss) refl

mutual
  item_spelled : (style : Style) (level : ℕ) (gap : Gap) (x : Item) → item_pieces style level gap (spelled x) ≡ item_pieces style level gap x
  item_spelled style level gap (leaf kind text) = ap (λ t. piece gap kind t ∷ []) (respelled_once kind text)
  item_spelled style level gap (group kind segs one_comma end) =
      rw (segs_hold_spelled segs, broken_spelled kind segs end (segs_hold segs), count_spelled segs, broken_segs_spelled style (level + 1) kind _ segs, flat_segs_spelled style level kind true segs) refl

  items_spelled : (style : Style) (level : ℕ) (within : Option GroupKind) (first : Gap) (left : Edge) (xs : Items) → items_pieces style level within first left (spelled_items xs) ≡ items_pieces style level within first left xs
  items_spelled style level within first left no_items = refl
  items_spelled style level within first left (item x xs) = rw (gap_spelled first left x, edge_spelled within left x, item_spelled style level (gap_before first left x) x, items_spelled style level within first (edge_after within left x) xs) refl

  broken_segs_spelled : (style : Style) (level : ℕ) (kind : GroupKind) (comma : Bool) (ss : Segs) → broken_segs style level kind comma (spelled_segs ss) ≡ broken_segs style level kind comma ss
  broken_segs_spelled style level kind comma no_segs = refl
  broken_segs_spelled style level kind comma (seg before nodes suffix ss) = rw (items_spelled style level (Some kind) _ Start nodes, broken_segs_spelled style level kind comma ss) refl

  flat_segs_spelled : (style : Style) (level : ℕ) (kind : GroupKind) (first : Bool) (ss : Segs) → flat_segs style level kind first (spelled_segs ss) ≡ flat_segs style level kind first ss
  flat_segs_spelled style level kind first no_segs = refl
  flat_segs_spelled style level kind first (seg before nodes suffix ss) = rw (items_spelled style level (Some kind) _ Start nodes, items_spelled style level (Some kind) _ Start nodes, flat_segs_spelled style level kind false ss) refl

list_spelled : (xs : List Item) → items_of (map spelled xs) ≡ spelled_items (items_of xs)
list_spelled [] = refl
list_spelled (x ∷ xs) = ap (item (spelled x)) (list_spelled xs)

walk_spelled : (s : Statement) → walked.layout (spelled_statement s) ≡ walked.layout s
walk_spelled s = rw (list_spelled s.nodes, items_spelled _ _ _ _ _ (items_of s.nodes)) refl

pub layout_spelled : (s : Statement) → layout (spelled_statement s) ≡ layout s
layout_spelled s = layout_is (spelled_statement s) ∙ walk_spelled s ∙ sym (layout_is s)

pub written_again : (s t : Statement) → lineless t ≡ lineless (spelled_statement s) → layout_text t ≡ layout_text s
written_again s t e = ap layout_text e ∙ ap bytes_of (layout_spelled s)
