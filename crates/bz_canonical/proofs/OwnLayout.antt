-- As the layout has it: the text of the layout, with each string as it is spelled.
use Rattle.std.proofs.Common.{◌≡◌, ℕ, ◌+◌, List, [], ◌∷◌, ◌++◌, Bool, true, false, ◌||◌, refl, ap, ◌∙◌}
use Rattle.std.specs.Prelude.{codes, Option, Some, if◌then◌else◌}
use Rattle.bz_token.specs.declared.token.Kind.TheVariants.{Operator}
use Rattle.bz_tree.specs.declared.tree.GroupKind.{GroupKind}
use Rattle.bz_tree.specs.Tree.{Item, leaf, group, Items, no_items, item, Segs, no_segs, seg}
use Rattle.bz_layout.specs.declared.spacing.Edge.{Edge}
use Rattle.bz_layout.specs.declared.spacing.Edge.TheVariants.{Start}
use Rattle.bz_layout.specs.declared.spacing.Gap.{Gap}
use Rattle.bz_layout.specs.declared.spacing.Gap.TheVariants.{Closed, Space, Line}
use Rattle.bz_layout.specs.declared.broken.Style.TheVariants.{Broken}
use Rattle.bz_layout.specs.Walked.{count, have_comments, is_broken, segs_hold, broken_segs, closing, flat_segs, item_pieces, items_pieces, opening, edge_after, gap_before}
use Rattle.bz_layout.specs.Layout.{has_commas}
use Rattle.bz_layout.specs.Pieces.{Piece, piece, comma_if, comments, suffix_piece}
use Rattle.bz_layout_laws.specs.FreeLayout.{own, Stand, Stands, SegsStand, broken_by, flat_by, item_by, item_spelled_by, items_by, items_spelled_by, segs_spelled_by}
use Rattle.bz_layout_laws.specs.Spelled.{spelled, spelled_items, spelled_segs}
use Rattle.bz_token.specs.Common.{is_filled}

mutual
  pub own_item : (level : ℕ) (gap : Gap) (x : Item) → item_by own level gap x ≡ item_pieces Broken level gap x
  own_item level gap (leaf kind text) = refl
  own_item level gap (group kind segs one_comma end) =
      ap (λ (P : List Piece). piece gap Operator (opening kind) ∷ (if is_broken kind segs end (segs_hold segs) then P ++ (comments (level + 1) end ++ piece (Line level) Operator (closing kind) ∷ []) else flat_by own level kind true segs ++ (comma_if one_comma ++ piece Closed Operator (closing kind) ∷ [])))
      (own_broken (level + 1) kind (has_commas kind one_comma (count segs)) segs)
      ∙ ap (λ (P : List Piece). piece gap Operator (opening kind) ∷ (if is_broken kind segs end (segs_hold segs) then broken_segs Broken (level + 1) kind (has_commas kind one_comma (count segs)) segs ++ (comments (level + 1) end ++ piece (Line level) Operator (closing kind) ∷ []) else P ++ (comma_if one_comma ++ piece Closed Operator (closing kind) ∷ [])))
      (own_flat level kind true segs)

  pub own_items : (level : ℕ) (within : Option GroupKind) (first : Gap) (left : Edge) (xs : Items) → items_by own level within first left xs ≡ items_pieces Broken level within first left xs
  own_items level within first left no_items = refl
  own_items level within first left (item x xs) =
      ap (λ (P : List Piece). P ++ items_by own level within first (edge_after within left x) xs) (own_item level (gap_before first left x) x)
      ∙ ap (λ (P : List Piece). item_pieces Broken level (gap_before first left x) x ++ P) (own_items level within first (edge_after within left x) xs)

  pub own_broken : (level : ℕ) (kind : GroupKind) (comma : Bool) (ss : Segs) → broken_by own level kind comma ss ≡ broken_segs Broken level kind comma ss
  own_broken level kind comma no_segs = refl
  own_broken level kind comma (seg before nodes suffix ss) =
      ap (λ (P : List Piece). comments level before ++ (P ++ (comma_if comma ++ (suffix_piece suffix ++ broken_by own level kind comma ss)))) (own_items level (Some kind) (Line level) Start nodes)
      ∙ ap (λ (P : List Piece). comments level before ++ (items_pieces Broken level (Some kind) (Line level) Start nodes ++ (comma_if comma ++ (suffix_piece suffix ++ P)))) (own_broken level kind comma ss)

  pub own_flat : (level : ℕ) (kind : GroupKind) (first : Bool) (ss : Segs) → flat_by own level kind first ss ≡ flat_segs Broken level kind first ss
  own_flat level kind first no_segs = refl
  own_flat level kind true (seg before nodes suffix ss) =
      ap (λ (P : List Piece). P ++ flat_by own level kind false ss) (own_items level (Some kind) Closed Start nodes)
      ∙ ap (λ (P : List Piece). items_pieces Broken level (Some kind) Closed Start nodes ++ P) (own_flat level kind false ss)
  own_flat level kind false (seg before nodes suffix ss) =
      ap (λ (P : List Piece). (piece Closed Operator (codes ",") ∷ P) ++ flat_by own level kind false ss) (own_items level (Some kind) Space Start nodes)
      ∙ ap (λ (P : List Piece). (piece Closed Operator (codes ",") ∷ items_pieces Broken level (Some kind) Space Start nodes) ++ P) (own_flat level kind false ss)

no_comments : (e c t x : Bool) → (e || c || t || x) ≡ false → (e || c) ≡ false
no_comments true c t x none = none
no_comments false true t x none = none
no_comments false false t x none = refl

mutual
  own_stands : (x : Item) → Stands own x
  own_stands (leaf kind text) = tt
  own_stands (group kind segs one_comma end) = (λ none. no_comments (is_filled end) (have_comments segs) _ _ none, own_segs_stand segs)

  pub own_stand : (xs : Items) → Stand own xs
  own_stand no_items = tt
  own_stand (item x xs) = (own_stands x, own_stand xs)

  pub own_segs_stand : (ss : Segs) → SegsStand own ss
  own_segs_stand no_segs = tt
  own_segs_stand (seg before nodes suffix ss) = (own_stand nodes, own_segs_stand ss)

mutual
  own_spelled_item : (x : Item) → item_spelled_by own x ≡ spelled x
  own_spelled_item (leaf kind text) = refl
  own_spelled_item (group kind segs one_comma end) = ap (λ ss. group kind ss one_comma end) (own_spelled_segs segs)

  pub own_spelled : (xs : Items) → items_spelled_by own xs ≡ spelled_items xs
  own_spelled no_items = refl
  own_spelled (item x xs) = ap (λ y. item y (items_spelled_by own xs)) (own_spelled_item x) ∙ ap (λ ys. item (spelled x) ys) (own_spelled xs)

  pub own_spelled_segs : (ss : Segs) → segs_spelled_by own ss ≡ spelled_segs ss
  own_spelled_segs no_segs = refl
  own_spelled_segs (seg before nodes suffix ss) = ap (λ ys. seg before ys suffix (segs_spelled_by own ss)) (own_spelled nodes) ∙ ap (λ tt. seg before (spelled_items nodes) suffix tt) (own_spelled_segs ss)
