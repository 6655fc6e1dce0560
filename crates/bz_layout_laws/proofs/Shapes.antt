-- What parsing gives has the shapes of its kinds; and the layout's own way to stand drops no comment.
use Rattle.std.proofs.Common.{◌≡◌, ℕ, ◌&&◌, ◌||◌, List, [], ◌∷◌, Bool, true, false, ap}
use Rattle.std.specs.Prelude.{nat_le}
use Rattle.std.proofs.lemmas.Bool.{or_parts, false≢true}
use Rattle.bz_token.specs.Common.{is_filled}
use Rattle.bz_tree.specs.declared.tree.GroupKind.{GroupKind}
use Rattle.bz_tree.specs.declared.tree.GroupKind.TheVariants.{Call, RuleCall}
use Rattle.bz_tree.specs.declared.tree.kinds.Preceding.{Preceding}
use Rattle.bz_tree.specs.Brackets.{is_paren}
use Rattle.bz_tree.specs.Kinds.{after_item}
use Rattle.bz_tree.specs.Tree.{Item, leaf, group, Items, no_items, item, Segs, no_segs, seg, items_of}
use Rattle.bz_layout.specs.Broken.{breaks_by_count}
use Rattle.bz_layout.specs.Walked.{count, have_comments, is_broken, segs_hold}
use Rattle.bz_layout_laws.specs.FreeLayout.{own, Stands, Stand, SegsStand}
use Rattle.bz_layout_laws.specs.Inside.{HasShape}
use Rattle.bz_layout_laws.specs.Parsed.{HasKind, HaveKinds, SegsHaveKinds, plain_call, plain_calls}
use Rattle.bz_layout_laws.proofs.FreeLexemes.{HasShapes, HaveShapes, SegsHaveShapes}

mutual
  has_shapes : (b : Preceding) (x : Item) → HasKind b x → HasShapes x
  has_shapes b (leaf kind text) kinds = tt
  has_shapes b (group kind segs one_comma end) kinds = (kinds.2, segs_have_shapes _ segs kinds.3)

  have_shapes : (one : Bool) (b : Preceding) (xs : Items) → HaveKinds one b xs → HaveShapes xs
  have_shapes one b no_items kinds = tt
  have_shapes one b (item x xs) kinds = (has_shapes b x kinds.1, have_shapes one (after_item x) xs kinds.2)

  segs_have_shapes : (one : Bool) (ss : Segs) → SegsHaveKinds one ss → SegsHaveShapes ss
  segs_have_shapes one no_segs kinds = tt
  segs_have_shapes one (seg before nodes suffix ss) kinds = (have_shapes one _ nodes kinds.0, segs_have_shapes one ss kinds.1)

-- the call of a rule has the shape of a call
pub rule_shape : (segs : Segs) (one_comma : Bool) → HasShape Call segs one_comma → HasShape RuleCall segs one_comma
rule_shape segs one_comma h = record { one = λ e. absurd (false≢true e); comma = λ e. absurd (false≢true (ap is_paren (h.comma e).0)) }

top_has_shapes : (b : Preceding) (x : Item) → HasKind b (plain_call x) → HasShapes x
top_has_shapes b (leaf kind text) kinds = tt
top_has_shapes b (group RuleCall segs one_comma end) kinds = (rule_shape segs one_comma kinds.2, segs_have_shapes _ segs kinds.3)
top_has_shapes b (group kind segs one_comma end) kinds = (kinds.2, segs_have_shapes _ segs kinds.3)

pub tops_have_shapes : (b : Preceding) (xs : List Item) → HaveKinds true b (items_of (plain_calls xs)) → HaveShapes (items_of xs)
tops_have_shapes b [] kinds = tt
tops_have_shapes b (x ∷ xs) kinds = (top_has_shapes b x kinds.1, tops_have_shapes (after_item (plain_call x)) xs kinds.2)

-- a group with comments is broken
not_broken : (kind : GroupKind) (segs : Segs) (end : List (List ℕ)) (inside : Bool) → is_broken kind segs end inside ≡ false → (is_filled end || have_comments segs) ≡ false
not_broken kind segs end inside e =
    (or_parts (is_filled end || have_comments segs) (breaks_by_count kind (count segs)) (or_parts (is_filled end || have_comments segs || breaks_by_count kind (count segs)) (nat_le 2 (count segs) && inside) e).0).0

mutual
  item_stands : (x : Item) → Stands own x
  item_stands (leaf kind text) = tt
  item_stands (group kind segs one_comma end) = (not_broken kind segs end (segs_hold segs), segs_stand segs)

  pub own_stands : (xs : Items) → Stand own xs
  own_stands no_items = tt
  own_stands (item x xs) = (item_stands x, own_stands xs)

  segs_stand : (ss : Segs) → SegsStand own ss
  segs_stand no_segs = tt
  segs_stand (seg before nodes suffix ss) = (own_stands nodes, segs_stand ss)
