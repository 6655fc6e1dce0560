-- What may follow what, of nodes that are joined.
use Rattle.std.proofs.Common.{◌≡◌, ◌&&◌, Bool, true, false, not, refl, ap, ◌∙◌}
use Rattle.std.specs.Prelude.{Option}
use Rattle.bz_tree.specs.declared.tree.GroupKind.{GroupKind}
use Rattle.bz_tree.specs.private.Productions.{join}
use Rattle.bz_tree.specs.Tree.{Item, Items, no_items, item}
use Rattle.bz_layout.specs.declared.spacing.Edge.{Edge}
use Rattle.bz_layout.specs.Walked.{edge_after, no_space_after}
use Rattle.bz_layout_laws.specs.Following.{MayStandIn, MayFollow}
use Rattle.bz_layout_laws.specs.Legible.{begins_later, may_follow}
use Rattle.bz_layout_laws.specs.TextsOfKinds.{HaveTexts}
use Rattle.bz_layout_laws.proofs.Roles.{StandsApart, StandsAlone}

-- what nodes leave to the one after them
abbrev pub edge_over : Option GroupKind → Edge → Items → Edge
edge_over within left no_items = left
edge_over within left (item x xs) = edge_over within (edge_after within left x) xs

-- nodes that may stand after whatever stands before them
pub record FollowAny (xs : Items) : Type 0 where
  pub each : (within : Option GroupKind) (left : Edge) → MayFollow within left xs

-- such nodes, directly after the last of which nothing stands but by a mark of its own
pub record FollowAlone (xs : Items) : Type 0 where
  pub any : FollowAny xs
  pub rests : (within : Option GroupKind) (left : Edge) → no_space_after (edge_over within left xs) ≡ false

-- the same of nodes that stand after an operand
pub record FollowOperand (xs : Items) : Type 0 where
  pub follow : (within : Option GroupKind) (left : Edge) → no_space_after left ≡ false → MayFollow within left xs
  pub rests : (within : Option GroupKind) (left : Edge) → no_space_after left ≡ false → no_space_after (edge_over within left xs) ≡ false

pub follow_none : FollowAny no_items
follow_none = record { each = λ within left. tt }

pub operand_alone : FollowOperand no_items
operand_alone = record { follow = λ within left h. tt; rests = λ within left h. h }

-- one node more
apart_follows : (left : Edge) (x : Item) → begins_later x ≡ false → may_follow left x ≡ true
apart_follows left x h = ap (λ b. not (no_space_after left && b)) h ∙ by (no_space_after left)
  where
    by : (b : Bool) → not (b && false) ≡ true
    by true = refl
    by false = refl

resting_follows : (left : Edge) (x : Item) → no_space_after left ≡ false → may_follow left x ≡ true
resting_follows left x h = ap (λ b. not (b && begins_later x)) h

pub item_any : {x : Item} {xs : Items} → StandsApart x → FollowAny xs → FollowAny (item x xs)
item_any {x} {xs} node rest = record { each = λ within left. (apart_follows left x node.apart, node.inside, rest.each within (edge_after within left x)) }

pub item_alone : {x : Item} {xs : Items} → StandsApart x → FollowAlone xs → FollowAlone (item x xs)
item_alone {x} {xs} node rest = record { any = item_any node rest.any; rests = λ within left. rest.rests within (edge_after within left x) }

pub item_operand : {x : Item} {xs : Items} → StandsAlone x → FollowOperand xs → FollowAlone (item x xs)
item_operand {x} {xs} alone rest = record {
  any = record { each = λ within left. (apart_follows left x alone.node.apart, alone.node.inside, rest.follow within (edge_after within left x) (alone.rests within left)) };
  rests = λ within left. rest.rests within (edge_after within left x) (alone.rests within left);
}

pub item_after : {x : Item} {xs : Items} → MayStandIn x → FollowAlone xs → FollowOperand (item x xs)
item_after {x} {xs} inside rest = record {
  follow = λ within left h. (resting_follows left x h, inside, rest.any.each within (edge_after within left x));
  rests = λ within left h. rest.rests within (edge_after within left x);
}

pub any_operand : {xs : Items} → FollowAlone xs → FollowOperand xs
any_operand alone = record { follow = λ within left h. alone.any.each within left; rests = λ within left h. alone.rests within left }

-- nodes joined
join_may : (within : Option GroupKind) (left : Edge) (a b : Items) → MayFollow within left a → MayFollow within (edge_over within left a) b → MayFollow within left (join a b)
join_may within left no_items b first second = second
join_may within left (item x xs) b first second = (first.0, first.1, join_may within (edge_after within left x) xs b first.2 second)

join_edge : (within : Option GroupKind) (left : Edge) (a b : Items) → edge_over within left (join a b) ≡ edge_over within (edge_over within left a) b
join_edge within left no_items b = refl
join_edge within left (item x xs) b = join_edge within (edge_after within left x) xs b

pub join_any : {a b : Items} → FollowAny a → FollowAny b → FollowAny (join a b)
join_any {a} {b} first second = record { each = λ within left. join_may within left a b (first.each within left) (second.each within (edge_over within left a)) }

pub join_alone : {a b : Items} → FollowAny a → FollowAlone b → FollowAlone (join a b)
join_alone {a} {b} first second = record {
  any = join_any first second.any;
  rests = λ within left. ap no_space_after (join_edge within left a b) ∙ second.rests within (edge_over within left a);
}

pub join_operand : {a b : Items} → FollowAlone a → FollowOperand b → FollowAlone (join a b)
join_operand {a} {b} first second = record {
  any = record { each = λ within left. join_may within left a b (first.any.each within left) (second.follow within (edge_over within left a) (first.rests within left)) };
  rests = λ within left. ap no_space_after (join_edge within left a b) ∙ second.rests within (edge_over within left a) (first.rests within left);
}

-- texts of nodes that are joined
pub texts_left : (a b : Items) → HaveTexts (join a b) → HaveTexts a
texts_left no_items b h = tt
texts_left (item x xs) b h = (h.0, texts_left xs b h.1)

pub texts_right : (a b : Items) → HaveTexts (join a b) → HaveTexts b
texts_right no_items b h = h
texts_right (item x xs) b h = texts_right xs b h.1
