-- The kinds, the class and the shapes that parsing gives: by what stands before a bracket and in it.
use Rattle.std.specs.Prelude.{◌≡◌, List, [], map, Bool, true, false, ◌||◌, if◌then◌else◌, None}
use Rattle.bz_tree.specs.declared.tree.GroupKind.{GroupKind}
use Rattle.bz_tree.specs.declared.tree.GroupKind.TheVariants.{Call, RuleCall}
use Rattle.bz_tree.specs.declared.tree.kinds.Shape.{Shape}
use Rattle.bz_tree.specs.declared.tree.kinds.Mark.{Mark}
use Rattle.bz_tree.specs.declared.tree.kinds.Mark.TheVariants.{Comma}
use Rattle.bz_tree.specs.declared.tree.kinds.Preceding.{Preceding}
use Rattle.bz_tree.specs.declared.tree.kinds.Preceding.TheVariants.{Other}
use Rattle.bz_tree.specs.Kinds.{kind_mark, group_kind, is_one, after_item}
use Rattle.bz_tree.specs.Brackets.{is_for_item}
use Rattle.bz_tree.specs.Statement.{class_of}
use Rattle.bz_tree.specs.Elements.{rule_call}
use Rattle.bz_tree.specs.Tree.{Item, leaf, group, Items, no_items, item, Segs, no_segs, seg, Statement, items_of, is_rule}
use Rattle.bz_layout_laws.specs.Inside.{HasShape}
use Rattle.bz_token.specs.Common.{is_filled}

abbrev pub is_comma_mark : Mark → Bool
is_comma_mark Comma = true
is_comma_mark _ = false

-- a comma as a node: in a bracket of one segment, and outside brackets
abbrev pub is_comma : Item → Bool
is_comma (leaf kind text) = is_comma_mark (kind_mark kind text)
is_comma (group kind segs one_comma end) = false

-- the keyword `for` stands before the first comma
abbrev pub nodes_have_for : Items → Bool
nodes_have_for no_items = false
nodes_have_for (item x xs) = if is_comma x then false else (is_for_item x || nodes_have_for xs)

abbrev pub have_for : Segs → Bool
have_for no_segs = false
have_for (seg before nodes suffix ss) = nodes_have_for nodes

abbrev mutual
  -- the kind of a group is that of a bracket that stands after `b`
  pub HasKind : Preceding → Item → Type 0
  HasKind b (leaf kind text) = Unit {0}
  HasKind b (group kind segs one_comma end) =
      (shape : Shape) × (kind ≡ group_kind shape b (have_for segs)) × HasShape kind segs one_comma × SegsHaveKinds (is_one kind) segs

  -- nodes after `b`; commas are among them where they stand in one segment
  pub HaveKinds : Bool → Preceding → Items → Type 0
  HaveKinds one b no_items = Unit {0}
  HaveKinds one b (item x xs) = (is_comma x ≡ true → one ≡ true) × HasKind b x × HaveKinds one (after_item x) xs

  pub SegsHaveKinds : Bool → Segs → Type 0
  SegsHaveKinds one no_segs = Unit {0}
  SegsHaveKinds one (seg before nodes suffix ss) = HaveKinds one Other nodes × SegsHaveKinds one ss

-- the call of a rule as one that is none
abbrev pub plain_kind : GroupKind → GroupKind
plain_kind RuleCall = Call
plain_kind kind = kind

abbrev pub plain_call : Item → Item
plain_call (leaf kind text) = leaf kind text
plain_call (group kind segs one_comma end) = group (plain_kind kind) segs one_comma end

abbrev pub plain_calls : List Item → List Item
plain_calls xs = map plain_call xs

-- kinds and class of a statement; where it has no nodes it is comment lines alone, one at least
pub record IsParsed (s : Statement) : Type 0 where
  pub kinds : HaveKinds true Other (items_of (plain_calls s.nodes))
  pub rule : s.nodes ≡ (if is_rule (plain_calls s.nodes) then rule_call (plain_calls s.nodes) else plain_calls s.nodes)
  pub class : s.class ≡ class_of s.nodes
  pub alone : s.nodes ≡ [] → s.suffix ≡ None
  pub lines : s.nodes ≡ [] → is_filled s.before ≡ true
