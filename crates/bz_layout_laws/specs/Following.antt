-- What may follow what, as `IsLegible` says it, at each node of a statement.
use Rattle.std.specs.Prelude.{◌≡◌, true, Option}
use Rattle.std.specs.Prelude.Option.{Some, None}
use Rattle.bz_tree.specs.declared.tree.GroupKind.{GroupKind}
use Rattle.bz_tree.specs.Tree.{Item, leaf, group, Items, no_items, item, Segs, no_segs, seg, Statement, items_of}
use Rattle.bz_layout.specs.declared.spacing.Edge.{Edge}
use Rattle.bz_layout.specs.declared.spacing.Edge.TheVariants.{Start}
use Rattle.bz_layout.specs.Walked.{edge_after}
use Rattle.bz_layout_laws.specs.Legible.{may_follow}

abbrev mutual
  pub MayStandIn : Item → Type 0
  MayStandIn (leaf kind text) = Unit {0}
  MayStandIn (group kind segs one_comma end) = SegsMayFollow kind segs

  pub MayFollow : Option GroupKind → Edge → Items → Type 0
  MayFollow within left no_items = Unit {0}
  MayFollow within left (item x xs) = (may_follow left x ≡ true) × MayStandIn x × MayFollow within (edge_after within left x) xs

  pub SegsMayFollow : GroupKind → Segs → Type 0
  SegsMayFollow kind no_segs = Unit {0}
  SegsMayFollow kind (seg before nodes suffix ss) = MayFollow (Some kind) Start nodes × SegsMayFollow kind ss

abbrev pub NodesMayFollow : Statement → Type 0
NodesMayFollow s = MayFollow None Start (items_of s.nodes)
