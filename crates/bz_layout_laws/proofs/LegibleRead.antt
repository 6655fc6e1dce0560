-- A statement is legible whose texts are of their kinds, and whose nodes may follow each other.
use Rattle.std.proofs.Common.{Option, Some, None}
use Rattle.bz_tree.specs.declared.tree.GroupKind.{GroupKind}
use Rattle.bz_tree.specs.Tree.{Item, leaf, group, Items, no_items, item, Segs, no_segs, seg, Statement, items_of}
use Rattle.bz_layout.specs.declared.spacing.Edge.{Edge}
use Rattle.bz_layout.specs.declared.spacing.Edge.TheVariants.{Start}
use Rattle.bz_layout.specs.Walked.{edge_after}
use Rattle.bz_layout_laws.specs.Following.{MayStandIn, MayFollow, SegsMayFollow, NodesMayFollow}
use Rattle.bz_layout_laws.specs.Legible.{IsLegibleItem, AreLegible, AreLegibleSegs, IsLegible}
use Rattle.bz_layout_laws.specs.TextsOfKinds.{HasText, HaveTexts, SegsHaveTexts, HasTexts}

mutual
  legible_item : (x : Item) → HasText x → MayStandIn x → IsLegibleItem x
  legible_item (leaf kind text) h may = h
  legible_item (group kind segs one_comma end) h may = (legible_segs kind segs h.0 may, h.1)

  legible_nodes : (within : Option GroupKind) (left : Edge) (xs : Items) → HaveTexts xs → MayFollow within left xs → AreLegible within left xs
  legible_nodes within left no_items h may = tt
  legible_nodes within left (item x xs) h may = (may.0, legible_item x h.0 may.1, legible_nodes within (edge_after within left x) xs h.1 may.2)

  legible_segs : (kind : GroupKind) (ss : Segs) → SegsHaveTexts ss → SegsMayFollow kind ss → AreLegibleSegs kind ss
  legible_segs kind no_segs h may = tt
  legible_segs kind (seg before nodes suffix ss) h may = (h.0, h.1, legible_nodes (Some kind) Start nodes h.2 may.0, h.3, legible_segs kind ss h.4 may.1)

pub legible : (s : Statement) → HasTexts s → NodesMayFollow s → IsLegible s
legible s h may = record { some = h.some; before = h.before; nodes = legible_nodes None Start (items_of s.nodes) h.nodes may; suffix = h.suffix }
