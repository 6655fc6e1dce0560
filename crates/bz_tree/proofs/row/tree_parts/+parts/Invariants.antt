use Rattle.std.proofs.Common.{◌≡◌, ◌++◌, drop, map}
use Rattle.bz_tree.specs.Tree.{items_of, segs_of}
use Rattle.bz_tree.specs.View.{nodes_view, segs_view}
use Rattle.bz_tree.specs.Rows.{items_parts, segs_parts, part_view}
use Rattle.bz_tree.proofs.row.tree_parts.+parts.Given as goal

abbrev pub invariant-push_nodes-loop-node : goal.invariant-push_nodes-loop-node
invariant-push_nodes-loop-node g l = map part_view l.parts.items ++ items_parts (items_of (nodes_view (drop l.node-index l.nodes))) ≡ map part_view l.initial.parts.items ++ items_parts (items_of (nodes_view l.nodes))

abbrev pub invariant-push_group-loop-seg : goal.invariant-push_group-loop-seg
invariant-push_group-loop-seg g l = map part_view l.parts.items ++ segs_parts (segs_of (segs_view (drop l.seg-index l.seg-items))) ≡ map part_view l.initial.parts.items ++ segs_parts (segs_of (segs_view l.seg-items))
