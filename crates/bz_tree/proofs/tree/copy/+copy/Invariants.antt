use Rattle.std.proofs.Common.{◌≡◌, take, map}
use Rattle.bz_tree.specs.View.{node_view, seg_view}
use Rattle.bz_tree.specs.Places.{node_spelling, seg_spelling}
use Rattle.bz_tree.proofs.tree.copy.+copy.Given as goal

abbrev pub invariant-copy_nodes-loop-node : goal.invariant-copy_nodes-loop-node
invariant-copy_nodes-loop-node l = record {
  same : map node_view l.copies.items ≡ map node_view (take l.node-index l.nodes);
  places : map node_spelling l.copies.items ≡ map node_spelling (take l.node-index l.nodes);
}

abbrev pub invariant-copy_group-loop-seg : goal.invariant-copy_group-loop-seg
invariant-copy_group-loop-seg l = record {
  same : map seg_view l.segs.items ≡ map seg_view (take l.seg-index l.seg-items);
  places : map seg_spelling l.segs.items ≡ map seg_spelling (take l.seg-index l.seg-items);
}
