use Rattle.std.proofs.Common.{◌≡◌, drop}
use Rattle.bz_tree.specs.Tree.{items_of, segs_of}
use Rattle.bz_tree.specs.View.{nodes_view, segs_view}
use Rattle.bz_tree.specs.private.Machine.{accepts, each}
use Rattle.bz_tree.proofs.grammar.+grammar.Given as goal

abbrev pub invariant-accepts-loop-node : goal.invariant-accepts-loop-node
invariant-accepts-loop-node l = accepts l.stage (items_of (nodes_view (drop l.node-index l.nodes))) ≡ accepts l.initial.stage (items_of (nodes_view l.nodes))

abbrev pub invariant-each-loop-seg : goal.invariant-each-loop-seg
invariant-each-loop-seg l = each l.stage (segs_of (segs_view (drop l.seg-index l.segs))) ≡ each l.initial.stage (segs_of (segs_view l.segs))
