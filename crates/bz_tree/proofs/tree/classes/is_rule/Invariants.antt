use Rattle.std.proofs.Common.{◌≡◌, drop}
use Rattle.bz_tree.specs.View.{nodes_view}
use Rattle.bz_tree.specs.Tree.{is_rule}
use Rattle.bz_tree.proofs.Rows.RowClass.{from}
use Rattle.bz_tree.proofs.tree.classes.is_rule.Given as goal

abbrev pub invariant-loop-node : goal.invariant-loop-node
invariant-loop-node l = from l.naming (nodes_view (drop l.node-index l.nodes)) ≡ is_rule (nodes_view l.nodes)
