use Rattle.std.proofs.Common.{◌≡◌, drop}
use Rattle.bz_tree.specs.View.{nodes_view}
use Rattle.bz_tree.proofs.tree.classes.has_assign.Given as goal
use Rattle.bz_tree.specs.Statement.{is_assign}
use Rattle.std.specs.List.{list_any}

abbrev pub invariant-loop-node : goal.invariant-loop-node
invariant-loop-node l = list_any is_assign (nodes_view (drop l.node-index l.nodes)) ≡ list_any is_assign (nodes_view l.nodes)
