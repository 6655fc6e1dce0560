use Rattle.std.proofs.Common.{◌≡◌, ◌+◌, ◌∷◌, drop, ap, sym, ◌∙◌}
use Rattle.std.proofs.lemmas.List.{at_drop_more}
use Rattle.bz_tree.specs.View.{node_view, nodes_view}
use Rattle.bz_tree.specs.private.RowSteps.{named}
use Rattle.bz_tree.proofs.Rows.RowClass.{from, from_step, naming_item}
use Rattle.bz_tree.proofs.Trees.Views.{view-Group, view-group}
use Rattle.bz_tree.proofs.Trees.Walking.{view-Token}
use Rattle.bz_tree.proofs.tree.classes.is_rule.Goals.{in-Token, in-Group}
use Rattle.bz_tree.proofs.tree.classes.is_rule.Goals as goal

pub loop-node-preserved : goal.loop-node-preserved
loop-node-preserved c =
    let n = c.node-item.result in
    let ns = c.args.nodes.now in
    let old = c.loop-node.naming in
    let rest = drop (c.loop-node.node-index + 1) ns in
    let here = at_drop_more (λ zs. from old (nodes_view zs)) ns c.loop-node.node-index n c.loop-node-test.true ∙ ap (λ z. from old (nodes_view (z ∷ rest))) (sym c.node-item.is) in
    let next : c.match-node.naming ≡ naming_item old (node_view n) = elim c.match-node.branch [
      | in-Token w ↦ w.naming-is ∙ (w.named-naming.ensures ∙ ap (named old w.in-Token.leaf.kind) w.as_str.ensures.value ∙ ap (naming_item old) (sym (ap node_view w.in-Token.is ∙ view-Token w.in-Token.leaf)))
      | in-Group w ↦ w.naming-is ∙ (w.called-naming.ensures ∙ ap (naming_item old) (sym (ap node_view w.in-Group.is ∙ (view-Group w.in-Group.group ∙ view-group w.in-Group.group))))
    ] in
    ap (λ m. from m (nodes_view rest)) next ∙ (sym (here ∙ from_step old (node_view n) (nodes_view rest)) ∙ c.loop-node.invariant)
