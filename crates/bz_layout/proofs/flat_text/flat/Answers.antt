use Rattle.std.proofs.Common.{◌≡◌, ◌∙◌, ap, map, arith}
use Rattle.std.proofs.lemmas.Grind.{common_steps}
use Rattle.bz_tree.specs.Tree.{items_of}
use Rattle.bz_tree.specs.View.{nodes_view}
use Rattle.bz_tree.specs.Rows.{part_view, items_parts}
use Rattle.bz_layout.proofs.flat_text.flat.Goals as goal

pub returns : goal.returns
returns c =
    let nodes = nodes_view c.args.nodes.now in
    let parts : map part_view c.push_nodes.new.parts.items ≡ items_parts (items_of nodes) = grind (arith, common_steps) in
    record { text = c.in_ok-text.ensures.text nodes (ap (map part_view) c.deref.ensures.value ∙ parts) }
