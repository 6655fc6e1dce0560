use Rattle.std.proofs.Common.{ap, ◌∙◌, arith}
use Rattle.bz_tree.specs.Borrowed.{owned, owned_in, owned_of, node_owned}
use Rattle.bz_tree.specs.private.BorrowedSteps.{nodes_owned}
use Rattle.bz_tree.proofs.Trees.Borrowed.{on_both, owned_more, owned_push}
use Rattle.bz_tree.specs.Places.{node_spelling}
use Rattle.bz_tree.specs.private.PlacedSteps.{nodes_spelling, segs_spelling}
use Rattle.bz_tree.proofs.Trees.Placed.{joined_push, more_of, on_always}
use Rattle.bz_tree.proofs.tree.owners.Walk.add_node.Goals as goal

pub returns-clause-borrowed : goal.returns-clause-borrowed
returns-clause-borrowed c =
    let w = c.args.self.now in
    let suffix = ap owned_of c.put_before.ensures.taken in
    let nodes = ap nodes_owned c.in_ok-push.ensures.items ∙ owned_push node_owned w.here.nodes.items c.args.node in
    let nodes_kept = ap (λ v. nodes_owned v.items) c.put_before.ensures.nodes in
    on_both c.append.result _ _ _ _ _ _ c.append.ensures.items c.append.ensures.other_items
    (λ before after. omega (arith, ap owned_in before ∙ owned_more owned c.put_before.new.seg.before.items w.after.items, ap owned_in after, suffix, nodes, nodes_kept, c.in_ok-put_before.ensures.borrowed))

pub returns-clause-places : goal.returns-clause-places
returns-clause-places c =
    let w = c.args.self.now in
    let nodes = ap nodes_spelling c.in_ok-push.ensures.items ∙ joined_push node_spelling w.here.nodes.items c.args.node in
    let kept = ap (λ v. nodes_spelling v.items) c.put_before.ensures.nodes in
    on_always c.append.result (more_of (segs_spelling w.segs.items) _ _ _ (kept ∙ nodes))
