use Rattle.std.proofs.Common.{ap, ◌∙◌, arith}
use Rattle.std.specs.declared.borrow.CowStr.TheVariants.{Borrowed}
use Rattle.bz_tree.specs.Borrowed.{owned, owned_in}
use Rattle.bz_tree.proofs.Trees.Borrowed.{owned_push, owned_seg, seg_at_most}
use Rattle.bz_tree.proofs.tree.owners.add_beside.Goals as goal

pub returns-in_ok-push-clause-borrowed : goal.returns-in_ok-push-clause-borrowed
returns-in_ok-push-clause-borrowed c =
    let before = ap owned_in c.in_ok-push.ensures.items ∙ owned_push owned c.args.seg.now.before.items (Borrowed c.args.text) in
    seg_at_most _ _ (omega (arith, before, owned_seg c.args.seg.now))
