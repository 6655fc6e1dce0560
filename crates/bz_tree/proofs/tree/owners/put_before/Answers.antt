use Rattle.std.proofs.Common.{ap, ◌∙◌, arith}
use Rattle.bz_tree.specs.Borrowed.{owned, owned_in, owned_of}
use Rattle.bz_tree.proofs.Trees.Borrowed.{owned_push}
use Rattle.bz_tree.proofs.tree.owners.put_before.Goals as goal

pub returns-in_ok-push-clause-borrowed : goal.returns-in_ok-push-clause-borrowed
returns-in_ok-push-clause-borrowed c =
    let before = ap owned_in c.in_ok-push.ensures.items ∙ owned_push owned c.args.seg.now.before.items c.in-Some.text in
    let some = ap owned_of c.in-Some.is in
    let suffix = ap owned_of c.take.ensures.value in
    omega (arith, before, some, suffix)
