use Rattle.std.proofs.Common.{ap, ◌∙◌, arith}
use Rattle.std.specs.declared.borrow.CowStr.TheVariants.{Borrowed}
use Rattle.bz_tree.specs.Borrowed.{owned, owned_in}
use Rattle.bz_tree.proofs.Trees.Borrowed.{on_pushed, owned_push}
use Rattle.bz_tree.proofs.tree.owners.Walk.add_comment.Goals as goal

pub returns-in_default-clause-borrowed : goal.returns-in_default-clause-borrowed
returns-in_default-clause-borrowed c =
    on_pushed c.push.result _ _ _ c.push.ensures.items (λ pushed. omega (arith, ap owned_in pushed ∙ owned_push owned c.args.self.now.after.items (Borrowed c.args.text)))
