use Rattle.std.proofs.Common.{◌++◌, ap, sym, ◌∙◌, arith}
use Rattle.std.proofs.lemmas.Grind.{common_steps}
use Rattle.bz_tree.specs.Borrowed.{seg_owned}
use Rattle.bz_tree.specs.private.BorrowedSteps.{segs_owned}
use Rattle.bz_tree.proofs.Trees.Borrowed.{owned_push, owned_pop}
use Rattle.bz_tree.proofs.Trees.OneBracket.{to_last-push}
use Rattle.bz_tree.specs.Places.{seg_spelling}
use Rattle.bz_tree.specs.private.PlacedSteps.{segs_spelling}
use Rattle.bz_tree.proofs.Trees.Placed.{joined_push, joined_pop}
use Rattle.bz_tree.proofs.tree.owners.add_to_last.Goals as goal

pub returns-in_ok-add_beside-clause-value : goal.returns-in_ok-add_beside-clause-value
returns-in_ok-add_beside-clause-value c = grind (arith, common_steps, to_last-push)

pub returns-in_ok-add_beside-clause-borrowed : goal.returns-in_ok-add_beside-clause-borrowed
returns-in_ok-add_beside-clause-borrowed c =
    let left = c.pop.new.self.items in
    let segs = ap segs_owned c.push_reserved.ensures.items ∙ owned_push seg_owned left _ in
    let old = ap segs_owned c.pop.ensures.items ∙ owned_pop seg_owned left _ _ c.in-Some.is in
    omega (arith, segs, old, c.in_ok-add_beside.ensures.borrowed)

pub returns-in_ok-add_beside-clause-places : goal.returns-in_ok-add_beside-clause-places
returns-in_ok-add_beside-clause-places c =
    let left = c.pop.new.self.items in
    let segs = ap segs_spelling c.push_reserved.ensures.items ∙ joined_push seg_spelling left _ in
    let old = ap segs_spelling c.pop.ensures.items ∙ joined_pop seg_spelling left _ _ c.in-Some.is in
    segs ∙ (ap (λ ps. segs_spelling left ++ ps) c.in_ok-add_beside.ensures.places ∙ sym old)
