use Rattle.std.proofs.Common.{[], ◌∷◌, map, ap, ◌∙◌, arith}
use Rattle.bz_tree.specs.Borrowed.{total}
use Rattle.bz_tree.specs.private.BorrowedSteps.{frame_owned}
use Rattle.bz_tree.proofs.Trees.Borrowed.{on_pushed, owned_push}
use Rattle.bz_tree.specs.Places.{joined, opens}
use Rattle.bz_tree.specs.private.PlacedSteps.{frame_spelling, opened}
use Rattle.bz_tree.proofs.Trees.Placed.{ends_here, joined_push, more_of}
use Rattle.bz_tree.proofs.tree.build.State.open.Goals as goal

pub returns-clause-borrowed : goal.returns-clause-borrowed
returns-clause-borrowed c =
    let moved = ap frame_owned c.replace.ensures.value in
    let left = ap frame_owned c.replace.ensures.after in
    on_pushed c.push.result _ _ _ c.push.ensures.items (λ pushed.
    omega (arith, ap (λ fs. total (map frame_owned fs)) pushed ∙ owned_push frame_owned c.args.self.now.outer.items _, moved, left, c.new-frame.ensures.borrowed))

pub returns-clause-places : goal.returns-clause-places
returns-clause-places c =
    let old = c.args.self.now in
    let outer = joined (map opened old.outer.items) in
    let top = ap frame_spelling c.replace.ensures.after ∙ c.new-frame.ensures.places in
    let moved = more_of outer _ (frame_spelling old.top) (opens ∷ []) (ap opened c.replace.ensures.value) in
    on_pushed c.push.result _ _ _ c.push.ensures.items
    (λ pushed. ends_here _ _ _ (ap (λ fs. joined (map opened fs)) pushed ∙ (joined_push opened old.outer.items _ ∙ moved)) top)
