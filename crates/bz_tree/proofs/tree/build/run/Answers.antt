use Rattle.std.proofs.Common.{[], map, ap, sym, subst, ◌∙◌}
use Rattle.bz_token.specs.Places.{placed}
use Rattle.bz_tree.specs.Places.{AreSpelled, joined}
use Rattle.bz_tree.specs.private.Steps.{level}
use Rattle.bz_tree.specs.private.PlacedSteps.{frame_spelling, opened}
use Rattle.bz_tree.proofs.Trees.Placed.{each_some, ends_here, flat_begun, from_nothing, spelled_seg}
use Rattle.bz_tree.proofs.tree.build.run.Goals as goal

pub returns-clause-places : goal.returns-clause-places
returns-clause-places c =
    let top = c.new-top.result in
    let outer = c.new-outer.result in
    let tokens = map placed c.args.tokens.now in
    let nothing = ends_here (joined (map opened outer.items)) (frame_spelling top) [] (ap (λ fs. joined (map opened fs)) c.new-outer.ensures.items) c.new-top.ensures.places in
    let flat = c.in_ok-read.ensures.flat c.if-not-branch.false (flat_begun (level top) outer.items c.new-top.ensures.value c.new-outer.ensures.items) in
    let spelled = from_nothing _ _ tokens nothing (c.in_ok-read.ensures.places c.if-not-branch.false) in
    each_some _ _ c.whole_segment.result (λ s h. subst (AreSpelled tokens) (sym (h flat) ∙ spelled_seg s) spelled) c.whole_segment.ensures.places
