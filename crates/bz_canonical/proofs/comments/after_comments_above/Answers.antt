use Rattle.std.proofs.Common.{◌∷◌, refl}
use Rattle.bz_canonical.proofs.GroupSegments.{more_lines}
use Rattle.bz_canonical.proofs.comments.after_comments_above.Goals as goal

pub loop-preserved : goal.loop-preserved
loop-preserved c = more_lines c.args.text.now c.loop.rest.now (10 ∷ c.in-Some.next.now) c.in-Some.next.now c.loop.invariant c.in-Some.ensures refl
