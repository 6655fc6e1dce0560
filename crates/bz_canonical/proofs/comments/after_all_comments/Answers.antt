use Rattle.bz_canonical.proofs.GroupSegments.{more_notes}
use Rattle.bz_canonical.proofs.comments.after_all_comments.Goals as goal

pub loop-preserved : goal.loop-preserved
loop-preserved c =
    let line = c.in-Some.ensures in
    more_notes c.args.level c.args.text.now c.loop.rest.now line.0 c.in-Some.next.now c.loop.some c.loop.invariant line.1 line.2
