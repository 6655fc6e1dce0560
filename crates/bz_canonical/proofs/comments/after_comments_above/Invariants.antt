use Rattle.bz_canonical.proofs.GroupSegments.{ContinuesLines}
use Rattle.bz_canonical.proofs.comments.after_comments_above.Given as goal

abbrev pub invariant-loop : goal.invariant-loop
invariant-loop l = ContinuesLines l.text l.rest
