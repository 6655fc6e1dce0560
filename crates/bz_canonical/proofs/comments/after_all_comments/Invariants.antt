use Rattle.bz_canonical.proofs.GroupSegments.{ContinuesNotes}
use Rattle.bz_canonical.proofs.comments.after_all_comments.Given as goal

abbrev pub invariant-loop : goal.invariant-loop
invariant-loop l = ContinuesNotes l.level l.text l.rest l.some
