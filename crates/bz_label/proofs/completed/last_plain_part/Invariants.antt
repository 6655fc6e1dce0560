use Rattle.std.proofs.Common.{length}
use Rattle.bz_label.proofs.LastBytes.{HaveEnd}
use Rattle.bz_label.proofs.completed.last_plain_part.Given as goal

abbrev pub invariant-loop-rest : goal.invariant-loop-rest
invariant-loop-rest l = HaveEnd l.path l.path l.rest l.rest

abbrev pub decreases-loop-rest : goal.decreases-loop-rest
decreases-loop-rest l = length l.rest
