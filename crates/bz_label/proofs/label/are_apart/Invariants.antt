use Rattle.std.proofs.Common.{length}
use Rattle.bz_label.proofs.LastBytes.{HaveEnd}
use Rattle.bz_label.proofs.label.are_apart.Given as goal

abbrev pub invariant-loop-a : goal.invariant-loop-a
invariant-loop-a l = HaveEnd l.initial.a l.initial.b l.a l.b

abbrev pub decreases-loop-a : goal.decreases-loop-a
decreases-loop-a l = length l.a
