use Rattle.std.proofs.Common.{length}
use Rattle.bz_attribute.specs.private.Apart.{EndApart}
use Rattle.bz_attribute.proofs.apart.end_apart.Given as goal

abbrev pub invariant-loop-inner : goal.invariant-loop-inner
invariant-loop-inner l = EndApart l.quote l.inner l.word → EndApart l.quote l.initial.inner l.initial.word

abbrev pub decreases-loop-inner : goal.decreases-loop-inner
decreases-loop-inner l = length l.inner
