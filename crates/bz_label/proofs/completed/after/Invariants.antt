use Rattle.std.proofs.Common.{◌≡◌, length}
use Rattle.std.specs.Prelude.{IsTrue}
use Rattle.bz_label.specs.private.ByteSteps.{left, is_good}
use Rattle.bz_label.specs.private.LabelSteps.{rest_after}
use Rattle.bz_label.proofs.completed.after.Given as goal

abbrev pub invariant-loop-b : goal.invariant-loop-b
invariant-loop-b l = record { good : IsTrue (is_good l.text); same : rest_after l.byte (left l.text) ≡ rest_after l.byte (left l.initial.text) }

abbrev pub decreases-loop-b : goal.decreases-loop-b
decreases-loop-b l = length (left l.text)

abbrev pub invariant-loop-slice : goal.invariant-loop-slice
invariant-loop-slice l = rest_after l.byte l.slice ≡ rest_after l.byte (left l.fn.text)

abbrev pub decreases-loop-slice : goal.decreases-loop-slice
decreases-loop-slice l = length l.slice
