use Rattle.std.proofs.Common.{◌≡◌, length}
use Rattle.std.specs.Prelude.{IsTrue}
use Rattle.std.specs.List.{fold}
use Rattle.bz_label.specs.private.ByteSteps.{left, is_good}
use Rattle.bz_label.specs.private.LabelSteps.{stirred}
use Rattle.bz_label.proofs.label.stirred.Given as goal

abbrev pub invariant-loop-b : goal.invariant-loop-b
invariant-loop-b l = record { good : IsTrue (is_good l.text); same : fold stirred l.key (left l.text) ≡ fold stirred l.initial.key (left l.initial.text) }

abbrev pub decreases-loop-b : goal.decreases-loop-b
decreases-loop-b l = length (left l.text)
