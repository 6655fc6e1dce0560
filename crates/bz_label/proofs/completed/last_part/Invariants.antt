use Rattle.std.proofs.Common.{◌≡◌, length}
use Rattle.std.specs.Prelude.{IsTrue}
use Rattle.bz_label.specs.Labels.{last_part, parts_of}
use Rattle.bz_label.specs.private.ByteSteps.{left, is_good}
use Rattle.bz_label.proofs.completed.last_part.Given as goal

abbrev pub invariant-loop-rest : goal.invariant-loop-rest
invariant-loop-rest l = record { good : IsTrue (is_good l.path); same : last_part (parts_of (left l.path)) ≡ last_part (parts_of (left l.initial.path)) }

abbrev pub decreases-loop-rest : goal.decreases-loop-rest
decreases-loop-rest l = length (left l.path)
