use Rattle.std.proofs.Common.{◌≡◌, length}
use Rattle.std.specs.Prelude.{is_some}
use Rattle.bz_label.specs.private.ByteSteps.{inner_of}
use Rattle.bz_label.proofs.bytes.has_end.Given as goal

abbrev pub invariant-loop-after : goal.invariant-loop-after
invariant-loop-after l = is_some (inner_of l.literal) ≡ is_some (inner_of l.initial.literal)

abbrev pub decreases-loop-after : goal.decreases-loop-after
decreases-loop-after l = length l.literal.rest.now
