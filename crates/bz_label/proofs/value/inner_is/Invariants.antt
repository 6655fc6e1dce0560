use Rattle.std.proofs.Common.{◌≡◌, length}
use Rattle.bz_label.specs.private.ValueSteps.{is_value}
use Rattle.bz_label.specs.private.ByteSteps.{inner_of}
use Rattle.bz_label.proofs.value.inner_is.Given as goal

abbrev pub invariant-loop-byte : goal.invariant-loop-byte
invariant-loop-byte l = is_value l.value (inner_of l.literal) ≡ is_value l.initial.value (inner_of l.initial.literal)

abbrev pub decreases-loop-byte : goal.decreases-loop-byte
decreases-loop-byte l = length l.literal.rest.now
