use Rattle.std.proofs.Common.{◌≡◌, length, drop}
use Rattle.std.specs.List.{prefix_len}
use Rattle.bz_canonical.specs.private.Fronts.{is_simple}
use Rattle.bz_canonical.proofs.simple.after_simple.Given as goal

abbrev pub invariant-loop-rest : goal.invariant-loop-rest
invariant-loop-rest l = drop (prefix_len is_simple l.bytes) l.bytes ≡ drop (prefix_len is_simple l.rest) l.rest

abbrev pub decreases-loop-rest : goal.decreases-loop-rest
decreases-loop-rest l = length l.rest
