use Rattle.std.proofs.Common.{◌≤◌, length}
use Rattle.bz_engine.proofs.looks.open_len.Given as goal

-- what stands before the bytes that were looked at
abbrev pub invariant-loop-len : goal.invariant-loop-len
invariant-loop-len l = l.len ≤ length l.bytes

abbrev pub decreases-loop-len : goal.decreases-loop-len
decreases-loop-len l = l.len
