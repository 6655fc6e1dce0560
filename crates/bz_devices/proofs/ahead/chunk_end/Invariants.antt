use Rattle.std.proofs.Common.{◌≤◌, ◌+◌, ◌-◌, ◌*◌, length}
use Rattle.bz_devices.proofs.Searches.{Searched}
use Rattle.bz_devices.specs.private.AheadSteps.{GoesOn}
use Rattle.bz_devices.proofs.ahead.chunk_end.Given as goal

-- the chunk goes on
abbrev pub invariant-loop-next : goal.invariant-loop-next
invariant-loop-next g l = record {
  searched : Searched g.S.Source.gave g.S.Source.failures l.limits l.initial.source l.source l.initial.ahead l.ahead;
  goes_on : GoesOn l.cutter l.ahead l.end;
  within : l.end ≤ length l.ahead.bytes;
}

-- a read has at most 8,192 bytes, so that a line passed is less left to do
abbrev pub decreases-loop-next : goal.decreases-loop-next
decreases-loop-next g l = 8193 * (l.limits.reads - l.ahead.reads) + (length l.ahead.bytes - l.end)
