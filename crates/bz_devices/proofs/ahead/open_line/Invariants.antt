use Rattle.std.proofs.Common.{◌≤◌, ◌-◌, length}
use Rattle.bz_devices.specs.private.AheadSteps.{GoesOn}
use Rattle.bz_devices.proofs.ahead.open_line.Given as goal

-- the chunk goes on after the lines before
abbrev pub invariant-loop-n : goal.invariant-loop-n
invariant-loop-n l = record {
  goes_on : GoesOn l.cutter l.ahead l.end;
  within : l.end ≤ length l.ahead.bytes;
}

abbrev pub decreases-loop-n : goal.decreases-loop-n
decreases-loop-n l = length l.ahead.bytes - l.end
