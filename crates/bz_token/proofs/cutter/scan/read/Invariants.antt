use Rattle.std.proofs.Common.{◌≡◌, ◌+◌, ◌-◌, ◌≤◌, drop, length}
use Rattle.bz_token.specs.private.CutSteps.{run}
use Rattle.bz_token.proofs.cutter.scan.read.Given as goal

abbrev pub invariant-loop-at : goal.invariant-loop-at
invariant-loop-at l = record {
  within : l.at ≤ length l.bytes;
  run : run l.scan (drop l.at l.bytes) ≡ run l.fn.scan l.bytes;
  depth : l.scan.depth ≤ l.fn.scan.depth + l.at;
}

abbrev pub decreases-loop-at : goal.decreases-loop-at
decreases-loop-at l = length l.bytes - l.at
