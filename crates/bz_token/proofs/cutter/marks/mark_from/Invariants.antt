use Rattle.std.proofs.Common.{◌≡◌, ◌+◌, ◌-◌, ◌≤◌, length, drop}
use Rattle.std.specs.List.{prefix_len}
use Rattle.bz_token.specs.private.Marks.{passes}
use Rattle.bz_token.proofs.cutter.marks.mark_from.Given as goal

abbrev pub invariant-loop-at : goal.invariant-loop-at
invariant-loop-at l = record {
  within : l.at ≤ length l.bytes;
  passed : l.fn.start + prefix_len (passes l.stretch) (drop l.fn.start l.bytes) ≡ l.at + prefix_len (passes l.stretch) (drop l.at l.bytes);
}

abbrev pub decreases-loop-at : goal.decreases-loop-at
decreases-loop-at l = length l.bytes - l.at
