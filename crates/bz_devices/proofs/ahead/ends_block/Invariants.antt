use Rattle.std.proofs.Common.{◌≤◌, ◌-◌, length, take}
use Rattle.bz_token.specs.Cuts.{IsBlock}
use Rattle.bz_token.specs.CutterState.{IsAfter}
use Rattle.bz_devices.proofs.Searches.{Searched}
use Rattle.bz_devices.proofs.ahead.ends_block.Given as goal

-- the cutter waits after the block
abbrev pub invariant-loop-ahead : goal.invariant-loop-ahead
invariant-loop-ahead g l = record {
  searched : Searched g.S.Source.gave g.S.Source.failures l.limits l.initial.source l.source l.initial.ahead l.ahead;
  after : IsAfter l.cutter (take l.end l.ahead.bytes);
  block : IsBlock (take l.end l.ahead.bytes);
  within : l.end ≤ length l.ahead.bytes;
}

abbrev pub decreases-loop-ahead : goal.decreases-loop-ahead
decreases-loop-ahead g l = l.limits.reads - l.ahead.reads
