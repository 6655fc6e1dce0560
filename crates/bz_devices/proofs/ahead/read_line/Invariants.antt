use Rattle.std.proofs.Common.{◌≤◌, ◌-◌, length, take, drop}
use Rattle.bz_devices.proofs.Searches.{Searched}
use Rattle.bz_devices.specs.private.AheadSteps.{IsOpen, IsBegun}
use Rattle.bz_devices.proofs.ahead.read_line.Given as goal

-- no line has ended in what was searched
abbrev pub invariant-loop-n : goal.invariant-loop-n
invariant-loop-n g l = record {
  searched : Searched g.S.Source.gave g.S.Source.failures l.limits l.initial.source l.source l.initial.ahead l.ahead;
  begun : IsBegun l.ahead l.from;
  after : l.from ≤ l.searched;
  within : l.searched ≤ length l.ahead.bytes;
  passed : IsOpen (take (l.searched - l.from) (drop l.from l.ahead.bytes));
}

abbrev pub decreases-loop-n : goal.decreases-loop-n
decreases-loop-n g l = l.limits.reads - l.ahead.reads
