use Rattle.std.proofs.Common.{◌-◌, ◌≤◌, length}
use Rattle.bz_token.specs.declared.cutter.scan.CutState.TheVariants.{Plain}
use Rattle.bz_token.specs.declared.cutter.scan.LineKind.TheVariants.{Statement}
use Rattle.bz_token.specs.private.CutSteps.{at, IsSame}
use Rattle.bz_token.proofs.cutter.scan.statement_end.Given as goal

abbrev pub invariant-loop-after : goal.invariant-loop-after
invariant-loop-after l = record {
  passed : l.start ≤ l.end;
  within : l.end ≤ length l.bytes;
  same : IsSame (at Plain l.depth Statement) l.bytes l.start l.end;
}

abbrev pub decreases-loop-after : goal.decreases-loop-after
decreases-loop-after l = length l.bytes - l.end
