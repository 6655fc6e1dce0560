use Rattle.std.proofs.Common.{take}
use Rattle.bz_canonical.specs.private.NewValues.{ArePut}
use Rattle.bz_canonical.proofs.added.NewValues.put_missing.Given as goal

abbrev pub invariant-loop-i : goal.invariant-loop-i
invariant-loop-i l = ArePut l.self (take l.i l.self.added.values.now) l.from l.fn.written.items l.written.items l.passed
