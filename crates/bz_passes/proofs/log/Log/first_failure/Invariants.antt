use Rattle.std.proofs.Common.{drop}
use Rattle.bz_passes.proofs.Woven.{Rest}
use Rattle.bz_passes.proofs.log.Log.first_failure.Given as goal

-- no failure was passed
abbrev pub invariant-loop-kind : goal.invariant-loop-kind
invariant-loop-kind l = Rest l.self (drop l.kind-index l.kind-items) l.messages
