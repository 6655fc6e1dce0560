use Rattle.std.proofs.Common.{length}
use Rattle.bz_canonical.specs.Canonical.{HasArgumentName}
use Rattle.bz_canonical.proofs.rule.has_argument_name.Given as goal

abbrev pub invariant-loop-rest : goal.invariant-loop-rest
invariant-loop-rest l = HasArgumentName l.name l.text → HasArgumentName l.name l.rest

abbrev pub decreases-loop-rest : goal.decreases-loop-rest
decreases-loop-rest l = length l.rest
