use Rattle.bz_engine.proofs.OneOutcome as law
use Rattle.bz_engine.proofs.SomeOutcome.{some_outcome}
use Rattle.bz_engine.proofs.laws.one_outcome.Goals as goal

pub returns-clause-some : goal.returns-clause-some
returns-clause-some c = some_outcome

pub returns-clause-only : goal.returns-clause-only
returns-clause-only c = law.one_outcome
