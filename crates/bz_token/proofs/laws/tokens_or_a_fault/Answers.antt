use Rattle.bz_token.proofs.OneFault.{no_fault}
use Rattle.bz_token.proofs.OneReading.{tokens_or_fault}
use Rattle.bz_token.proofs.laws.tokens_or_a_fault.Goals as goal

pub returns-clause-some : goal.returns-clause-some
returns-clause-some c = tokens_or_fault

pub returns-clause-not_both : goal.returns-clause-not_both
returns-clause-not_both c = no_fault
