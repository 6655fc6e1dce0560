use Rattle.bz_token.proofs.OneFault.{one_fault}
use Rattle.bz_token.proofs.laws.one_first_fault.Goals as goal

pub returns : goal.returns
returns c = one_fault
