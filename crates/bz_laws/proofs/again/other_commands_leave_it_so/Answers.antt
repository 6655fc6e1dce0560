use Rattle.bz_laws.proofs.OthersLeave.{once_stays, settled_stays}
use Rattle.bz_laws.proofs.again.other_commands_leave_it_so.Goals as goal

pub returns-clause-settled : goal.returns-clause-settled
returns-clause-settled c = settled_stays

pub returns-clause-once : goal.returns-clause-once
returns-clause-once c = once_stays
