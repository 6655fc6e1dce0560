use Rattle.bz_laws.proofs.Commands.{unmentioned_stay}
use Rattle.bz_laws.proofs.KeptArguments.{deleted}
use Rattle.bz_laws.proofs.unmentioned.unmentioned_arguments_stay.Goals as goal

pub returns-clause-same : goal.returns-clause-same
returns-clause-same c = unmentioned_stay

pub returns-clause-left : goal.returns-clause-left
returns-clause-left c = deleted
