use Rattle.bz_laws.proofs.Rebuilt.{with_args_same}
use Rattle.bz_laws.proofs.aside.edits_of_arguments_compose.Goals as goal
use Rattle.bz_attribute.proofs.EditedRules.{with_args_twice}

pub returns-clause-twice : goal.returns-clause-twice
returns-clause-twice c = with_args_twice

pub returns-clause-same : goal.returns-clause-same
returns-clause-same c = with_args_same
