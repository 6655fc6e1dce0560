use Rattle.bz_laws.proofs.Commands.{formed_after}
use Rattle.bz_laws.proofs.well_formed.commands_keep_statements_well_formed.Goals as goal

pub returns : goal.returns
returns c = formed_after
