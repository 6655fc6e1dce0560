use Rattle.bz_layout_laws.proofs.WellFormed.{formed_legible, formed_no_block}
use Rattle.bz_layout_laws.proofs.well_formed.what_is_well_formed_is_legible.Goals as goal

pub returns-clause-legible : goal.returns-clause-legible
returns-clause-legible c = formed_legible

pub returns-clause-block : goal.returns-clause-block
returns-clause-block c = formed_no_block
