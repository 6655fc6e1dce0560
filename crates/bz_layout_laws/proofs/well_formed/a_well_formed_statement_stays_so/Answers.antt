use Rattle.bz_layout_laws.proofs.SameFormed.{formed_elsewhere, spelled_formed, formed_stays}
use Rattle.bz_layout_laws.proofs.well_formed.a_well_formed_statement_stays_so.Goals as goal

pub returns-clause-lines : goal.returns-clause-lines
returns-clause-lines c = formed_elsewhere

pub returns-clause-spelled : goal.returns-clause-spelled
returns-clause-spelled c = spelled_formed

pub returns-clause-again : goal.returns-clause-again
returns-clause-again c = formed_stays
