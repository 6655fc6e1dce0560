use Rattle.bz_layout_laws.proofs.WellFormed.{formed_again, formed_only}
use Rattle.bz_layout_laws.proofs.trees.a_statement_is_parsed_again.Goals as goal

pub returns-clause-some : goal.returns-clause-some
returns-clause-some c = formed_again

pub returns-clause-only : goal.returns-clause-only
returns-clause-only c = formed_only
