use Rattle.bz_layout_laws.proofs.WellFormed.{written_again, written_only}
use Rattle.bz_layout_laws.proofs.trees.what_was_parsed_is_parsed_again.Goals as goal

pub returns-clause-some : goal.returns-clause-some
returns-clause-some c = written_again

pub returns-clause-only : goal.returns-clause-only
returns-clause-only c = written_only
