use Rattle.bz_layout_laws.proofs.ReadStatement.{statement_reads, statement_only}
use Rattle.bz_layout_laws.proofs.trees.a_statement_reads_back.Goals as goal

pub returns-clause-some : goal.returns-clause-some
returns-clause-some c = statement_reads

pub returns-clause-only : goal.returns-clause-only
returns-clause-only c = statement_only
