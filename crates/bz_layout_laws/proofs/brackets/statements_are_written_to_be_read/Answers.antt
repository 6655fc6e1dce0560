use Rattle.bz_layout_laws.proofs.WrittenLine.{statement_written, comments_written}
use Rattle.bz_layout_laws.proofs.brackets.statements_are_written_to_be_read.Goals as goal

pub returns-clause-statement : goal.returns-clause-statement
returns-clause-statement c = statement_written

pub returns-clause-comments : goal.returns-clause-comments
returns-clause-comments c = comments_written
