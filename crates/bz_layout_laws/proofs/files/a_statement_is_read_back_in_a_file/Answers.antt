use Rattle.bz_layout_laws.proofs.StatementReadBack.{statement_read_back}
use Rattle.bz_layout_laws.proofs.files.a_statement_is_read_back_in_a_file.Goals as goal

pub returns : goal.returns
returns c = statement_read_back
