use Rattle.bz_layout_laws.proofs.ChunkLaws.{chunk_same}
use Rattle.bz_layout_laws.proofs.statements.one_statement.Goals as goal

pub returns : goal.returns
returns c = chunk_same
