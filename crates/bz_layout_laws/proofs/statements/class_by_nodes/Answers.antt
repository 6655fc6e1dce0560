use Rattle.bz_layout_laws.proofs.ChunkLaws.{chunk_class}
use Rattle.bz_layout_laws.proofs.statements.class_by_nodes.Goals as goal

pub returns : goal.returns
returns c = chunk_class
