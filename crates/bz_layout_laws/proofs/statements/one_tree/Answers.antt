use Rattle.bz_layout_laws.proofs.ChunkLaws.{tree_same}
use Rattle.bz_layout_laws.proofs.statements.one_tree.Goals as goal

pub returns : goal.returns
returns c = tree_same
