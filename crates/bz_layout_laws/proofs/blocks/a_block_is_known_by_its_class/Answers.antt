use Rattle.bz_layout_laws.proofs.BlockClass.{known_by_class}
use Rattle.bz_layout_laws.proofs.blocks.a_block_is_known_by_its_class.Goals as goal

pub returns : goal.returns
returns c = known_by_class
