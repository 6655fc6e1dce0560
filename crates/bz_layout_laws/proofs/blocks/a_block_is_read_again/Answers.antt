use Rattle.bz_layout_laws.proofs.BlockAgain.{again_some, again_only}
use Rattle.bz_layout_laws.proofs.blocks.a_block_is_read_again.Goals as goal

pub returns-clause-some : goal.returns-clause-some
returns-clause-some c = λ first second depth newlines bytes s comments b h. again_some first second depth newlines bytes s comments b h

pub returns-clause-only : goal.returns-clause-only
returns-clause-only c = λ first second depth newlines bytes s t comments b h is. again_only first second depth newlines bytes s t comments b h is
