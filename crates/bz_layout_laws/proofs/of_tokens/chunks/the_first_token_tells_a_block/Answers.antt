use Rattle.bz_token.proofs.BlockWords.{no_block}
use Rattle.bz_layout_laws.proofs.of_tokens.chunks.the_first_token_tells_a_block.Goals as goal

pub returns : goal.returns
returns c = no_block
