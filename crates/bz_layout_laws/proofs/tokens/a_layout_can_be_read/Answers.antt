use Rattle.bz_layout_laws.proofs.TokensBack.{layout_read}
use Rattle.bz_layout_laws.proofs.tokens.a_layout_can_be_read.Goals as goal

pub returns : goal.returns
returns c = layout_read
