use Rattle.bz_layout_laws.proofs.Pieces.{layout_lexemes}
use Rattle.bz_layout_laws.proofs.tokens.pieces_are_the_lexemes.Goals as goal

pub returns : goal.returns
returns c = layout_lexemes
