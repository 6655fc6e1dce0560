use Rattle.bz_layout_laws.proofs.WordsKept.{statement_words}
use Rattle.bz_layout_laws.proofs.words.no_token_is_lost.Goals as goal

pub returns : goal.returns
returns c = statement_words
