use Rattle.bz_layout_laws.proofs.SameGrammar.{grammar_stays}
use Rattle.bz_layout_laws.proofs.trees.the_grammar_stays.Goals as goal

pub returns : goal.returns
returns c = grammar_stays
