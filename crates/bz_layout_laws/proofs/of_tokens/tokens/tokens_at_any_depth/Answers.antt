use Rattle.bz_layout_laws.proofs.Deeper.{tokens_are_texts, tokens_deeper}
use Rattle.bz_layout_laws.proofs.of_tokens.tokens.tokens_at_any_depth.Goals as goal

pub returns-clause-texts : goal.returns-clause-texts
returns-clause-texts c = tokens_are_texts

pub returns-clause-deeper : goal.returns-clause-deeper
returns-clause-deeper c = tokens_deeper
