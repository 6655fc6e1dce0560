use Rattle.bz_layout_laws.proofs.TokensBack.{layout_tokens, layout_tokens_only}
use Rattle.bz_layout_laws.proofs.tokens.a_text_has_its_tokens.Goals as goal

pub returns-clause-some : goal.returns-clause-some
returns-clause-some c = layout_tokens

pub returns-clause-only : goal.returns-clause-only
returns-clause-only c = layout_tokens_only
