use Rattle.bz_token.proofs.OneFault.{one_tokens}
use Rattle.bz_token.proofs.laws.one_list_of_tokens.Goals as goal

pub returns : goal.returns
returns c = one_tokens
