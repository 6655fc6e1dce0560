use Rattle.bz_token.proofs.Classes.{empty_no_text}
use Rattle.bz_token.proofs.Stops.{token_ended, token_ends, stopped_ends}
use Rattle.bz_token.proofs.laws.what_ends_a_token.Goals as goal

pub returns-clause-ended : goal.returns-clause-ended
returns-clause-ended c = token_ended

pub returns-clause-stopped : goal.returns-clause-stopped
returns-clause-stopped c = stopped_ends

pub returns-clause-some : goal.returns-clause-some
returns-clause-some c = empty_no_text

pub returns-clause-exactly : goal.returns-clause-exactly
returns-clause-exactly c = token_ends
