use Rattle.bz_token.proofs.Stops.{plain_stops}
use Rattle.bz_layout_laws.proofs.CloseTokens.{opener_stops, later_first, whole_stops}
use Rattle.bz_layout_laws.proofs.of_tokens.tokens.tokens_may_stand_close.Goals as goal

pub returns-clause-opening : goal.returns-clause-opening
returns-clause-opening c = opener_stops

pub returns-clause-plain : goal.returns-clause-plain
returns-clause-plain c = plain_stops

pub returns-clause-first : goal.returns-clause-first
returns-clause-first c = later_first

pub returns-clause-alone : goal.returns-clause-alone
returns-clause-alone c = whole_stops
