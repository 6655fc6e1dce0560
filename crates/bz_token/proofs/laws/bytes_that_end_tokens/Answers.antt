use Rattle.bz_token.proofs.Stops.{newline_stops, space_stops, mark_stops, operator_stops}
use Rattle.bz_token.proofs.laws.bytes_that_end_tokens.Goals as goal

pub returns-clause-newline : goal.returns-clause-newline
returns-clause-newline c = newline_stops

pub returns-clause-space : goal.returns-clause-space
returns-clause-space c = space_stops

pub returns-clause-mark : goal.returns-clause-mark
returns-clause-mark c = mark_stops

pub returns-clause-operator : goal.returns-clause-operator
returns-clause-operator c = operator_stops
