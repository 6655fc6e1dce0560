use Rattle.bz_token.proofs.TokenLines.{lines_of_join, one_line}
use Rattle.bz_layout_laws.proofs.of_tokens.lines.lines_of_pieces_join.Goals as goal

pub returns-clause-joined : goal.returns-clause-joined
returns-clause-joined c = lines_of_join

pub returns-clause-one : goal.returns-clause-one
returns-clause-one c = one_line
