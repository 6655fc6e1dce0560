use Rattle.bz_layout_laws.proofs.Readable.{bytes_join, texts_join, ended_join, fitting_join, open_join, stopped_at_ends}
use Rattle.bz_layout_laws.proofs.of_tokens.tokens.pieces_may_be_joined.Goals as goal

pub returns-clause-bytes : goal.returns-clause-bytes
returns-clause-bytes c = bytes_join

pub returns-clause-texts : goal.returns-clause-texts
returns-clause-texts c = texts_join

pub returns-clause-ended : goal.returns-clause-ended
returns-clause-ended c = ended_join

pub returns-clause-fitting : goal.returns-clause-fitting
returns-clause-fitting c = fitting_join

pub returns-clause-open : goal.returns-clause-open
returns-clause-open c = open_join

pub returns-clause-stopped : goal.returns-clause-stopped
returns-clause-stopped c = stopped_at_ends
