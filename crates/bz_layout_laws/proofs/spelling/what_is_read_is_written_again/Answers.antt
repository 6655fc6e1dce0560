use Rattle.bz_layout_laws.proofs.SpelledAgain.{layout_spelled, written_again}
use Rattle.bz_layout_laws.proofs.spelling.what_is_read_is_written_again.Goals as goal

pub returns-clause-pieces : goal.returns-clause-pieces
returns-clause-pieces c = layout_spelled

pub returns-clause-text : goal.returns-clause-text
returns-clause-text c = written_again
