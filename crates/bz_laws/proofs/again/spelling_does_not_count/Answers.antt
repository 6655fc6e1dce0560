use Rattle.bz_laws.proofs.SpelledDone.{marks_spelled, settled_spelled}
use Rattle.bz_laws.proofs.again.spelling_does_not_count.Goals as goal

pub returns-clause-settled : goal.returns-clause-settled
returns-clause-settled c = settled_spelled

pub returns-clause-marks : goal.returns-clause-marks
returns-clause-marks c = marks_spelled
