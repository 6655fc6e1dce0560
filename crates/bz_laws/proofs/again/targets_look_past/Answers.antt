use Rattle.bz_laws.proofs.MarksStay.{marks_stay}
use Rattle.bz_laws.proofs.again.targets_look_past.Goals as goal

pub returns : goal.returns
returns c = marks_stay
