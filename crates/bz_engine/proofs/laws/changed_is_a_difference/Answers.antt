use Rattle.bz_engine.proofs.ChangesLaw.{changes_tell}
use Rattle.bz_engine.proofs.laws.changed_is_a_difference.Goals as goal

pub returns : goal.returns
returns c = changes_tell
