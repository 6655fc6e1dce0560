use Rattle.bz_laws.proofs.StatusLaw.{status_whole, status_changed, status_unchanged, status_done}
use Rattle.bz_laws.proofs.status.the_status_tells.Goals as goal

pub returns-clause-whole : goal.returns-clause-whole
returns-clause-whole c = status_whole

pub returns-clause-changed : goal.returns-clause-changed
returns-clause-changed c = status_changed

pub returns-clause-unchanged : goal.returns-clause-unchanged
returns-clause-unchanged c = status_unchanged

pub returns-clause-done : goal.returns-clause-done
returns-clause-done c = status_done
