use Rattle.bz_laws.proofs.SecondRun.{same_again}
use Rattle.bz_laws.proofs.unchanged.a_run_that_changes_nothing_writes_the_same.Goals as goal

pub returns : goal.returns
returns c = same_again
