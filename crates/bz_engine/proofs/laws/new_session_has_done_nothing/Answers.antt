use Rattle.bz_engine.proofs.Runs.{started}
use Rattle.bz_engine.proofs.laws.new_session_has_done_nothing.Goals as goal

pub returns : goal.returns
returns c = started
