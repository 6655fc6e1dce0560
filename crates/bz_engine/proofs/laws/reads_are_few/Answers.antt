use Rattle.bz_engine.proofs.NeededReads.{reads_few}
use Rattle.bz_engine.proofs.laws.reads_are_few.Goals as goal

pub returns : goal.returns
returns c = reads_few
