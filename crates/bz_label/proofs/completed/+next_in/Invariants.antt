use Rattle.std.proofs.Common.{length}
use Rattle.bz_label.proofs.completed.+next_in.Given as goal

abbrev pub decreases-next_in : goal.decreases-next_in
decreases-next_in l = length l.chain.rest.now
