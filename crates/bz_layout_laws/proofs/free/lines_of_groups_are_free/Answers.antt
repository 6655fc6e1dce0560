use Rattle.bz_layout_laws.proofs.FreeRead.{free_chunked, free_again}
use Rattle.bz_layout_laws.proofs.free.lines_of_groups_are_free.Goals as goal

pub returns-clause-chunk : goal.returns-clause-chunk
returns-clause-chunk c = free_chunked

pub returns-clause-some : goal.returns-clause-some
returns-clause-some c = free_again
