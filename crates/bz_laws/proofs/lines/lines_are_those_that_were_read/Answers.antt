use Rattle.bz_laws.proofs.LinesKept.{lines_kept}
use Rattle.bz_laws.proofs.lines.lines_are_those_that_were_read.Goals as goal

pub returns : goal.returns
returns c = lines_kept
