use Rattle.bz_layout_laws.proofs.GapLines.{line_stays, last_line_of}
use Rattle.bz_layout_laws.proofs.of_tokens.lines.a_gap_tells_the_line.Goals as goal

pub returns-clause-stays : goal.returns-clause-stays
returns-clause-stays c = line_stays

pub returns-clause-ends : goal.returns-clause-ends
returns-clause-ends c = last_line_of
