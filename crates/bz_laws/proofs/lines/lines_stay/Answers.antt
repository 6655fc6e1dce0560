use Rattle.bz_laws.proofs.LinesStay.{line_marks, lines_after}
use Rattle.bz_laws.proofs.lines.lines_stay.Goals as goal

pub returns-clause-start : goal.returns-clause-start
returns-clause-start c = λ command home s t h. (lines_after command home s t h).start

pub returns-clause-end : goal.returns-clause-end
returns-clause-end c = λ command home s t h. (lines_after command home s t h).end

pub returns-clause-marks : goal.returns-clause-marks
returns-clause-marks c = line_marks
