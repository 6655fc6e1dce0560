use Rattle.bz_token.proofs.CutAnswers.{nothing_yet, part_no_block, line_goes}
use Rattle.bz_token.proofs.laws.lines_that_may_come.Goals as goal

pub returns-clause-nothing : goal.returns-clause-nothing
returns-clause-nothing c = nothing_yet

pub returns-clause-part : goal.returns-clause-part
returns-clause-part c = part_no_block

pub returns-clause-block : goal.returns-clause-block
returns-clause-block c = line_goes
