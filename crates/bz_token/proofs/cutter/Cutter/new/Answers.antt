use Rattle.bz_token.proofs.CutAnswers.{nothing_yet}
use Rattle.bz_token.proofs.CutAfter.{fresh_after}
use Rattle.bz_token.proofs.cutter.Cutter.new.Goals as goal

pub returns-clause-part : goal.returns-clause-part
returns-clause-part c = nothing_yet

pub returns-clause-after : goal.returns-clause-after
returns-clause-after c = rw c.fresh.ensures fresh_after
