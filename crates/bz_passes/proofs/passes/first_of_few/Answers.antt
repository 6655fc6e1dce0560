use Rattle.std.proofs.Common.{arith}
use Rattle.std.proofs.lemmas.Grind.{common_steps}
use Rattle.bz_passes.proofs.passes.first_of_few.Goals as goal

pub returns-then-may_mark : goal.returns-then-may_mark
returns-then-may_mark g c = grind (arith, common_steps)

pub loop-i-preserved : goal.loop-i-preserved
loop-i-preserved g c = grind (arith, common_steps)
