use Rattle.std.proofs.Common.{arith}
use Rattle.std.proofs.lemmas.Grind.{common_steps}
use Rattle.bz_attribute.proofs.place.comments_len.Goals as goal

pub loop-count-init : goal.loop-count-init
loop-count-init c = grind (arith, common_steps)

pub loop-count-preserved : goal.loop-count-preserved
loop-count-preserved c = grind (arith, common_steps)

pub returns-else-is_above-clause-len : goal.returns-else-is_above-clause-len
returns-else-is_above-clause-len c = grind (arith, common_steps)

pub returns-after-loop-count-clause-len : goal.returns-after-loop-count-clause-len
returns-after-loop-count-clause-len c = grind (arith, common_steps)
