use Rattle.std.proofs.Common.{arith}
use Rattle.std.proofs.lemmas.Grind.{common_steps}
use Rattle.bz_attribute.proofs.place.arguments_begin.Goals as goal

pub loop-i-init : goal.loop-i-init
loop-i-init c = grind (arith, common_steps)

pub loop-i-preserved : goal.loop-i-preserved
loop-i-preserved c = grind (arith, common_steps)

pub returns-in-Open-clause-begin : goal.returns-in-Open-clause-begin
returns-in-Open-clause-begin c = grind (arith, common_steps)

pub returns-clause-begin : goal.returns-clause-begin
returns-clause-begin c = grind (arith, common_steps)
