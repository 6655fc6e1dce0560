use Rattle.std.proofs.Common.{arith}
use Rattle.std.proofs.lemmas.Grind.{common_steps}
use Rattle.bz_layout.proofs.write.put_indent.Goals as goal

pub loop-init : goal.loop-init
loop-init g c = grind (arith, common_steps)

pub returns-in_err-put : goal.returns-in_err-put
returns-in_err-put g c = grind (arith, common_steps)

pub loop-preserved : goal.loop-preserved
loop-preserved g c = grind (arith, common_steps)

pub returns : goal.returns
returns g c = grind (arith, common_steps)
