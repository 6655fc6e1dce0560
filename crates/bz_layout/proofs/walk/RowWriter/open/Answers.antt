use Rattle.std.proofs.Common.{arith}
use Rattle.std.proofs.lemmas.Grind.{common_steps}
use Rattle.bz_layout.proofs.walk.RowWriter.open.Goals as goal

pub returns-in_err-put_gap : goal.returns-in_err-put_gap
returns-in_err-put_gap g c = grind (arith, common_steps)

pub returns-in_err-put_short : goal.returns-in_err-put_short
returns-in_err-put_short g c = grind (arith, common_steps)

pub returns-in_err-push : goal.returns-in_err-push
returns-in_err-push g c = grind (arith, common_steps)

pub returns : goal.returns
returns g c = grind (arith, common_steps)
