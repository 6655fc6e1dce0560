use Rattle.std.proofs.Common.{arith}
use Rattle.std.proofs.lemmas.Grind.{common_steps}
use Rattle.bz_layout.proofs.walk.RowWriter.close.Goals as goal

pub returns-in_err-new_line : goal.returns-in_err-new_line
returns-in_err-new_line g c = grind (arith, common_steps)

pub returns-in_err-put_short : goal.returns-in_err-put_short
returns-in_err-put_short g c = grind (arith, common_steps)

pub returns-in_err-put_short-2 : goal.returns-in_err-put_short-2
returns-in_err-put_short-2 g c = grind (arith, common_steps)

pub returns : goal.returns
returns g c = grind (arith, common_steps)
