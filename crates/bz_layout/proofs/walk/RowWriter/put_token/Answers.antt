use Rattle.std.proofs.Common.{arith}
use Rattle.std.proofs.lemmas.Grind.{common_steps}
use Rattle.bz_layout.proofs.walk.RowWriter.put_token.Goals as goal

pub returns-in_err-put_gap : goal.returns-in_err-put_gap
returns-in_err-put_gap g c = grind (arith, common_steps)

pub returns-in_err-put_written : goal.returns-in_err-put_written
returns-in_err-put_written g c = grind (arith, common_steps)

pub returns : goal.returns
returns g c = grind (arith, common_steps)
