use Rattle.std.proofs.Common.{arith}
use Rattle.std.proofs.lemmas.Grind.{common_steps}
use Rattle.bz_label.proofs.completed.after.Goals as goal

pub returns-then-first-byte-clause-rest : goal.returns-then-first-byte-clause-rest
returns-then-first-byte-clause-rest c = grind (arith, common_steps)

pub loop-slice-preserved : goal.loop-slice-preserved
loop-slice-preserved c = grind (arith, common_steps)

pub returns-in-Plain-clause-rest : goal.returns-in-Plain-clause-rest
returns-in-Plain-clause-rest c = grind (arith, common_steps)
