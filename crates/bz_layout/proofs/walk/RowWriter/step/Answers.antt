use Rattle.std.proofs.Common.{arith}
use Rattle.std.proofs.lemmas.Grind.{common_steps}
use Rattle.bz_layout.proofs.walk.RowWriter.step.Goals as goal

pub returns-then-begins_item : goal.returns-then-begins_item
returns-then-begins_item g c = grind (arith, common_steps)
