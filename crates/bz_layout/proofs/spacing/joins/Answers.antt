use Rattle.std.proofs.Common.{arith}
use Rattle.std.proofs.lemmas.Grind.{common_steps}
use Rattle.bz_layout.proofs.spacing.joins.Goals as goal

pub returns-in-Some-Index-default : goal.returns-in-Some-Index-default
returns-in-Some-Index-default c = grind (arith, common_steps)

pub returns-in-Some-Call-Start : goal.returns-in-Some-Call-Start
returns-in-Some-Call-Start c = grind (arith, common_steps)

pub returns-then-is_byte-4 : goal.returns-then-is_byte-4
returns-then-is_byte-4 c = grind (arith, common_steps)

pub returns-in_default-Dotted : goal.returns-in_default-Dotted
returns-in_default-Dotted c = grind (arith, common_steps)
