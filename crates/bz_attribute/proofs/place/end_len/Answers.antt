use Rattle.std.proofs.Common.{arith}
use Rattle.std.proofs.lemmas.Grind.{common_steps}
use Rattle.bz_attribute.proofs.place.end_len.Goals as goal

pub returns-in-empty-clause-len : goal.returns-in-empty-clause-len
returns-in-empty-clause-len c = grind (arith, common_steps)

pub returns-in-End-clause-len : goal.returns-in-End-clause-len
returns-in-End-clause-len c = grind (arith, common_steps)

pub returns-in_default-clause-len : goal.returns-in_default-clause-len
returns-in_default-clause-len c = grind (arith, common_steps)

pub returns-in_default-2 : goal.returns-in_default-2
returns-in_default-2 c = grind (arith, common_steps)

pub returns-in_default-3 : goal.returns-in_default-3
returns-in_default-3 c = grind (arith, common_steps)
