use Rattle.std.proofs.Common.{arith}
use Rattle.std.proofs.lemmas.Grind.{common_steps}
use Rattle.bz_tree.proofs.grammar.role.operator_role.Goals as goal

pub returns-in-46 : goal.returns-in-46
returns-in-46 c = grind (arith, common_steps)

pub returns-in-44 : goal.returns-in-44
returns-in-44 c = grind (arith, common_steps)

pub returns-in-58 : goal.returns-in-58
returns-in-58 c = grind (arith, common_steps)

pub returns-in-61 : goal.returns-in-61
returns-in-61 c = grind (arith, common_steps)

pub returns-in-126 : goal.returns-in-126
returns-in-126 c = grind (arith, common_steps)

pub returns-in-42 : goal.returns-in-42
returns-in-42 c = grind (arith, common_steps)

pub returns-in-43 : goal.returns-in-43
returns-in-43 c = grind (arith, common_steps)

pub returns-in-60 : goal.returns-in-60
returns-in-60 c = grind (arith, common_steps)

pub returns-in-60-2 : goal.returns-in-60-2
returns-in-60-2 c = grind (arith, common_steps)

pub returns-in_default : goal.returns-in_default
returns-in_default c = grind (arith, common_steps)

pub returns-in-empty : goal.returns-in-empty
returns-in-empty c = grind (arith, common_steps)

pub returns-in-empty-2 : goal.returns-in-empty-2
returns-in-empty-2 c = grind (arith, common_steps)

pub returns-in-empty-3 : goal.returns-in-empty-3
returns-in-empty-3 c = grind (arith, common_steps)
