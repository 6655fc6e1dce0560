use Rattle.std.proofs.Common.{arith}
use Rattle.std.proofs.lemmas.Grind.{common_steps}
use Rattle.bz_rule.proofs.commands.same_value.is_token.Goals as goal

pub returns-in_default : goal.returns-in_default
returns-in_default c = grind (arith, common_steps)

pub returns-in_default-4 : goal.returns-in_default-4
returns-in_default-4 c = grind (arith, common_steps)

pub returns-in_default-3 : goal.returns-in_default-3
returns-in_default-3 c = grind (arith, common_steps)

pub returns-in-String-String : goal.returns-in-String-String
returns-in-String-String c = grind (arith, common_steps)

pub returns-in-Number-Integer : goal.returns-in-Number-Integer
returns-in-Number-Integer c = grind (arith, common_steps)

pub returns-in_default-2 : goal.returns-in_default-2
returns-in_default-2 c = grind (arith, common_steps)

pub returns-in_default-2-2 : goal.returns-in_default-2-2
returns-in_default-2-2 c = grind (arith, common_steps)

pub returns-in_default-2-3 : goal.returns-in_default-2-3
returns-in_default-2-3 c = grind (arith, common_steps)

pub returns-in_default-2-4 : goal.returns-in_default-2-4
returns-in_default-2-4 c = grind (arith, common_steps)
