use Rattle.std.proofs.Common.{arith}
use Rattle.std.proofs.lemmas.Grind.{common_steps}
use Rattle.bz_attribute.proofs.elements.bare_string.Goals as goal

pub returns-in-Beside-clause-text : goal.returns-in-Beside-clause-text
returns-in-Beside-clause-text c = grind (arith, common_steps)

pub returns-in_default-next : goal.returns-in_default-next
returns-in_default-next c = grind (arith, common_steps)

pub returns-in_default-clause-text : goal.returns-in_default-clause-text
returns-in_default-clause-text c = grind (arith, common_steps)
