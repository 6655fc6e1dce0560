use Rattle.std.proofs.Common.{arith}
use Rattle.std.proofs.lemmas.Grind.{common_steps}
use Rattle.bz_attribute.proofs.head.joined_tokens.Goals as goal

pub loop-rest-init : goal.loop-rest-init
loop-rest-init c = grind (arith, common_steps)

pub returns-in_err-push_str : goal.returns-in_err-push_str
returns-in_err-push_str c = grind (arith, common_steps)

pub loop-rest-preserved : goal.loop-rest-preserved
loop-rest-preserved c = grind (arith, common_steps)

pub returns : goal.returns
returns c = grind (arith, common_steps)
