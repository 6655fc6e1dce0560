use Rattle.std.proofs.Common.{arith}
use Rattle.std.proofs.lemmas.Grind.{common_steps}
use Rattle.bz_attribute.proofs.word_set.equals_one.Goals as goal

pub loop-word-init : goal.loop-word-init
loop-word-init c = grind (arith, common_steps)

pub returns-then-text_equals : goal.returns-then-text_equals
returns-then-text_equals c = grind (arith, common_steps)

pub loop-word-preserved : goal.loop-word-preserved
loop-word-preserved c = grind (arith, common_steps)

pub returns : goal.returns
returns c = grind (arith, common_steps)
