use Rattle.std.proofs.Common.{arith}
use Rattle.std.proofs.lemmas.Grind.{common_steps}
use Rattle.bz_attribute.proofs.EndsBack.{last_plain_at, all_comments}
use Rattle.bz_attribute.proofs.place.comments_begin.Goals as goal

pub loop-at-init : goal.loop-at-init
loop-at-init c = grind (arith, common_steps, last_plain_at, all_comments)

pub loop-at-preserved : goal.loop-at-preserved
loop-at-preserved c = grind (arith, common_steps, last_plain_at, all_comments)

pub returns-else-is_above-clause-begin : goal.returns-else-is_above-clause-begin
returns-else-is_above-clause-begin c = grind (arith, common_steps, last_plain_at, all_comments)

pub returns-after-loop-at-clause-begin : goal.returns-after-loop-at-clause-begin
returns-after-loop-at-clause-begin c = grind (arith, common_steps, last_plain_at, all_comments)
