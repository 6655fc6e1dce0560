use Rattle.std.proofs.Common.{arith, map}
use Rattle.std.proofs.lemmas.Grind.{common_steps}
use Rattle.bz_token.specs.Places.{placed}
use Rattle.bz_tree.proofs.Trees.Borrowed.{total_append}
use Rattle.bz_tree.proofs.Trees.LogicalLines.{above_is}
use Rattle.bz_tree.proofs.tree.block.comments_above.Goals as goal

pub loop-token-init : goal.loop-token-init
loop-token-init c = let same = above_is (map placed c.args.tokens.now) in grind (arith, common_steps, same)

pub returns-in_default : goal.returns-in_default
returns-in_default c = grind (arith, common_steps)

pub loop-token-preserved : goal.loop-token-preserved
loop-token-preserved c = grind (arith, common_steps, total_append)

pub returns : goal.returns
returns c = grind (arith, common_steps)
