use Rattle.std.proofs.Common.{arith}
use Rattle.std.proofs.lemmas.Grind.{common_steps}
use Rattle.std.proofs.lemmas.Result.{IfOk-from_err}
use Rattle.bz_tree.proofs.Trees.BlockLines.{indent_found}
use Rattle.bz_tree.proofs.tree.block.block_indent.Goals as goal

pub returns-in_err-push : goal.returns-in_err-push
returns-in_err-push c = IfOk-from_err _ _ c.from_residual.ensures.0

pub loop-token-init : goal.loop-token-init
loop-token-init c = grind (arith, common_steps, indent_found)

pub returns-in_err-indented-in_default : goal.returns-in_err-indented-in_default
returns-in_err-indented-in_default c = IfOk-from_err _ _ c.from_residual-in_err-indented-in_default.ensures.0

pub returns-then-not-branch : goal.returns-then-not-branch
returns-then-not-branch c = grind (arith, common_steps, indent_found)

pub loop-token-preserved : goal.loop-token-preserved
loop-token-preserved c = grind (arith, common_steps, indent_found)

pub returns : goal.returns
returns c = grind (arith, common_steps, indent_found)
