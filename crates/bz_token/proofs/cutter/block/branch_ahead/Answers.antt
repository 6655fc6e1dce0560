use Rattle.std.proofs.Common.{◌∙◌, sym, arith}
use Rattle.bz_token.proofs.CutWords.{branch_settled, branch_none, branch_goes, branch_stops}
use Rattle.bz_token.proofs.cutter.block.branch_ahead.Goals as goal

pub returns-then-is_branch : goal.returns-then-is_branch
returns-then-is_branch c rest last = branch_settled c.args.ahead.now rest c.args.at_end c.if-ahead-gt4.either last ∙ sym c.is_branch.ensures ∙ c.if-is_branch.true

pub returns-else-is_branch : goal.returns-else-is_branch
returns-else-is_branch c rest last = branch_settled c.args.ahead.now rest c.args.at_end c.if-ahead-gt4.either last ∙ sym c.is_branch.ensures ∙ c.if-is_branch.false

pub returns-then-is_branch_front : goal.returns-then-is_branch_front
returns-then-is_branch_front c =
    let few = c.if-ahead-gt4.false.1 in
    (c.if-ahead-gt4.false.0, omega (arith, few), branch_goes c.args.ahead.now (sym c.is_branch_front.ensures ∙ c.if-is_branch_front.true), branch_stops c.args.ahead.now few)

pub returns-else-is_branch_front : goal.returns-else-is_branch_front
returns-else-is_branch_front c rest last = branch_none c.args.ahead.now rest c.if-ahead-gt4.false.1 (sym c.is_branch_front.ensures ∙ c.if-is_branch_front.false)
