use Rattle.std.proofs.Common.{◌∙◌, sym, arith}
use Rattle.bz_token.proofs.CutWords.{undecided, decides_if}
use Rattle.bz_token.proofs.cutter.block.block_goes_on.Goals as goal

pub returns-in-empty-2 : goal.returns-in-empty-2
returns-in-empty-2 c =
    let none = undecided c.args.word c.args.ahead.now (omega (arith, c.in-empty.len_below)) in
    (c.if-at_end.false, omega (arith, c.in-empty.len_below), none.0, none.1)

pub returns-in-If : goal.returns-in-If
returns-in-If c =
    decides_if c.args.word c.branch_ahead.result c.args.at_end c.args.ahead.now c.in-If.is c.in-len1-up.len_at_least (sym c.is_white.ensures ∙ c.if-is_white.false) c.branch_ahead.ensures
