use Rattle.std.proofs.Common.{[], refl, arith}
use Rattle.bz_token.proofs.CutAnswers.{part_no_block}
use Rattle.bz_rule_examples.proofs.tokens.after.Goals as goal

pub line-requires-clause-after : goal.line-requires-clause-after
line-requires-clause-after c = ([], c.new-cutter.ensures.after, omega arith, λ block. absurd (part_no_block [] c.new-cutter.ensures.part block))

pub goes_on-requires : goal.goes_on-requires
goes_on-requires c =
    let block = c.in-Block.ensures in
    let new = c.new-cutter.ensures.after in
    record { at_block = (c.args.header.now, block.after c.requires.newline [] new, (block.block [] new).0 refl) }
