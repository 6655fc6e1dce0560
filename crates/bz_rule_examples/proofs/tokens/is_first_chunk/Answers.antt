use Rattle.std.proofs.Common.{[], arith}
use Rattle.bz_token.proofs.CutAnswers.{part_no_block}
use Rattle.bz_rule_examples.proofs.tokens.is_first_chunk.Goals as goal

-- any line may come first
pub line-requires-clause-after : goal.line-requires-clause-after
line-requires-clause-after c = ([], c.new-cutter.ensures.after, omega arith, λ block. absurd (part_no_block [] c.new-cutter.ensures.part block))
