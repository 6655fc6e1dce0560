use Rattle.bz_token.specs.declared.cutter.Next.TheVariants.{Ends}
use Rattle.bz_token.proofs.CutAnswers.{next_is, block_ended, after_next}
use Rattle.bz_token.proofs.CutAfter.{fresh_after}
use Rattle.bz_token.proofs.cutter.Cutter.goes_on.Goals as goal

pub returns-in-Ends-clause-after : goal.returns-in-Ends-clause-after
returns-in-Ends-clause-after c seen b = rw c.fresh.ensures fresh_after

pub returns-in_default-block_goes_on : goal.returns-in_default-block_goes_on
returns-in_default-block_goes_on c = record {
  next = next_is c.args.self.now c.in-InBlock.word c.block_goes_on.result c.args.at_end c.args.ahead.now c.in-InBlock.is (block_ended c.args.self.now c.requires.at_block.0 c.requires.at_block.1 c.requires.at_block.2) c.block_goes_on.ensures;
  after = after_next c.args.self.now c.block_goes_on.result c.in_default-block_goes_on.not-Ends;
}

pub returns-in_default : goal.returns-in_default
returns-in_default c =
    let here = c.requires.at_block in
    let at = (here.1.waits (block_ended c.args.self.now here.0 here.1 here.2)).1 in
    absurd (c.in_default.not-InBlock at.0 at.1)

pub returns-in-Ends-clause-next : goal.returns-in-Ends-clause-next
returns-in-Ends-clause-next c =
    next_is c.args.self.now c.in-InBlock.word Ends c.args.at_end c.args.ahead.now c.in-InBlock.is (block_ended c.args.self.now c.requires.at_block.0 c.requires.at_block.1 c.requires.at_block.2) c.in-Ends.ensures
