use Rattle.std.proofs.Common.{take}
use Rattle.std.proofs.lemmas.List.{length-take-le}
use Rattle.bz_token.proofs.Marks.{statement_mask, text_mask}
use Rattle.bz_token.proofs.cutter.marks.marks_in_block.Goals as goal

pub returns-in-Statement : goal.returns-in-Statement
returns-in-Statement c = rw c.in-Statement.is (statement_mask (take 16 c.args.bytes.now) (length-take-le 16 c.args.bytes.now c.requires))

pub returns-in-Text : goal.returns-in-Text
returns-in-Text c = rw c.in-Text.is (text_mask (take 16 c.args.bytes.now) (length-take-le 16 c.args.bytes.now c.requires))
