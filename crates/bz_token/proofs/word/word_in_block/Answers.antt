use Rattle.std.proofs.Common.{take}
use Rattle.std.proofs.lemmas.List.{length-take-le}
use Rattle.bz_token.proofs.WordBlocks.{all_word, before_other}
use Rattle.bz_token.proofs.word.word_in_block.Goals as goal

pub returns-then-others-eq0 : goal.returns-then-others-eq0
returns-then-others-eq0 c = all_word (take 16 c.args.bytes.now) (length-take-le 16 c.args.bytes.now c.requires) c.if-others-eq0.true

pub returns : goal.returns
returns c = before_other (take 16 c.args.bytes.now) (length-take-le 16 c.args.bytes.now c.requires) c.if-others-eq0.false
