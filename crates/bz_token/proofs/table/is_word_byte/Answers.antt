use Rattle.std.proofs.Common.{arith}
use Rattle.bz_token.proofs.Tables.{word_read}
use Rattle.bz_token.proofs.table.is_word_byte.Goals as goal

pub returns : goal.returns
returns c = rw c.from.ensures (word_read c.args.b (omega arith))
