use Rattle.std.proofs.Common.{arith}
use Rattle.bz_token.proofs.Tables.{class_read}
use Rattle.bz_token.proofs.table.class_at.Goals as goal

pub returns : goal.returns
returns c = rw c.from.ensures (class_read c.args.b (omega arith))
