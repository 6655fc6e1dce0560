use Rattle.std.proofs.Common.{arith}
use Rattle.bz_canonical.proofs.AskedRules.{parts_asked}
use Rattle.bz_canonical.proofs.asked.asked_parts.Goals as goal

pub returns : goal.returns
returns c = λ args is. parts_asked args c.args.rule.now _ is (omega arith)
