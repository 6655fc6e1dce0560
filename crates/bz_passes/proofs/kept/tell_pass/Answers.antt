use Rattle.std.proofs.Common.{arith}
use Rattle.std.proofs.lemmas.Grind.{common_steps}
use Rattle.bz_passes.proofs.kept.tell_pass.Goals as goal

pub returns : goal.returns
returns g c = grind (arith, common_steps)
