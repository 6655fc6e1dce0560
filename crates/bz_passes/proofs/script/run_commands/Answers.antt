use Rattle.std.proofs.Common.{arith}
use Rattle.std.proofs.lemmas.Grind.{common_steps}
use Rattle.bz_passes.proofs.script.run_commands.Goals as goal

pub loop-i-preserved : goal.loop-i-preserved
loop-i-preserved g c = grind (arith, common_steps)

pub returns-clause-slot : goal.returns-clause-slot
returns-clause-slot g c = grind (arith, common_steps)

pub returns-clause-logs : goal.returns-clause-logs
returns-clause-logs g c = grind (arith, common_steps)

pub returns-clause-changed : goal.returns-clause-changed
returns-clause-changed g c = grind (arith, common_steps)

pub returns-clause-failed : goal.returns-clause-failed
returns-clause-failed g c = grind (arith, common_steps)
