use Rattle.std.proofs.Common.{arith}
use Rattle.std.proofs.lemmas.Grind.{common_steps}
use Rattle.bz_rule.proofs.Arriving.{places_more}
use Rattle.bz_rule.proofs.commands.moving.push_places.Goals as goal

pub loop-place-init : goal.loop-place-init
loop-place-init c = grind (arith, common_steps, places_more)

pub returns-in_err-extend_from_slice : goal.returns-in_err-extend_from_slice
returns-in_err-extend_from_slice c = grind (arith, common_steps, places_more)

pub loop-place-preserved : goal.loop-place-preserved
loop-place-preserved c = grind (arith, common_steps, places_more)

pub returns : goal.returns
returns c = grind (arith, common_steps, places_more)
