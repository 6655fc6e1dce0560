use Rattle.bz_attribute.proofs.ListWalk.{no_joint, joints_pass, all_joints, no_joints_after}
use Rattle.std.proofs.Common.{arith}
use Rattle.std.proofs.lemmas.Grind.{common_steps}
use Rattle.bz_attribute.proofs.elements.are_joints.Goals as goal

pub returns-after-loop-at : goal.returns-after-loop-at
returns-after-loop-at c = λ nodes after read. no_joints_after c.args.parts.now c.args.from c.loop-at.at nodes after c.loop-at.invariant.joints c.loop-at-test.false read

pub loop-at-init : goal.loop-at-init
loop-at-init c = grind (arith, common_steps, all_joints, joints_pass, no_joint)

pub loop-at-preserved : goal.loop-at-preserved
loop-at-preserved c = grind (arith, common_steps, all_joints, joints_pass, no_joint)

pub returns-then-not-may_be_in_sum : goal.returns-then-not-may_be_in_sum
returns-then-not-may_be_in_sum c = grind (arith, common_steps, all_joints, joints_pass, no_joint)

pub returns-else-not-is_end : goal.returns-else-not-is_end
returns-else-not-is_end c = grind (arith, common_steps, all_joints, joints_pass, no_joint)
