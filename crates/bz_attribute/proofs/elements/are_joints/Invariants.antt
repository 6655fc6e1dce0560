use Rattle.std.proofs.Common.{◌-◌, ◌≤◌, length, map}
use Rattle.bz_tree.specs.Rows.{part_view}
use Rattle.bz_attribute.proofs.ListWalk.{HasJoints}
use Rattle.bz_attribute.proofs.elements.are_joints.Given as goal

abbrev pub invariant-loop-at : goal.invariant-loop-at
invariant-loop-at l = record {
  within : l.at ≤ length l.parts;
  joints : HasJoints (map part_view l.parts) l.from l.at;
}

abbrev pub decreases-loop-at : goal.decreases-loop-at
decreases-loop-at l = length l.parts - l.at
