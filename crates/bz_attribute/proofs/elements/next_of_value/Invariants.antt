use Rattle.std.proofs.Common.{◌-◌, ◌≤◌, length, map}
use Rattle.bz_tree.specs.Rows.{part_view}
use Rattle.bz_attribute.proofs.ValueElements.{HasEmptied}
use Rattle.bz_attribute.proofs.elements.next_of_value.Given as goal

abbrev pub invariant-loop-from : goal.invariant-loop-from
invariant-loop-from l = record {
  within : l.end ≤ length l.parts;
  after : l.at ≤ l.end;
  emptied : HasEmptied (map part_view l.parts) l.at l.end;
}

abbrev pub decreases-loop-from : goal.decreases-loop-from
decreases-loop-from l = length l.parts - l.end
