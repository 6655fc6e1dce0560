use Rattle.std.proofs.Common.{◌≡◌, ◌+◌, ◌-◌, ◌≤◌, length, drop, map}
use Rattle.bz_tree.specs.Rows.{part_view}
use Rattle.bz_attribute.specs.private.Parts as spec
use Rattle.bz_attribute.proofs.place.parts_len.Given as goal

abbrev pub invariant-loop-count : goal.invariant-loop-count
invariant-loop-count l = record {
  within : l.count ≤ length l.parts;
  depth : l.depth ≤ l.count;
  left : spec.parts_len l.at_end 0 (map part_view l.parts) ≡ l.count + spec.parts_len l.at_end l.depth (map part_view (drop l.count l.parts));
}

abbrev pub decreases-loop-count : goal.decreases-loop-count
decreases-loop-count l = length l.parts - l.count
