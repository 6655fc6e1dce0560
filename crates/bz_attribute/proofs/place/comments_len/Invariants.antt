use Rattle.std.proofs.Common.{◌≡◌, ◌+◌, ◌-◌, ◌≤◌, length, drop, map}
use Rattle.bz_tree.specs.Rows.{part_view}
use Rattle.bz_attribute.specs.private.Parts as spec
use Rattle.bz_attribute.proofs.place.comments_len.Given as goal

abbrev pub invariant-loop-count : goal.invariant-loop-count
invariant-loop-count l = record {
  within : l.count ≤ length l.parts;
  left : spec.above_len (map part_view l.parts) ≡ l.count + spec.above_len (map part_view (drop l.count l.parts));
}

abbrev pub decreases-loop-count : goal.decreases-loop-count
decreases-loop-count l = length l.parts - l.count
