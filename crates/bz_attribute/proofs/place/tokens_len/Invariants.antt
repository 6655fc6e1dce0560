use Rattle.std.proofs.Common.{◌≡◌, ◌+◌, ◌≤◌, length, map}
use Rattle.bz_tree.specs.Rows.{part_view}
use Rattle.bz_attribute.specs.private.Parts as spec
use Rattle.bz_attribute.proofs.place.tokens_len.Given as goal

abbrev pub invariant-loop-rest : goal.invariant-loop-rest
invariant-loop-rest l = record {
  within : length l.rest ≤ length l.parts;
  left : spec.tokens_len (map part_view l.parts) + length l.rest ≡ length l.parts + spec.tokens_len (map part_view l.rest);
}

abbrev pub decreases-loop-rest : goal.decreases-loop-rest
decreases-loop-rest l = length l.rest
