use Rattle.std.proofs.Common.{◌≡◌, ℕ, ◌+◌, ◌*◌, List, Bool, true, false, ◌||◌}
use Rattle.std.specs.Prelude.{nat_le}
use Rattle.bz_canonical.specs.private.Segments.{Continues, ContinuesFlat}
use Rattle.bz_canonical.specs.private.Chains.{Chains, IsPrimaryFront, IsTermFront}
use Rattle.bz_canonical.proofs.+values.Given as goal

-- a bracket goes one level deeper: a step down is a part of it
abbrev pub decreases-value::after_nodes : goal.decreases-value::after_nodes
decreases-value::after_nodes l = 13 * l.depth + 9

abbrev pub decreases-value::after_sum : goal.decreases-value::after_sum
decreases-value::after_sum l = 13 * l.depth + 8

abbrev pub decreases-value::after_first : goal.decreases-value::after_first
decreases-value::after_first l = 13 * l.depth + 7

abbrev pub decreases-value::after_operands : goal.decreases-value::after_operands
decreases-value::after_operands l = 13 * l.depth + 6

abbrev pub decreases-value::after_term : goal.decreases-value::after_term
decreases-value::after_term l = 13 * l.depth + 5

abbrev pub decreases-value::after_name_or_call : goal.decreases-value::after_name_or_call
decreases-value::after_name_or_call l = 13 * l.depth + 4

abbrev pub decreases-value::after_suffixes : goal.decreases-value::after_suffixes
decreases-value::after_suffixes l = 13 * l.depth + 3

abbrev pub decreases-group::after_group : goal.decreases-group::after_group
decreases-group::after_group l = 13 * l.depth + 2

abbrev pub decreases-group::after_broken_group : goal.decreases-group::after_broken_group
decreases-group::after_broken_group l = 13 * l.depth + 13

abbrev pub decreases-group::after_flat_group : goal.decreases-group::after_flat_group
decreases-group::after_flat_group l = 13 * l.depth + 13

abbrev pub decreases-segments::after_segments : goal.decreases-segments::after_segments
decreases-segments::after_segments l = 13 * l.depth + 12

abbrev pub decreases-segments::after_flat_segments : goal.decreases-segments::after_flat_segments
decreases-segments::after_flat_segments l = 13 * l.depth + 12

abbrev pub decreases-segments::after_segment : goal.decreases-segments::after_segment
decreases-segments::after_segment l = 13 * l.depth + 11

abbrev pub decreases-segments::after_broken_dict : goal.decreases-segments::after_broken_dict
decreases-segments::after_broken_dict l = 13 * l.depth + 8

abbrev pub decreases-segments::after_argument : goal.decreases-segments::after_argument
decreases-segments::after_argument l = 13 * l.depth + 10

abbrev pub invariant-segments::after_segments-loop-count : goal.invariant-segments::after_segments-loop-count
invariant-segments::after_segments-loop-count l = Continues l.kind l.level l.depth l.text l.rest l.count l.holds l.noted

abbrev pub invariant-segments::after_flat_segments-loop : goal.invariant-segments::after_flat_segments-loop
invariant-segments::after_flat_segments-loop l = (n : ℕ) × (true ≡ nat_le 1 n) × (l.two ≡ nat_le 2 n) × ContinuesFlat l.kind true l.level l.depth l.text l.rest n l.holds

abbrev pub invariant-value::after_operands-loop : goal.invariant-value::after_operands-loop
invariant-value::after_operands-loop l = (all : List ℕ)
    → ((rest : List ℕ) (k : Bool) → IsTermFront l.level l.depth l.text rest k → Chains l.level l.depth all rest (l.before || k))
    → (rest : List ℕ) (k : Bool) → IsTermFront l.level l.depth l.next rest k → Chains l.level l.depth all rest (l.holds || k)

abbrev pub invariant-value::after_suffixes-loop : goal.invariant-value::after_suffixes-loop
invariant-value::after_suffixes-loop l = (all : List ℕ) → IsPrimaryFront l.level l.depth all l.text false → IsPrimaryFront l.level l.depth all l.rest l.holds
