use Rattle.std.proofs.Common.{◌≡◌, ◌+◌, ◌*◌, ◌++◌, ℕ, List, true, false}
use Rattle.std.specs.Prelude.{not}
use Rattle.bz_canonical.specs.private.Otherwise.{ChainsWritten, ContinuesWritten, IsPrimaryWritten, IsTermWritten, Writes, form_of}
use Rattle.bz_canonical.proofs.+otherwise.Given as goal

-- a bracket goes one level deeper: a step down is a part of it
abbrev pub decreases-otherwise::put_nodes : goal.decreases-otherwise::put_nodes
decreases-otherwise::put_nodes l = 12 * l.at.depth + 7

abbrev pub decreases-otherwise::put_operands : goal.decreases-otherwise::put_operands
decreases-otherwise::put_operands l = 12 * l.at.depth + 6

abbrev pub decreases-otherwise::put_term : goal.decreases-otherwise::put_term
decreases-otherwise::put_term l = 12 * l.at.depth + 5

abbrev pub decreases-otherwise::put_name_or_call : goal.decreases-otherwise::put_name_or_call
decreases-otherwise::put_name_or_call l = 12 * l.at.depth + 4

abbrev pub decreases-otherwise::put_suffixes : goal.decreases-otherwise::put_suffixes
decreases-otherwise::put_suffixes l = 12 * l.at.depth + 3

abbrev pub decreases-otherwise_groups::put_group : goal.decreases-otherwise_groups::put_group
decreases-otherwise_groups::put_group l = 12 * l.at.depth + 1

abbrev pub decreases-otherwise_groups::put_segments : goal.decreases-otherwise_groups::put_segments
decreases-otherwise_groups::put_segments l = 12 * l.at.depth + 12

abbrev pub decreases-otherwise_segments::put_framed : goal.decreases-otherwise_segments::put_framed
decreases-otherwise_segments::put_framed l = 12 * l.at.depth + 11

abbrev pub decreases-otherwise_segments::put_segment : goal.decreases-otherwise_segments::put_segment
decreases-otherwise_segments::put_segment l = 12 * l.at.depth + 10

abbrev pub decreases-otherwise_segments::put_entry : goal.decreases-otherwise_segments::put_entry
decreases-otherwise_segments::put_entry l = 12 * l.at.depth + 9

abbrev pub decreases-otherwise_segments::put_argument : goal.decreases-otherwise_segments::put_argument
decreases-otherwise_segments::put_argument l = 12 * l.at.depth + 8

abbrev pub invariant-otherwise::put_operands-loop : goal.invariant-otherwise::put_operands-loop
invariant-otherwise::put_operands-loop l = Writes l.fn.written.items l.written.items (λ w. (all v : List ℕ)
    → IsTermWritten l.at.stands l.at.out l.at.depth all l.first.rest.now v l.first.holds → ChainsWritten l.at.stands l.at.out l.at.depth all l.rest (v ++ w) l.holds)

abbrev pub invariant-otherwise::put_suffixes-loop : goal.invariant-otherwise::put_suffixes-loop
invariant-otherwise::put_suffixes-loop l = Writes l.fn.written.items l.written.items (λ w. (all v : List ℕ)
    → IsPrimaryWritten l.at.stands l.at.out l.at.depth all l.text v false → IsPrimaryWritten l.at.stands l.at.out l.at.depth all l.rest (v ++ w) l.holds)

abbrev pub invariant-otherwise_groups::put_segments-loop-count : goal.invariant-otherwise_groups::put_segments-loop-count
invariant-otherwise_groups::put_segments-loop-count l = (l.form.lines ≡ false → l.noted ≡ false)
    × Writes l.fn.written.items l.written.items (λ w. ContinuesWritten l.form.kind (form_of l.form.lines l.form.broken) true (not l.one) l.at.stands l.at.out l.at.depth l.inside l.rest w l.count l.holds l.noted)
