use Rattle.std.proofs.Common.{◌≡◌, ℕ, ◌≤◌, ◌<◌, ◌-◌, false, get_or, length}
use Rattle.bz_passes.proofs.script.next_marked.Given as goal

abbrev pub invariant-loop-i : goal.invariant-loop-i
invariant-loop-i g l = record {
  after : l.from ≤ l.at;
  none : (i : ℕ) (d : _) → l.from ≤ i → i < l.at → (g.L.Language.meaning l.language).marks (get_or l.passes i d).target (g.L.Language.seen l.slot) ≡ false;
}

abbrev pub decreases-loop-i : goal.decreases-loop-i
decreases-loop-i g l = length l.passes - l.at
