use Rattle.std.proofs.Common.{◌≡◌, ℕ, ◌≤◌, ◌<◌, ◌-◌, false, get_or, length}
use Rattle.bz_label.specs.Labels.{Target}
use Rattle.bz_passes.specs.Passes.{Pass}
use Rattle.bz_rule.specs.Commands.{Command}
use Rattle.bz_engine.specs.private.Marked.{may_mark_rule}
use Rattle.bz_engine.proofs.marking.next_for.Given as goal

-- no pass so far may mark the rule
abbrev pub invariant-loop-i : goal.invariant-loop-i
invariant-loop-i l = record {
  after : l.from ≤ l.at;
  none : (i : ℕ) (d : Pass Target Command) → l.from ≤ i → i < l.at → may_mark_rule l.rule (get_or l.passes i d).target ≡ false;
}

abbrev pub decreases-loop-i : goal.decreases-loop-i
decreases-loop-i l = length l.passes - l.at
