use Rattle.std.proofs.Common.{◌≡◌, ◌≤◌, ◌<◌, ℕ, get_or, false}
use Rattle.bz_passes.specs.declared.pass.Pass.{Pass}
use Rattle.bz_passes.specs.Asked.{may_mark}
use Rattle.bz_passes.proofs.passes.first_of_few.Given as goal

-- no pass so far may mark what has the key
abbrev pub invariant-loop-i : goal.invariant-loop-i
invariant-loop-i g l = (j : ℕ) (d : Pass g.row.T.Denot g.row.C.Denot) → l.from ≤ j → j < l.i → may_mark l.key (g.T.Keyed.asked (get_or l.passes j d).target) ≡ false
