use Rattle.std.proofs.Common.{◌≡◌, ◌++◌, ℕ, List, false, length}
use Rattle.std.specs.List.{list_any}
use Rattle.bz_rule.specs.private.PrintSteps.{is_special}
use Rattle.bz_rule.proofs.commands.print.has_special.Given as goal

-- no byte that was passed is special
abbrev pub invariant-loop-rest : goal.invariant-loop-rest
invariant-loop-rest l = (passed : List ℕ) × (l.word ≡ passed ++ l.rest) × (list_any (is_special l.other) passed ≡ false)

abbrev pub decreases-loop-rest : goal.decreases-loop-rest
decreases-loop-rest l = length l.rest
