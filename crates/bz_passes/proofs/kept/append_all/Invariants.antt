use Rattle.std.proofs.Common.{◌≡◌, ◌++◌, drop}
use Rattle.std.specs.List.{flat_map}
use Rattle.bz_passes.proofs.kept.append_all.Given as goal

abbrev pub invariant-loop-i : goal.invariant-loop-i
invariant-loop-i l = l.log ++ flat_map (λ said. said) (drop l.i l.logs) ≡ l.initial.log ++ flat_map (λ said. said) l.initial.logs
