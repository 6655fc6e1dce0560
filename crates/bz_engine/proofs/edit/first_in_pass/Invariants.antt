use Rattle.std.proofs.Common.{◌≡◌, drop, take}
use Rattle.std.specs.List.{flat_map}
use Rattle.bz_passes.specs.Entries.{failure_text}
use Rattle.bz_engine.proofs.edit.first_in_pass.Given as goal

-- no failure was passed
abbrev pub invariant-loop-log : goal.invariant-loop-log
invariant-loop-log l = take 1 (flat_map failure_text (flat_map (λ log. log) (drop l.log-index l.pass.logs))) ≡ take 1 (flat_map failure_text (flat_map (λ log. log) l.pass.logs))
