use Rattle.std.proofs.Common.{◌≡◌, drop, take}
use Rattle.std.specs.List.{flat_map}
use Rattle.bz_passes.specs.Exchange.{log_alone}
use Rattle.bz_passes.specs.Entries.{failure_text}
use Rattle.bz_engine.proofs.edit.first_failure.Given as goal

-- no failure was passed
abbrev pub invariant-loop-pass : goal.invariant-loop-pass
invariant-loop-pass l = take 1 (flat_map failure_text (log_alone (drop l.pass-index l.kept))) ≡ take 1 (flat_map failure_text (log_alone l.kept))
