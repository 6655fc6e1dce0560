-- What a run gives as the author of a file's new text.
use Rattle.std.specs.Prelude.{◌≡◌, ◌⊎◌, ℕ, Bool, List, Option, Some, None, Result, Ok, Err}
use Rattle.bz_devices.specs.declared.device.Failed.{Failed}
use Rattle.bz_engine.specs.declared.report.Report.{Report}
use Rattle.bz_program.specs.declared.file_run.Ended.{Ended}
use Rattle.bz_program.specs.declared.file_run.Ended.TheVariants.{Told, Failed as EndedByFault}
use Rattle.bz_engine.specs.declared.run_fault.RunFault.{RunFault}
use Rattle.bz_program.specs.Runs.{Job, IsRun, is_kept, IsFaultOver}

-- the run that was asked for gave this text, told this report, and answered whether the text is kept
pub record GaveText {S : Type 0} (gave : S → List (List ℕ) → S → Type 0) (job : Option Job) (source : S) (text : List ℕ) (kept : Bool)
    (source_after : S) (ended : Ended) : Type 0 where
  pub was : Job
  pub job_is : job ≡ Some was
  pub report : Report
  pub ended_is : ended ≡ Told report
  pub read : List (List ℕ)
  pub gave_is : gave source read source_after
  pub outcome : IsRun was read text report
  pub kept_is : kept ≡ is_kept was.keep_going report

-- nothing was asked for any more, or the run failed, and this is why
abbrev pub GaveNone : {S : Type 0} → (S → List (List ℕ) → S → Type 0) → (S → ℕ) → Option Job → S → S → Ended → Type 0
GaveNone gave failures job source source_after ended =
    (job ≡ None) ⊎ ((fault : RunFault) × (ended ≡ EndedByFault fault) × IsFaultOver gave failures source fault source_after)

abbrev pub GaveAnswer : {S : Type 0} → (S → List (List ℕ) → S → Type 0) → (S → ℕ) → Option Job → S → List ℕ → Result Bool Failed → S
    → Ended → Type 0
GaveAnswer gave failures job source text (Ok kept) source_after ended = GaveText gave job source text kept source_after ended
GaveAnswer gave failures job source text (Err failed) source_after ended = GaveNone gave failures job source source_after ended
