-- A run whose text goes to standard output.
use Rattle.std.specs.Prelude.{◌≡◌, ℕ, List, [], ◌++◌}
use Rattle.bz_engine.specs.Outcome.{status_of}
use Rattle.bz_engine.specs.declared.report.Report.{Report}
use Rattle.bz_engine.specs.declared.run_fault.RunFault.{RunFault}
use Rattle.bz_program.specs.Console.{Shows}
use Rattle.bz_program.specs.Runs.{Job, IsRun, IsFront, IsFaultOver}
use Rattle.bz_program.specs.Texts.{lines_text, messages_text}
use Rattle.bz_program.specs.declared.console.Console.{Console}

-- the text and the printed lines of the run went to standard output, its messages to standard error, and the status is its own
pub record IsStreamed {S O E : Type 0} (gave : S → List (List ℕ) → S → Type 0) (out_took : O → List ℕ → O → Type 0)
    (err_took : E → List ℕ → E → Type 0) (job : Job) (file : List ℕ)
    (source source_after : S) (console console_after : Console O E) (status : ℕ) : Type 0 where
  pub read : List (List ℕ)
  pub text : List ℕ
  pub report : Report
  pub gave_is : gave source read source_after
  pub outcome : IsRun job read text report
  pub shows : Shows out_took err_took console (text ++ lines_text report.lines) (messages_text file report.messages) console_after
  pub status_is : status ≡ status_of report

-- The run has no report for this reason. A front of its text went to standard output, and nothing was told yet.
pub record IsCutShort {S O E : Type 0} (gave : S → List (List ℕ) → S → Type 0) (failures : S → ℕ) (out_took : O → List ℕ → O → Type 0)
    (err_took : E → List ℕ → E → Type 0) (job : Job) (source source_after : S) (console console_after : Console O E) (fault : RunFault) : Type 0 where
  pub cause : IsFaultOver gave failures source fault source_after
  pub read : List (List ℕ)
  pub gave_is : gave source read source_after
  pub shown : List ℕ
  pub front : IsFront job read shown
  pub shows : Shows out_took err_took console shown [] console_after
