use Rattle.std.proofs.Common.{ℕ, List, sym, subst}
use Rattle.bz_engine.specs.Outcome.{IsOutcome, told_by}
use Rattle.bz_engine.proofs.OneOutcome.{one_outcome}
use Rattle.bz_engine.specs.declared.report.Report.{Report}
use Rattle.bz_program.specs.Runs.{Job, IsReadOf, IsRun, run_of}
use Rattle.bz_program.proofs.laws.the_preview_is_the_edit.Goals as goal

outcome_of : (job : Job) (file : List ℕ) (read : List (List ℕ)) (text : List ℕ) (report : Report) → IsReadOf file read → IsRun job read text report
    → IsOutcome (run_of job) file text (told_by report)
outcome_of job file read text report of ran = subst (λ bytes. IsOutcome (run_of job) bytes text (told_by report)) (sym of.file_is) (ran.outcome.each of.rest of.over)

pub returns : goal.returns
returns c job file read other_read text other_text report other_report of other_of ran other_ran =
    one_outcome (run_of job) file text other_text (told_by report) (told_by other_report) (outcome_of job file read text report of ran)
    (outcome_of job file other_read other_text other_report other_of other_ran)
