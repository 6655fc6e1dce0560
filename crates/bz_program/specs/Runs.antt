-- A run over the statements of one file, and when what it wrote is kept (buildozer README, "Error codes"; this project's own rule).
use Rattle.std.specs.Prelude.{◌≡◌, ℕ, ◌<◌, Bool, true, false, ◌&&◌, ◌||◌, not, IsTrue, List, [], ◌∷◌, ◌++◌, length, ⊤}
use Rattle.bz_token.specs.Chunks.{chunks}
use Rattle.bz_token.specs.Places.{line_at}
use Rattle.bz_devices.specs.Device.{ends, NoneEnds, Rises}
use Rattle.bz_engine.specs.EveryFile.{ForEveryFile}
use Rattle.bz_engine.specs.NeededReads.{AreReads}
use Rattle.bz_engine.specs.Outcome.{Script, Run, Told, IsOutcome, IsFrontOf, told_by}
use Rattle.bz_engine.specs.Stops.{HasEndedAt}
use Rattle.bz_engine.specs.declared.options.Options.{Options}
use Rattle.bz_engine.specs.declared.report.Report.{Report}
use Rattle.bz_engine.specs.declared.report.End.{End}
use Rattle.bz_engine.specs.declared.report.End.TheVariants.{Whole, Syntax, FirstFailure}
use Rattle.bz_engine.specs.declared.run_fault.RunFault.{RunFault}
use Rattle.bz_engine.specs.declared.run_fault.RunFault.TheVariants.{OutOfMemory, ReadFailed, WriteFailed, InputTooLong, StatementTooLong, Stopped}
use Rattle.bz_label.specs.Labels.{Package}
use Rattle.std.specs.List.{concat}

-- the most bytes of a statement, the most reads of an input, and the most brackets in one another
abbrev pub max_statement : ℕ
max_statement = 16_777_216

abbrev pub max_reads : ℕ
max_reads = 4_294_967_296

abbrev pub max_depth : ℕ
max_depth = 100

-- what is to be done to a package
pub record Job : Type 0 where
  pub home : Package
  pub passes : Script
  -- whether a failure does not end the run
  pub keep_going : Bool

abbrev pub run_of : Job → Run
run_of job = record { home = job.home; passes = job.passes; keep_going = job.keep_going; max_depth = max_depth }

abbrev pub options_of : Job → Options
options_of job = record { keep_going = job.keep_going; max_statement = max_statement; max_depth = max_depth; max_reads = max_reads }

-- For every file that begins with these reads (where their end was met, for that file), this text and this report are the outcome
-- of the passes over its statements. Each read was needed and keeps to the limits, and no statement is longer than it may be.
pub record IsRun (job : Job) (read : List (List ℕ)) (text : List ℕ) (report : Report) : Type 0 where
  pub reads : AreReads job.home job.passes (options_of job) read
  pub outcome : ForEveryFile read (λ file. IsOutcome (run_of job) file text (told_by report))
  pub ended : HasEndedAt (run_of job) max_statement read report.end

-- these reads gave a front of this file, or, where their end was met, all of it
pub record IsReadOf (file : List ℕ) (read : List (List ℕ)) : Type 0 where
  pub rest : List ℕ
  pub over : IsTrue (ends read) → rest ≡ []
  pub file_is : file ≡ concat read ++ rest

-- For every such file this text is a front of the text of each outcome; the reads as above.
pub record IsFront (job : Job) (read : List (List ℕ)) (text : List ℕ) : Type 0 where
  pub reads : AreReads job.home job.passes (options_of job) read
  pub begins : ForEveryFile read (λ file. (whole : List ℕ) (told : Told) → IsOutcome (run_of job) file whole told → IsFrontOf text whole)

-- a run read from a source and wrote to a sink, and ended with a report
pub record Ran {S W : Type 0} (gave : S → List (List ℕ) → S → Type 0) (took : W → List ℕ → W → Type 0)
    (job : Job) (source source_after : S) (sink sink_after : W) (report : Report) : Type 0 where
  pub read : List (List ℕ)
  pub text : List ℕ
  pub outcome : IsRun job read text report
  pub gave_is : gave source read source_after
  pub took_is : took sink text sink_after

abbrev pub is_whole : End → Bool
is_whole Whole = true
is_whole (Syntax fault) = false
is_whole FirstFailure = false

-- the file was read whole, something changed, and nothing failed or failures do not count
abbrev pub is_kept : Bool → Report → Bool
is_kept keep_going report = is_whole report.end && (report.changed && (keep_going || not report.failed))

-- a text that is kept, and that a run wrote over what reads of this source gave
pub record IsKeptText {S : Type 0} (gave : S → List (List ℕ) → S → Type 0) (source : S) (job : Job) (text : List ℕ) : Type 0 where
  pub read : List (List ℕ)
  pub source_after : S
  pub gave_is : gave source read source_after
  pub report : Report
  pub outcome : IsRun job read text report
  pub kept : is_kept job.keep_going report ≡ true

-- Of a file that begins with these bytes: a chunk begins on this line, and the front of it that stands in the bytes (`seen`)
-- is longer than a chunk may be. `more` is what that chunk has after it, `others` are the chunks after it.
pub record HasTooLong (max_statement line : ℕ) (bytes file : List ℕ) : Type 0 where
  pub before : List (List ℕ)
  pub seen : List ℕ
  pub left : List ℕ
  pub bytes_are : bytes ≡ concat before ++ (seen ++ left)
  pub over : max_statement < length seen
  pub more : List ℕ
  pub others : List (List ℕ)
  pub chunks_are : chunks file ≡ before ++ (seen ++ more) ∷ others
  pub line_is : line ≡ line_at 1 (concat before)

-- Why a run over this source has no report: a read failed, all permitted reads did not meet the end, or a statement is too long. Of
-- memory and of writes nothing is said.
abbrev pub IsFaultOver : {S : Type 0} → (S → List (List ℕ) → S → Type 0) → (S → ℕ) → S → RunFault → S → Type 0
IsFaultOver gave failures source (OutOfMemory _) source_after = ⊤
IsFaultOver gave failures source ReadFailed source_after = Rises (failures source) (failures source_after)
IsFaultOver gave failures source WriteFailed source_after = ⊤
IsFaultOver gave failures source InputTooLong source_after =
    (read : List (List ℕ)) × gave source read source_after × (length read ≡ max_reads) × NoneEnds read
IsFaultOver gave failures source (StatementTooLong line) source_after =
    (read : List (List ℕ)) × gave source read source_after × ForEveryFile read (HasTooLong max_statement line (concat read))
IsFaultOver gave failures source Stopped source_after = ⊥
