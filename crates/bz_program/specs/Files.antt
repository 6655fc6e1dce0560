-- What files may hold while the program edits them.
use Rattle.std.specs.Prelude.{◌≡◌, ◌≢◌, ℕ, Bool, true, false, List, [], ◌∷◌, Option, Some, None, Result, Ok, Err, ⊤, string_bytes}
use Rattle.bz_folder.specs.Files.{Content, Files, Event, Along}
use Rattle.bz_folder.specs.Paths.{temporary_path}
use Rattle.bz_folder.specs.Sequence.{Wanted, AmongWanted}
use Rattle.bz_folder.specs.declared.folder.Opened.{Opened}
use Rattle.bz_engine.specs.declared.report.Report.{Report}
use Rattle.bz_engine.specs.declared.run_fault.RunFault.{RunFault}
use Rattle.bz_engine.specs.declared.run_fault.RunFault.TheVariants.{OutOfMemory, ReadFailed, WriteFailed, InputTooLong, StatementTooLong, Stopped}
use Rattle.bz_program.specs.declared.edit_file.FileFault.{FileFault}
use Rattle.bz_program.specs.declared.edit_file.FileFault.TheVariants.{Run, CannotWrite}
use Rattle.bz_label.specs.Labels.{Package}
use Rattle.bz_script.specs.Names.{IsBuildPath}
use Rattle.bz_program.specs.Runs.{Job, IsRun, is_kept, IsKeptText, IsFaultOver}

-- what is opened at a path of a package's BUILD file may be this file, and it is read from this source
pub record IsFileOf {F : Type 0} (leads : List ℕ → List ℕ → F → Type 0) (home : Package) (file : List ℕ) (source : F) : Type 0 where
  pub path : List ℕ
  pub is_its : IsBuildPath home path
  pub leads_to : leads path file source

-- the package's file may hold the whole text of a run that is kept, over what was read of that very file
pub record MayHold {F : Type 0} (leads : List ℕ → List ℕ → F → Type 0) (gave : F → List (List ℕ) → F → Type 0) (job : Job)
    (file : List ℕ) (content : Content) : Type 0 where
  pub source : F
  pub is_its : IsFileOf leads job.home file source
  pub kept : IsKeptText gave source job content.0

-- one file alone may hold the whole text of a run that is kept, over what was read of this source
pub record MayBe {S : Type 0} (gave : S → List (List ℕ) → S → Type 0) (source : S) (job : Job) (edited file : List ℕ) (content : Content) : Type 0 where
  pub is_it : file ≡ edited
  pub kept : IsKeptText gave source job content.0

-- no file may hold anything new
abbrev pub MayHoldNothing : List ℕ → Content → Type 0
MayHoldNothing file content = ⊥

-- the report is that of a run over what was read of this source, and the file was replaced exactly where the run's text is kept
pub record IsEdited {S : Type 0} (gave : S → List (List ℕ) → S → Type 0) (source : S) (job : Job) (report : Report) (replaced : Bool) : Type 0 where
  pub read : List (List ℕ)
  pub source_after : S
  pub gave_is : gave source read source_after
  pub text : List ℕ
  pub outcome : IsRun job read text report
  pub replaced_is : replaced ≡ is_kept job.keep_going report

-- why a file was not edited, where its run has no report for this reason: what it could not write is the file
abbrev pub file_fault : RunFault → FileFault
file_fault (OutOfMemory why) = Run (OutOfMemory why)
file_fault ReadFailed = Run ReadFailed
file_fault WriteFailed = CannotWrite
file_fault InputTooLong = Run InputTooLong
file_fault (StatementTooLong line) = Run (StatementTooLong line)
file_fault Stopped = Run Stopped

-- why a file was not edited is true: of the run over it; of memory and of the calls for its folder nothing is said
abbrev pub IsFileFault : {S : Type 0} → (S → List (List ℕ) → S → Type 0) → (S → ℕ) → S → FileFault → Type 0
IsFileFault {S} gave failures source (Run fault) = (source_after : S) × IsFaultOver gave failures source fault source_after
IsFileFault gave failures source CannotWrite = ⊤

-- a fault that is not the run's
abbrev pub IsOfFolder : FileFault → Type 0
IsOfFolder CannotWrite = ⊤
IsOfFolder (Run (OutOfMemory why)) = ⊤
IsOfFolder (Run ReadFailed) = ⊥
IsOfFolder (Run WriteFailed) = ⊥
IsOfFolder (Run InputTooLong) = ⊥
IsOfFolder (Run (StatementTooLong line)) = ⊥
IsOfFolder (Run Stopped) = ⊥

-- what is at a path after each of these was put in the place of its file, one after another, where it is something
abbrev pub Holds : List Wanted → List ℕ → Option Content → Option Content → Type 0
Holds [] path old now = now ≡ old
Holds ((file, None) ∷ puts) path old now = Holds puts path old now
Holds ((file, Some content) ∷ puts) path old now = (path ≡ file → Holds puts path (Some content) now) × (path ≢ file → Holds puts path old now)

-- each path holds this, but for those of the files' temporary ones
abbrev pub AreLeft : List Wanted → Files → Files → Type 0
AreLeft puts old now = (path : List ℕ) → (AmongWanted (λ put. path ≡ temporary_path put.0) puts → ⊥) → Holds puts path (old path) (now path)

-- after the calls that were made the files are left so, whatever was there at first
pub record Leaves {D : Type 0} (did : D → List Event → D → Type 0) (puts : List Wanted) (folder folder_after : D) : Type 0 where
  pub events : List Event
  pub made : did folder events folder_after
  pub left : (start : Files) → Along (λ now. ⊤) (AreLeft puts start) events start

-- The file that was opened has, in the end, the text of the run that told this report, and the permission bits that it had, where this
-- is told to have replaced it. Else it has what it had.
abbrev pub IsPlaced : {S D F : Type 0} → (S → List (List ℕ) → S → Type 0) → (D → List Event → D → Type 0) → Job → Opened S → Result (Report × Bool) F → D → D → Type 0
IsPlaced gave did job opened (Ok (report, true)) folder folder_after =
    (edited : IsEdited gave opened.source job report true) × Leaves did ((string_bytes opened.path, Some (edited.text, opened.mode)) ∷ []) folder folder_after
IsPlaced gave did job opened (Ok (report, false)) folder folder_after = Leaves did ((string_bytes opened.path, None) ∷ []) folder folder_after
IsPlaced gave did job opened (Err fault) folder folder_after = Leaves did ((string_bytes opened.path, None) ∷ []) folder folder_after
