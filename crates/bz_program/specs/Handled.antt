-- The packages of a script are handled one after another: what each tells, what it leaves of its file, and its status (buildozer README,
-- "Error codes"; this project's own rule). Begin with `IsStatusOfAll`.
use Rattle.std.specs.Prelude.{◌≡◌, ◌⊎◌, ℕ, ◌==◌, Bool, true, false, ◌&&◌, not, if◌then◌else◌, List, [], ◌∷◌, ◌++◌, map, None, Some, codes, string_bytes}
use Rattle.std.specs.List.{flat_map}
use Rattle.bz_folder.specs.Files.{Event}
use Rattle.bz_folder.specs.Sequence.{SafeRun, Wanted}
use Rattle.bz_folder.specs.declared.folder.CannotOpen.{CannotOpen}
use Rattle.bz_folder.specs.declared.folder.CannotOpen.TheVariants.{Absent}
use Rattle.bz_folder.specs.declared.folder.Opened.{Opened}
use Rattle.bz_engine.specs.Outcome.{status_of}
use Rattle.bz_engine.specs.declared.report.Report.{Report}
use Rattle.bz_engine.specs.declared.run_fault.RunFault.{RunFault}
use Rattle.bz_label.specs.Labels.{Package}
use Rattle.bz_script.specs.Groups.{Step}
use Rattle.bz_script.specs.Names.{in_folder}
use Rattle.bz_script.specs.Packages.{by_package}
use Rattle.bz_script.specs.Statuses.{whole_status}
use Rattle.bz_script.specs.declared.flags.Flags.{Flags}
use Rattle.bz_program.specs.Console.{Shows, has_failed}
use Rattle.bz_program.specs.Files.{Leaves, MayHold, MayHoldNothing, IsEdited, IsFileFault}
use Rattle.bz_program.specs.Program.{Task, job_of, is_shown}
use Rattle.bz_program.specs.Runs.{Job, IsRun, IsFront, IsFaultOver}
use Rattle.bz_program.specs.Texts.{lines_text, message_of, messages_text, fixed_told, unopened_text, IsFaultText, IsFileFaultTold}
use Rattle.bz_program.specs.declared.console.Console.{Console}
use Rattle.bz_program.specs.declared.edit_file.FileFault.{FileFault}
use Rattle.bz_program.specs.declared.package.Devices.{Devices}

-- what a package handed to standard output and to standard error, what it put in the place of files, and its status
pub record Account : Type 0 where
  pub shown : List ℕ
  pub told : List ℕ
  pub puts : List Wanted
  pub status : ℕ

-- a package that has no run told this, and failed
abbrev pub failed_account : List ℕ → Account
failed_account told = record { shown = []; told = told; puts = []; status = 2 }

-- of a run whose text goes to standard output: first the text, then the printed lines
abbrev pub streamed_account : List ℕ → List ℕ → Report → Account
streamed_account name text report =
    record { shown = text ++ lines_text report.lines; told = messages_text name report.messages; puts = []; status = status_of report }

-- of one that has no report: what it had written until then, and the reason alone
abbrev pub cut_account : List ℕ → List ℕ → List ℕ → Account
cut_account name shown why = record { shown = shown; told = message_of name why; puts = []; status = 2 }

-- of a file that is edited in its place: it holds the run's text and its own permission bits where it was replaced
abbrev pub edited_account : {F : Type 0} → Bool → List ℕ → Opened F → List ℕ → Report → Bool → Account
edited_account quiet name opened text report replaced = record {
  shown = lines_text report.lines;
  told = fixed_told quiet replaced name ++ messages_text name report.messages;
  puts = (string_bytes opened.path, if replaced then Some (text, opened.mode) else None) ∷ [];
  status = status_of report;
}

-- of one for which that failed: what is told of it alone
abbrev pub kept_account : {F : Type 0} → Opened F → List ℕ → Account
kept_account opened told = record { shown = []; told = told; puts = (string_bytes opened.path, None) ∷ []; status = 2 }

-- the account of a run over this source whose text goes to standard output, and what is told after this name
pub record IsStreamedAs {S : Type 0} (gave : S → List (List ℕ) → S → Type 0) (job : Job) (name : List ℕ) (source source_after : S) (account : Account) : Type 0 where
  pub read : List (List ℕ)
  pub gave_is : gave source read source_after
  pub text : List ℕ
  pub report : Report
  pub outcome : IsRun job read text report
  pub account_is : account ≡ streamed_account name text report

-- the account of one that has no report, for a reason that is true
pub record IsCutAs {S : Type 0} (gave : S → List (List ℕ) → S → Type 0) (failures : S → ℕ) (job : Job) (name : List ℕ) (source source_after : S) (account : Account)
    : Type 0 where
  pub fault : RunFault
  pub cause : IsFaultOver gave failures source fault source_after
  pub read : List (List ℕ)
  pub gave_is : gave source read source_after
  pub shown : List ℕ
  pub front : IsFront job read shown
  pub why : List ℕ
  pub why_is : IsFaultText fault why
  pub account_is : account ≡ cut_account name shown why

abbrev pub IsShownAs : {S : Type 0} → (S → List (List ℕ) → S → Type 0) → (S → ℕ) → Job → List ℕ → S → S → Account → Type 0
IsShownAs gave failures job name source source_after account =
    IsStreamedAs gave job name source source_after account ⊎ IsCutAs gave failures job name source source_after account

-- the account of a file that is edited in its place: by a run over it, and replaced exactly where the run's text is kept
pub record IsEditedAs {F : Type 0} (gave : F → List (List ℕ) → F → Type 0) (job : Job) (quiet : Bool) (name : List ℕ) (opened : Opened F) (account : Account) : Type 0 where
  pub report : Report
  pub replaced : Bool
  pub edited : IsEdited gave opened.source job report replaced
  pub account_is : account ≡ edited_account quiet name opened edited.text report replaced

-- the account of one for which that failed, for a reason that is true; it holds what it had
pub record IsKeptAs {F : Type 0} (gave : F → List (List ℕ) → F → Type 0) (failures : F → ℕ) (name : List ℕ) (opened : Opened F) (account : Account) : Type 0 where
  pub fault : FileFault
  pub cause : IsFileFault gave failures opened.source fault
  pub told : List ℕ
  pub told_is : IsFileFaultTold name fault told
  pub account_is : account ≡ kept_account opened told

-- The account of a file that was opened: it is shown where the flags say so or all commands print, and else edited in its place.
abbrev pub IsOpenedAs : {F : Type 0} → (F → List (List ℕ) → F → Type 0) → (F → ℕ) → Flags → Job → List ℕ → Opened F → Account → Type 0
IsOpenedAs {F} gave failures flags job name opened account =
    ((is_shown flags.stdout job.passes ≡ true) × (source_after : F) × IsShownAs gave failures job name opened.source source_after account)
    ⊎ ((is_shown flags.stdout job.passes ≡ false)
    × (IsEditedAs gave job flags.quiet name opened account ⊎ IsKeptAs gave failures name opened account))

-- the first of two paths, or the second where nothing is at the first
abbrev pub IsFirst : {D : Type 0} → (D → List ℕ → Type 0) → D → List ℕ → List ℕ → List ℕ → Type 0
IsFirst absent folder first second path = (path ≡ first) ⊎ (absent folder first × (path ≡ second))

-- the two paths of a package's BUILD file
abbrev pub AreFilesOf : Package → List ℕ → List ℕ → Type 0
AreFilesOf None first second = ⊥
AreFilesOf (Some home) first second = (first ≡ in_folder home (codes "BUILD.bazel")) × (second ≡ in_folder home (codes "BUILD"))

-- the path of a package's BUILD file that is tried last
pub record IsTried {D : Type 0} (absent : D → List ℕ → Type 0) (folder : D) (home : Package) (path : List ℕ) : Type 0 where
  pub first : List ℕ
  pub second : List ℕ
  pub are : AreFilesOf home first second
  pub is_first : IsFirst absent folder first second path

-- a file that was opened at that path
pub record IsOpened {D F : Type 0} (leads : List ℕ → List ℕ → F → Type 0) (absent : D → List ℕ → Type 0) (folder : D) (home : Package) (path : List ℕ) (opened : Opened F)
    : Type 0 where
  pub tried : IsTried absent folder home path
  pub leads_to : leads path (string_bytes opened.path) opened.source

-- the path of a package's folder, where it has one
abbrev pub folder_of : Package → List ℕ
folder_of None = []
folder_of (Some home) = home

-- the account of a file that cannot be opened at that path; of one that is told to be absent, the folder said so
pub record IsUnopenedAs {D : Type 0} (absent : D → List ℕ → Type 0) (folder : D) (home : Package) (path : List ℕ) (account : Account) : Type 0 where
  pub tried : IsTried absent folder home path
  pub why : CannotOpen
  pub absent_note : why ≡ Absent → absent folder path
  pub account_is : account ≡ failed_account (unopened_text (folder_of home) path why)

-- the account of the file at that path
abbrev pub IsFileAs : {D F : Type 0} → (List ℕ → List ℕ → F → Type 0) → (D → List ℕ → Type 0) → (F → List (List ℕ) → F → Type 0) → (F → ℕ) → Flags → Job → D → Account → Type 0
IsFileAs {D} {F} leads absent gave failures flags job folder account =
    (path : List ℕ)
    × (IsUnopenedAs absent folder job.home path account
    ⊎ ((opened : Opened F) × IsOpened leads absent folder job.home path opened × IsOpenedAs gave failures flags job path opened account))

-- This is what was done for a package: both outputs were handed it, the folder was left so, and the status is the package's own.
pub record HasAccount {D O E : Type 0} (did : D → List Event → D → Type 0) (out_took : O → List ℕ → O → Type 0) (err_took : E → List ℕ → E → Type 0)
    (Is : Account → Type 0) (folder folder_after : D) (console console_after : Console O E) (status : ℕ) : Type 0 where
  pub account : Account
  pub is_its : Is account
  pub left : Leaves did account.puts folder folder_after
  pub shows : Shows out_took err_took console account.shown account.told console_after
  pub status_is : status ≡ account.status

-- At each moment each file has what it had, or what it may hold. At status 3 no file was touched, but for a temporary one. A run that
-- is shown changes no folder.
pub record LeavesFiles {D F : Type 0} (did : D → List Event → D → Type 0) (leads : List ℕ → List ℕ → F → Type 0) (gave : F → List (List ℕ) → F → Type 0)
    (stdout : Bool) (job : Job) (folder folder_after : D) (status : ℕ) : Type 0 where
  pub safe : SafeRun did (MayHold leads gave job) folder folder_after
  pub idle : status ≡ 3 → SafeRun did MayHoldNothing folder folder_after
  pub shown : is_shown stdout job.passes ≡ true → did folder [] folder_after

-- whether no package comes after one with this status
abbrev pub is_last : Bool → ℕ → Bool
is_last keep_going status = not keep_going && status == 2

-- a package's account, and its status in the end
abbrev pub Done : Type 0
Done = Account × ℕ

module _ {D F S : Type 0} (leads : List ℕ → List ℕ → F → Type 0) (absent : D → List ℕ → Type 0)
    (gave : F → List (List ℕ) → F → Type 0) (failures : F → ℕ) (input_gave : S → List (List ℕ) → S → Type 0) (input_failures : S → ℕ) (flags : Flags) where
  -- The account of a package: of its file, or, where it has none, of standard input. Without memory for the paths of its file it failed.
  abbrev pub IsAccountAt : Package → Job → D → S → S → Account → Type 0
  IsAccountAt None job folder input input_after account = IsShownAs input_gave input_failures job (codes "-") input input_after account
  IsAccountAt (Some home) job folder input input_after account =
      (input_after ≡ input)
      × ((account ≡ failed_account (message_of home (codes "out of memory"))) ⊎ IsFileAs leads absent gave failures flags job folder account)

  abbrev pub IsAccountOf : Job → D → S → S → Account → Type 0
  IsAccountOf job folder input input_after account = IsAccountAt job.home job folder input input_after account

module _ {D F S O E : Type 0} (did : D → List Event → D → Type 0) (leads : List ℕ → List ℕ → F → Type 0) (absent : D → List ℕ → Type 0)
    (gave : F → List (List ℕ) → F → Type 0) (failures : F → ℕ) (input_gave : S → List (List ℕ) → S → Type 0) (input_failures : S → ℕ)
    (out_took : O → List ℕ → O → Type 0) (err_took : E → List ℕ → E → Type 0) (flags : Flags) where
  -- A package was handled, and this is its account. Its status is 2 where an output has failed.
  pub record IsHandled (job : Job) (devices devices_after : Devices D S O E) (account : Account) (status : ℕ) : Type 0 where
    pub is_its : IsAccountOf leads absent gave failures input_gave input_failures flags job devices.draft.folder devices.input devices_after.input account
    pub left : Leaves did account.puts devices.draft.folder devices_after.draft.folder
    pub shows : Shows out_took err_took devices.console account.shown account.told devices_after.console
    pub status_is : status ≡ (if has_failed devices_after.console then 2 else account.status)

  -- Each package was handled, in order, up to the one that is the last. What it reads and writes goes from each to the next.
  abbrev pub AreHandled : List Task → Devices D S O E → List Done → Devices D S O E → Type 0
  AreHandled [] devices dones devices_after = (dones ≡ []) × (devices_after ≡ devices)
  AreHandled (task ∷ tasks) devices [] devices_after = ⊥
  AreHandled (task ∷ tasks) devices (done ∷ dones) devices_after =
      (devices_then : Devices D S O E) × IsHandled (job_of flags.k task) devices devices_then done.0 done.1
      × (is_last flags.k done.1 ≡ true → (dones ≡ []) × (devices_after ≡ devices_then))
      × (is_last flags.k done.1 ≡ false → AreHandled tasks devices_then dones devices_after)

  -- The packages of a script were handled, and this is the status of the whole run. In the end each file has what was put there last, or
  -- what it had, and both outputs were handed what each package showed and told, in order.
  pub record IsStatusOfAll (script : List Step) (devices devices_after : Devices D S O E) (whole : ℕ) : Type 0 where
    pub dones : List Done
    pub handled : AreHandled (by_package script) devices dones devices_after
    pub whole_is : whole ≡ whole_status (map (λ done. done.1) dones)
    pub left : Leaves did (flat_map (λ done. done.0.puts) dones) devices.draft.folder devices_after.draft.folder
    pub shows : Shows out_took err_took devices.console (flat_map (λ done. done.0.shown) dones) (flat_map (λ done. done.0.told) dones) devices_after.console
