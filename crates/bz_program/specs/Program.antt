-- What the program may put into the files of the packages.
use Rattle.std.specs.Prelude.{ℕ, Bool, ◌||◌, List, Contains}
use Rattle.std.specs.List.{list_all}
use Rattle.bz_engine.specs.Outcome.{Script, is_query}
use Rattle.bz_folder.specs.Files.{Content}
use Rattle.bz_label.specs.Labels.{Package}
use Rattle.bz_program.specs.Files as files
use Rattle.bz_script.specs.Groups.{Step}
use Rattle.bz_script.specs.Packages.{by_package}
use Rattle.bz_program.specs.Runs.{Job}

-- a package, and the passes that are for it
abbrev pub Task : Type 0
Task = Package × Script

-- the job of a package, where failures end the run or not
abbrev pub job_of : Bool → Task → Job
job_of keep_going (home, passes) = record { home = home; passes = passes; keep_going = keep_going }

-- The file of a package of the script may hold the whole text of a run with all its passes that is kept, over what was read of that
-- very file.
pub record MayHold {F : Type 0} (leads : List ℕ → List ℕ → F → Type 0) (gave : F → List (List ℕ) → F → Type 0) (keep_going : Bool) (script : List Step)
    (file : List ℕ) (content : Content) : Type 0 where
  pub task : Task
  pub is_there : Contains (by_package script) task
  pub may : files.MayHold leads gave (job_of keep_going task) file content

-- what is shown on standard output in place of its file: all where the flag says so, and a script that only prints
abbrev pub is_shown : Bool → Script → Bool
is_shown stdout passes = stdout || is_query passes

-- no file of the script's packages is to be replaced
abbrev pub are_shown : Bool → List Step → Bool
are_shown stdout script = list_all (λ task. is_shown stdout task.1) (by_package script)
