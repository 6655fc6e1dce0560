-- What the replacement of a file leaves, at each moment and at its end.
use Rattle.std.specs.Prelude.{◌≡◌, ◌≢◌, ◌⊎◌, ℕ, Bool, true, false, List, [], Option, None, IsSome, IfSome, Result, Ok, Err, ⊤}
use Rattle.bz_folder.specs.Files.{Content, Files, Event, Along, AnyFails}
use Rattle.bz_folder.specs.Paths.{temporary_path}
use Rattle.bz_devices.specs.declared.device.Failed.{Failed}
use Rattle.bz_folder.specs.declared.trouble.Trouble.{Trouble}
use Rattle.bz_folder.specs.declared.trouble.Trouble.TheVariants.{OutOfMemory, Clean, LeftBehind}

-- The file is as it was, or wholly what it was to be, if anything was to be kept. Only the temporary file changes besides.
pub record IsSafe (file : List ℕ) (wanted : Option Content) (old now : Files) : Type 0 where
  pub whole : (now file ≡ old file) ⊎ (IsSome wanted × (now file ≡ wanted))
  pub others : (path : List ℕ) → path ≢ file → path ≢ temporary_path file → now path ≡ old path

-- the file is as it was, and no temporary file was left that was not there before
abbrev pub IsUndone : List ℕ → Files → Files → Type 0
IsUndone file old now = (now file ≡ old file)
    × ((now (temporary_path file) ≡ None) ⊎ (now (temporary_path file) ≡ old (temporary_path file)))

-- what an answer says of the end
abbrev pub IsEnd : List ℕ → Option Content → Result Bool Trouble → Files → Files → Type 0
IsEnd file wanted (Ok true) old now = IsSome wanted × (now file ≡ wanted) × (now (temporary_path file) ≡ None)
IsEnd file wanted (Ok false) old now = IsUndone file old now
IsEnd file wanted (Err Clean) old now = IsUndone file old now
IsEnd file wanted (Err (OutOfMemory _)) old now = IsUndone file old now
IsEnd file wanted (Err LeftBehind) old now = now file ≡ old file

-- Whatever is there at first, and wherever the process is killed.
abbrev pub ReplacesSafely : List ℕ → Option Content → Result Bool Trouble → List Event → Type 0
ReplacesSafely file wanted result events =
    (start : Files) → Along (IsSafe file wanted start) (IsEnd file wanted result start) events start

-- each error has its cause: no memory, and no call was made; else a call that failed, or the author
abbrev pub IsCaused : Type 0 → Result Bool Trouble → List Event → Type 0
IsCaused AuthorFailed (Ok kept) events = ⊤
IsCaused AuthorFailed (Err (OutOfMemory _)) events = events ≡ []
IsCaused AuthorFailed (Err Clean) events = AnyFails events ⊎ AuthorFailed
IsCaused AuthorFailed (Err LeftBehind) events = AnyFails events

-- A folder's calls for one file: what the author gave replaced it, or it stays.
pub record Replacement {D A : Type 0} (did : D → List Event → D → Type 0)
    (gives : A → List ℕ → Result Bool Failed → A → Type 0) (folder folder_after : D) (author author_after : A)
    (file : List ℕ) (mode : ℕ) (result : Result Bool Trouble) : Type 0 where
  pub wanted : Option Content
  pub events : List Event
  -- the calls that were made
  pub made : did folder events folder_after
  -- only what the author gave to be kept is ever to be there, with the permission bits that were asked for
  pub kept : IfSome wanted (λ content. gives author content.0 (Ok true) author_after × (content.1 ≡ mode))
  pub safe : ReplacesSafely file wanted result events
  pub caused : IsCaused ((text : List ℕ) × (fault : Failed) × gives author text (Err fault) author_after) result events
