-- The steps of a replacement: the writes, the end that is kept, and the end that is not.
use Rattle.std.specs.Prelude.{◌≡◌, ◌≢◌, ◌⊎◌, ℕ, Bool, true, false, List, [], ◌∷◌, ◌++◌, Option, Some, None, Result, Ok, Err, OnOk, OnErr, IsErr, ⊤}
use Rattle.bz_folder.specs.Files.{Content, Files, Event, Remove, SameBut, HasBytes, Along, AnyFails}
use Rattle.bz_folder.specs.Paths.{temporary_path}
use Rattle.bz_folder.specs.Replace.{IsSafe, IsEnd}
use Rattle.bz_folder.specs.DraftValue.{DraftValue, HasSent, IsText}
use Rattle.bz_folder.specs.declared.draft.DraftState.{DraftState}
use Rattle.bz_folder.specs.declared.draft.DraftState.TheVariants.{Unmade, Made, Broken}
use Rattle.bz_devices.specs.declared.device.Failed.{Failed}
use Rattle.bz_folder.specs.declared.trouble.Trouble.{Trouble}
use Rattle.bz_folder.specs.declared.trouble.Trouble.TheVariants.{OutOfMemory, Clean, LeftBehind}

-- these calls make the temporary file where it is not made, and write these bytes at its end
pub record IsSent (state : DraftState) (path bytes : List ℕ) (result : Result ⊤ Failed) (events : List Event) : Type 0 where
  pub written : (sent : List ℕ) (start : Files) → HasSent state path sent start
      → Along (SameBut path start) (λ now. OnOk result (HasBytes path (sent ++ bytes) now)) events start
  pub whole : OnOk result (state ≢ Broken)
  pub cause : OnErr result ((state ≡ Broken) ⊎ AnyFails events)

-- what is there when a text was put in the file's place, or was not
abbrev pub IsPutEnd : List ℕ → Content → Result ⊤ Failed → Files → Files → Type 0
IsPutEnd file content (Ok x) start now = (now file ≡ Some content) × (now (temporary_path file) ≡ None)
IsPutEnd file content (Err e) start now = SameBut (temporary_path file) start now

-- these calls put the text in the file's place, where the temporary file had it before
pub record IsPut (Before : List ℕ → Files → Type 0) (CannotBe : Type 0)
    (file : List ℕ) (mode : ℕ) (result : Result ⊤ Failed) (events : List Event) : Type 0 where
  pub safe : (text : List ℕ) (start now : Files) → SameBut (temporary_path file) start now → Before text now
      → Along (IsSafe file (Some (text, mode)) start) (IsPutEnd file (text, mode) result start) events now
  pub cause : OnErr result (CannotBe ⊎ AnyFails events)

-- the calls that remove what is not to be kept
abbrev pub abandon_calls : DraftState → List ℕ → Bool → List Event
abandon_calls Unmade temporary ok = []
abandon_calls Made temporary ok = (Remove temporary, ok) ∷ []
abandon_calls Broken temporary ok = (Remove temporary, ok) ∷ []

-- what is answered then
abbrev pub abandon_answer : DraftState → Bool → Result Bool Trouble → Result Bool Trouble
abandon_answer Unmade ok answer = answer
abandon_answer Made true answer = answer
abandon_answer Made false answer = Err LeftBehind
abandon_answer Broken true answer = answer
abandon_answer Broken false answer = Err LeftBehind

-- the file that is to be there, if the author's answer is to keep it
abbrev pub wanted_of : Result Bool Failed → List ℕ → ℕ → Option Content
wanted_of (Ok true) text mode = Some (text, mode)
wanted_of (Ok false) text mode = None
wanted_of (Err e) text mode = None

-- the cause of an error after the author's writes
abbrev pub IsFinishCaused : Type 0 → Result Bool Trouble → List Event → Type 0
IsFinishCaused Before (Ok kept) events = ⊤
IsFinishCaused Before (Err (OutOfMemory _)) events = ⊥
IsFinishCaused Before (Err Clean) events = AnyFails events ⊎ Before
IsFinishCaused Before (Err LeftBehind) events = AnyFails events

-- the calls after the author's writes, by the author's answer
pub record IsFinished {D : Type 0} (old : DraftValue D) (file : List ℕ) (mode : ℕ) (answer : Result Bool Failed)
    (result : Result Bool Trouble) (events : List Event) : Type 0 where
  pub safe : (text : List ℕ) (start now : Files) → SameBut (temporary_path file) start now
      → (old.state ≡ Unmade → now (temporary_path file) ≡ start (temporary_path file)) → IsText old text now
      → Along (IsSafe file (wanted_of answer text mode) start) (IsEnd file (wanted_of answer text mode) result start)
      events now
  pub cause : IsFinishCaused (IsErr answer ⊎ (old.state ≡ Broken)) result events
  pub wanted : result ≡ Ok true → answer ≡ Ok true
  pub unwanted : result ≡ Ok false → answer ≡ Ok false
  pub idle : answer ≡ Ok false → old.state ≡ Unmade → events ≡ []
