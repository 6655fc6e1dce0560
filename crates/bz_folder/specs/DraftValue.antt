-- A draft: the text that an author writes, in a temporary file and in the bytes that wait for it.
use Rattle.std.specs.Prelude.{◌≡◌, ◌⊎◌, ℕ, ◌+◌, ◌<◌, List, [], ◌++◌, length, ⊤}
use Rattle.bz_folder.specs.Files.{Files, Event, SameBut, HasBytes, Along, AnyFails}
use Rattle.bz_folder.specs.declared.draft.DraftState.{DraftState}
use Rattle.bz_folder.specs.declared.draft.DraftState.TheVariants.{Unmade, Made, Broken}

-- how many bytes wait at most
abbrev pub capacity : ℕ
capacity = 65536

pub record DraftValue (D : Type 0) : Type 0 where
  pub folder : D
  -- the path of the temporary file
  pub temporary : List ℕ
  -- whether there is a temporary file
  pub state : DraftState
  -- the bytes that were taken and not yet written
  pub waiting : List ℕ
  -- how many writes failed
  pub failures : ℕ

-- at this state the temporary file has these bytes
abbrev pub HasSent : DraftState → List ℕ → List ℕ → Files → Type 0
HasSent Unmade temporary sent files = sent ≡ []
HasSent Made temporary sent files = HasBytes temporary sent files
HasSent Broken temporary sent files = ⊤

-- the temporary file and the bytes that wait are this text, unless a call failed
abbrev pub IsTextAt : DraftState → List ℕ → List ℕ → List ℕ → Files → Type 0
IsTextAt Unmade temporary waiting text files = waiting ≡ text
IsTextAt Made temporary waiting text files = (sent : List ℕ) × HasBytes temporary sent files × (sent ++ waiting ≡ text)
IsTextAt Broken temporary waiting text files = ⊤

abbrev pub IsText : {D : Type 0} → DraftValue D → List ℕ → Files → Type 0
IsText draft text files = IsTextAt draft.state draft.temporary draft.waiting text files

-- a draft took these bytes, and changed nothing but its temporary file
pub record Sent {D : Type 0} (did : D → List Event → D → Type 0) (old new : DraftValue D)
    (bytes : List ℕ) : Type 0 where
  pub events : List Event
  pub made : did old.folder events new.folder
  pub same_path : new.temporary ≡ old.temporary
  pub written : (text : List ℕ) (start : Files) → IsText old text start
      → Along (SameBut old.temporary start) (IsText new (text ++ bytes)) events start
  pub cause : new.state ≡ Broken → (old.state ≡ Broken) ⊎ AnyFails events
  pub unmade : new.state ≡ Unmade → (old.state ≡ Unmade) × (events ≡ [])

-- a draft took these bytes; while they are few it makes no call
pub record Took {D : Type 0} (did : D → List Event → D → Type 0) (old new : DraftValue D)
    (bytes : List ℕ) : Type 0 where
  pub sent : Sent did old new bytes
  pub idle : old.state ≡ Unmade → length old.waiting + length bytes < capacity
      → (new.state ≡ Unmade) × (new.waiting ≡ old.waiting ++ bytes)
