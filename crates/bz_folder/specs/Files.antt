-- A file system: what its calls do, and what they may leave where they fail or are cut short.
use Rattle.std.specs.Prelude.{◌≡◌, ◌≢◌, ◌⊎◌, ℕ, Bool, true, false, List, [], ◌∷◌, ◌++◌, Option, Some, None}

-- the bytes of a file, and its permission bits
abbrev pub Content : Type 0
Content = List ℕ × ℕ

-- what is at each path: a file, or nothing
abbrev pub Files : Type 0
Files = List ℕ → Option Content

pub data Call : Type 0 where
  Make : (path : List ℕ) → Call
  Write : (path bytes : List ℕ) → Call
  SetMode : (path : List ℕ) (mode : ℕ) → Call
  Rename : (from to : List ℕ) → Call
  Remove : (path : List ℕ) → Call

-- a call, and whether it succeeded
abbrev pub Event : Type 0
Event = Call × Bool

abbrev pub Same : Files → Files → Type 0
Same old new = (path : List ℕ) → new path ≡ old path

abbrev pub SameBut : List ℕ → Files → Files → Type 0
SameBut path old new = (other : List ℕ) → other ≢ path → new other ≡ old other

-- the file at a path has these bytes, and some permission bits
abbrev pub HasBytes : List ℕ → List ℕ → Files → Type 0
HasBytes path bytes files = (mode : ℕ) × (files path ≡ Some (bytes, mode))

-- what a call leaves that succeeds
abbrev pub Done : Call → Files → Files → Type 0
Done (Make path) old new = HasBytes path [] new × SameBut path old new
Done (Write path bytes) old new =
    ((text : List ℕ) → HasBytes path text old → HasBytes path (text ++ bytes) new) × SameBut path old new
Done (SetMode path mode) old new =
    ((text : List ℕ) → HasBytes path text old → new path ≡ Some (text, mode)) × SameBut path old new
Done (Rename from to) old new =
    (new to ≡ old from) × (new from ≡ None)
    × ((other : List ℕ) → other ≢ from → other ≢ to → new other ≡ old other)
Done (Remove path) old new = (new path ≡ None) × SameBut path old new

-- what a call leaves that fails: a write anything at its path, another what was there
abbrev pub Fails : Call → Files → Files → Type 0
Fails (Write path bytes) old new = SameBut path old new
Fails (Make path) old new = Same old new
Fails (SetMode path mode) old new = Same old new
Fails (Rename from to) old new = Same old new
Fails (Remove path) old new = Same old new

-- what a call leaves, as it succeeded or failed
abbrev pub After : Call → Bool → Files → Files → Type 0
After call true old new = Done call old new
After call false old new = Fails call old new

-- `Always` holds at each moment of these calls, wherever the process is killed, and `Last` at their end.
abbrev pub Along : (Files → Type 0) → (Files → Type 0) → List Event → Files → Type 0
Along Always Last [] files = Always files × Last files
Along Always Last (event ∷ events) files =
    Always files
    × ((new : Files) → Done event.0 files new ⊎ Fails event.0 files new → Always new)
    × ((new : Files) → After event.0 event.1 files new → Along Always Last events new)

-- one of these calls failed
abbrev pub AnyFails : List Event → Type 0
AnyFails [] = ⊥
AnyFails (event ∷ events) = (event.1 ≡ false) ⊎ AnyFails events
