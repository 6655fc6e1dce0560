-- Many replacements, one after another.
use Rattle.std.specs.Prelude.{◌≡◌, ◌⊎◌, ℕ, List, [], ◌∷◌, Option, Some, IfSome, ⊤}
use Rattle.bz_folder.specs.Files.{Content, Files, Event, Along}
use Rattle.bz_folder.specs.Paths.{temporary_path}

-- a file, and what was to be in its place, if anything was to be kept
abbrev pub Wanted : Type 0
Wanted = List ℕ × Option Content

-- one of them is such
abbrev pub AmongWanted : (Wanted → Type 0) → List Wanted → Type 0
AmongWanted P [] = ⊥
AmongWanted P (want ∷ wants) = P want ⊎ AmongWanted P wants

-- Each path is as it was, or it is wholly what was to be there, or it is the path of a temporary file.
abbrev pub IsWholeAt : List Wanted → List ℕ → Files → Files → Type 0
IsWholeAt wants path old now =
    (now path ≡ old path)
    ⊎ ((content : Content) × (now path ≡ Some content) × AmongWanted (λ want. want ≡ (path, Some content)) wants)
    ⊎ AmongWanted (λ want. path ≡ temporary_path want.0) wants

-- Whatever is there at first, and wherever the process is killed, each file is whole. Files may repeat.
abbrev pub KeepsWhole : List Wanted → List Event → Type 0
KeepsWhole wants events =
    (start : Files) → Along (λ now. (path : List ℕ) → IsWholeAt wants path start now) (λ now. ⊤) events start

-- whatever was to be there may be there
abbrev pub EachMay : (List ℕ → Content → Type 0) → List Wanted → Type 0
EachMay May [] = ⊤
EachMay May (want ∷ wants) = IfSome want.1 (May want.0) × EachMay May wants

-- A folder's calls for many files, one after another: at each moment each is as it was, or wholly what may be there.
pub record SafeRun {D : Type 0} (did : D → List Event → D → Type 0) (May : List ℕ → Content → Type 0)
    (folder folder_after : D) : Type 0 where
  pub wants : List Wanted
  pub events : List Event
  -- the calls that were made
  pub made : did folder events folder_after
  pub may : EachMay May wants
  pub whole : KeepsWhole wants events
