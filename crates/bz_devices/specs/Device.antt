-- Devices: what reads gave, whether they met the end, and counts of bytes and failures (this project's own
-- rule). One piece stands for one read; an empty one is the end of the input. A read gives at most 8,192 bytes
-- (`PIECE` of `src/input.rt`); definitions name this number as it is.
-- Begin with `ends`, `MayFollow`, `NoneEnds` and `Rises`.
-- `run` reaches these four alone.
use Rattle.std.specs.Prelude.{◌≡◌, ℕ, ◌+◌, ◌<◌, ◌≤◌, ◌-◌, ◌^◌, Bool, false, IsTrue, List, [], ◌∷◌, ◌++◌, Option, None, Some, ⊤, true, length}
use Rattle.bz_token.specs.Common.{is_empty, last_of, map_or}
use Rattle.std.specs.List.{concat, AllByRecursion}

-- whether the last of these reads gave no byte, and so met the end of the input
abbrev pub ends : List (List ℕ) → Bool
ends pieces = map_or false is_empty (last_of pieces)

-- what may follow what was read: nothing, where the end of the input was met
abbrev pub MayFollow : Bool → List ℕ → Type 0
MayFollow ended rest = ended ≡ true → rest ≡ []

-- None of these reads met the end of the input: each gave a byte.
abbrev pub NoneEnds : List (List ℕ) → Type 0
NoneEnds pieces = AllByRecursion (λ piece. 0 < length piece) pieces

-- none of these reads was made after one that met the end
abbrev pub NoneAfterEnd : List (List ℕ) → Type 0
NoneAfterEnd [] = ⊤
NoneAfterEnd (piece ∷ []) = ⊤
NoneAfterEnd (piece ∷ (next ∷ pieces)) = (0 < length piece) × NoneAfterEnd (next ∷ pieces)

-- a count of failures rose, or stood at its greatest value
pub record Rises (old new : ℕ) : Type 0 where
  pub grows : old ≤ new
  pub rose : old < 2 ^ 64 - 1 → old < new

-- A count of failures rises where this failed, and else stays.
abbrev pub IsCounted : Type 0 → ℕ → ℕ → Type 0
IsCounted Failed old new = (Failed → Rises old new) × ((Failed → ⊥) → new ≡ old)

-- a count of bytes grew by n, or stands at its greatest value
pub record Counts (old new n : ℕ) : Type 0 where
  pub grows : old ≤ new
  pub exact : new < 2 ^ 64 - 1 → new ≡ old + n

-- a reader or writer, how many bytes it gave or took, and how often it failed
pub record Counted (D : Type 0) : Type 0 where
  pub device : D
  pub bytes : ℕ
  pub failures : ℕ

-- A reader gave these pieces, by the bytes that it has left, before and after: they are known, as in memory,
-- or not, as in a file (`None`). Where they are not known before, nothing is said. Known bytes begin with the
-- pieces, lose them and stay known, and none are left where the reads met the end.
abbrev pub Gave : Option (List ℕ) → Option (List ℕ) → List (List ℕ) → Type 0
Gave None new pieces = ⊤
Gave (Some xs) None pieces = ⊥
Gave (Some xs) (Some ys) pieces = (xs ≡ concat pieces ++ ys) × (IsTrue (ends pieces) → ys ≡ [])
