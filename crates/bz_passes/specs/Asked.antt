-- What a target asks for, and what it may mark then.
-- Begin with `may_mark` and `IsKeyOf`.
use Rattle.std.specs.Prelude.{◌≡◌, ◌≤◌, ◌<◌, ℕ, Bool, true, false, List, length, get_or, filter, Option, None, Some, is_none, bytes_eq}
use Rattle.std.specs.List.{list_any}
use Rattle.bz_label.specs.Labels as label
use Rattle.bz_label.specs.Labels.{Target}
use Rattle.bz_passes.specs.Passes.{Meaning, Pass, Slot}
use Rattle.bz_passes.specs.declared.index.Key.{Key}
use Rattle.bz_passes.specs.declared.index.Key.TheVariants.{NoName, Name, Unknown}

-- the name that a target asks for; the others may mark a rule whatever its name is
abbrev pub asked_by : Target → Option (List ℕ)
asked_by (label.Name name) = Some name
asked_by _ = None

-- a target that asks for a name, or for none, may mark what has this key
abbrev pub may_mark : Key → Option (List ℕ) → Bool
may_mark Unknown asked = true
may_mark NoName asked = is_none asked
may_mark (Name name) None = true
may_mark (Name name) (Some asked) = bytes_eq name.now asked

-- what is in a slot has this key: each target that marks it may mark what has the key
abbrev pub IsKeyOf : {S T C M : Type 0} → Meaning S T C M → (T → Option (List ℕ)) → Slot S → Key → Type 0
IsKeyOf {S} {T} m asked slot key = (target : T) → m.marks target slot ≡ true → may_mark key (asked target) ≡ true

-- some pass may mark what has this key
abbrev pub some_may_mark : {T C : Type 0} → (T → Option (List ℕ)) → Key → List (Pass T C) → Bool
some_may_mark asked key ps = list_any (λ pass. may_mark key (asked pass.target)) ps

-- the passes that may mark what has this key
abbrev pub passes_for : {T C : Type 0} → (T → Option (List ℕ)) → Key → List (Pass T C) → List (Pass T C)
passes_for asked key ps = filter (λ pass. may_mark key (asked pass.target)) ps

-- the first position from `from` on where the test holds; none where it holds nowhere
abbrev pub IsFirstFrom : {X : Type 0} → (X → Bool) → List X → ℕ → Option ℕ → Type 0
IsFirstFrom {X} test xs from None = (i : ℕ) (d : X) → from ≤ i → i < length xs → test (get_or xs i d) ≡ false
IsFirstFrom {X} test xs from (Some first) = (from ≤ first) × (first < length xs) × ((d : X) → test (get_or xs first d) ≡ true)
    × ((i : ℕ) (d : X) → from ≤ i → i < first → test (get_or xs i d) ≡ false)
