-- A script on a slot that one of its passes alone marks.
-- Begin with `IsOnlyFor`.
use Rattle.std.specs.Prelude.{◌≡◌, ℕ, zero, suc, ◌+◌, ◌<◌, Bool, List, [], ◌∷◌, length, get_or, Option}
use Rattle.bz_passes.specs.Passes.{Slot, Meaning, Pass, marked}
use Rattle.bz_passes.specs.Exchange.{Kept, Fits, kept_alone, kept_and, pass_alone, pass_and, slot_after, slot_after_pass, some_alone, some_of_commands_alone}
use Rattle.bz_passes.specs.declared.index.Key.{Key}
use Rattle.bz_passes.specs.Asked.{IsKeyOf}

-- what is kept of some slots, and of one more, of which the pass at a position alone has something to tell
abbrev pub and_at : {M : Type 0} → ℕ → Kept M → List (Kept M) → List (Kept M)
and_at at more [] = []
and_at zero more (k ∷ ks) = pass_and k more ∷ ks
and_at (suc at) more (k ∷ ks) = k ∷ and_at at more ks

-- The script on the slot is the pass at this position on it.
pub record IsOnlyAt {S T C M : Type 0} (m : Meaning S T C M) (ps : List (Pass T C)) (slot : Slot S) (at : ℕ) (p : Pass T C) : Type 0 where
  pub after : slot_after m ps slot ≡ slot_after_pass m p slot
  pub kept : (ks : List (Kept M)) → Fits ks ps → kept_and ks (kept_alone m ps slot) ≡ and_at at (pass_alone m p slot) ks
  pub some : (test : C → Slot S → Bool) → some_alone m test ps slot ≡ some_of_commands_alone m test p.commands (marked m p.target slot)

-- It is so of each slot that has this key, and keeps it where a pass comes after.
abbrev pub IsOnlyFor : {S T C M : Type 0} → Meaning S T C M → (T → Option (List ℕ)) → List (Pass T C) → Key → ℕ → Type 0
IsOnlyFor {S} {T} {C} m asked ps key at = (slot : Slot S) (p : Pass T C) → p ≡ get_or ps at p → IsKeyOf m asked slot key
    → (at + 1 < length ps → IsKeyOf m asked (slot_after_pass m p slot) key) → IsOnlyAt m ps slot at p
