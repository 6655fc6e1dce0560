-- A slot stays as it is where no execution changes it.
use Rattle.std.proofs.Common.{◌≡◌, Bool, true, false, List, [], ◌∷◌, refl, ◌∙◌, ap}
use Rattle.std.specs.Prelude.{if◌then◌else◌}
use Rattle.std.proofs.lemmas.Bool.{or_parts}
use Rattle.bz_passes.specs.Passes.{Slot, Meaning, Pass, Marked, marked, executed}
use Rattle.bz_passes.specs.Exchange.{meets, some_of_commands_alone, some_alone, slot_after_commands, slot_after_pass, slot_after, with_mark}

-- no command changes a slot of which it tells no change
abbrev pub TellsChanges : {S T C M : Type 0} → Meaning S T C M → (C → Slot S → Bool) → Type 0
TellsChanges {S} {T} {C} {M} m changes = (c : C) (slot : Slot S) → changes c slot ≡ false → m.after c slot ≡ slot

same_executed : {S T C M : Type 0} (m : Meaning S T C M) (changes : C → Slot S → Bool) → TellsChanges m changes
    → (c : C) (x : Marked S) → meets changes c x ≡ false → executed m c x ≡ x
same_executed m changes tells c x none = ap (with_mark x.mark) (by x.mark none)
  where
    by : (b : Bool) → (if b then changes c x.slot else false) ≡ false → (if b then m.after c x.slot else x.slot) ≡ x.slot
    by true none = tells c x.slot none
    by false none = refl

same_after_commands : {S T C M : Type 0} (m : Meaning S T C M) (changes : C → Slot S → Bool) → TellsChanges m changes
    → (cs : List C) (x : Marked S) → some_of_commands_alone m changes cs x ≡ false → slot_after_commands m cs x ≡ x
same_after_commands m changes tells [] x none = refl
same_after_commands m changes tells (c ∷ cs) x none =
    let both = or_parts (meets changes c x) (some_of_commands_alone m changes cs (executed m c x)) none in
    same_after_commands m changes tells cs (executed m c x) both.1 ∙ same_executed m changes tells c x both.0

pub same_after : {S T C M : Type 0} (m : Meaning S T C M) (changes : C → Slot S → Bool) → TellsChanges m changes
    → (ps : List (Pass T C)) (slot : Slot S) → some_alone m changes ps slot ≡ false → slot_after m ps slot ≡ slot
same_after m changes tells [] slot none = refl
same_after m changes tells (p ∷ ps) slot none =
    let both = or_parts (some_of_commands_alone m changes p.commands (marked m p.target slot)) (some_alone m changes ps (slot_after_pass m p slot)) none in
    same_after m changes tells ps (slot_after_pass m p slot) both.1
    ∙ ap (λ x. x.slot) (same_after_commands m changes tells p.commands (marked m p.target slot) both.0)
