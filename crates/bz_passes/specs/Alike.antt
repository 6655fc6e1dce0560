-- Two slots that no target and no command of some passes tells apart.
-- Begin with `AreAlike` and `GiveTheSame`.
use Rattle.std.specs.Prelude.{◌≡◌, Bool, true, List, [], ◌∷◌, ◌++◌}
use Rattle.bz_passes.specs.Passes.{Slot, Meaning, Pass, log_of}
use Rattle.bz_passes.specs.Exchange.{Kept, IsLeftBy, kept_alone, slot_after_pass, some_alone, some_execution, some_missing}

-- command by command, the same is said of both, and both are changed and fail or neither
abbrev pub AreAlikeTo : {S T C M : Type 0} → Meaning S T C M → (C → Slot S → Bool) → (C → Slot S → Bool) → List C → Slot S → Slot S → Type 0
AreAlikeTo m changes fails [] x y = Unit {0}
AreAlikeTo m changes fails (c ∷ cs) x y =
    (m.says c x ≡ m.says c y) × (changes c x ≡ changes c y) × (fails c x ≡ fails c y) × AreAlikeTo m changes fails cs (m.after c x) (m.after c y)

-- pass by pass, both are marked or neither
abbrev pub AreAlike : {S T C M : Type 0} → Meaning S T C M → (C → Slot S → Bool) → (C → Slot S → Bool) → List (Pass T C) → Slot S → Slot S → Type 0
AreAlike m changes fails [] x y = Unit {0}
AreAlike m changes fails (p ∷ ps) x y =
    (m.marks p.target x ≡ m.marks p.target y)
    × (m.marks p.target x ≡ true → AreAlikeTo m changes fails p.commands x y)
    × AreAlike m changes fails ps (slot_after_pass m p x) (slot_after_pass m p y)

-- Slots of this relation are alike to a command, and it leaves them in the relation.
pub record KeepsAlike {S T C M : Type 0} (m : Meaning S T C M) (changes fails : C → Slot S → Bool) (like : Slot S → Slot S → Type 0) (c : C) : Type 0 where
  pub said : (x y : Slot S) → like x y → m.says c x ≡ m.says c y
  pub changed : (x y : Slot S) → like x y → changes c x ≡ changes c y
  pub failed : (x y : Slot S) → like x y → fails c x ≡ fails c y
  pub after : (x y : Slot S) → like x y → like (m.after c x) (m.after c y)

-- a target marks both or neither
abbrev pub MarksAlike : {S T C M : Type 0} → Meaning S T C M → (Slot S → Slot S → Type 0) → T → Type 0
MarksAlike {S} m like target = (x y : Slot S) → like x y → m.marks target x ≡ m.marks target y

abbrev pub CommandsKeepAlike : {S T C M : Type 0} → Meaning S T C M → (C → Slot S → Bool) → (C → Slot S → Bool) → (Slot S → Slot S → Type 0) → List C → Type 0
CommandsKeepAlike m changes fails like [] = Unit {0}
CommandsKeepAlike m changes fails like (c ∷ cs) = KeepsAlike m changes fails like c × CommandsKeepAlike m changes fails like cs

-- no target and no command of the passes tells slots of this relation apart
abbrev pub PassesKeepAlike : {S T C M : Type 0} → Meaning S T C M → (C → Slot S → Bool) → (C → Slot S → Bool) → (Slot S → Slot S → Type 0) → List (Pass T C) → Type 0
PassesKeepAlike m changes fails like [] = Unit {0}
PassesKeepAlike m changes fails like (p ∷ ps) =
    MarksAlike m like p.target × CommandsKeepAlike m changes fails like p.commands × PassesKeepAlike m changes fails like ps

-- The passes leave the same of both slots, alone and after others, and tell the same of them.
pub record GiveTheSame {S T C M : Type 0} (m : Meaning S T C M) (changes fails : C → Slot S → Bool) (ps : List (Pass T C)) (x y : Slot S) : Type 0 where
  pub kept : kept_alone m ps x ≡ kept_alone m ps y
  pub changed : some_alone m changes ps x ≡ some_alone m changes ps y
  pub failed : some_alone m fails ps x ≡ some_alone m fails ps y
  pub log : log_of m ps (x ∷ []) ≡ log_of m ps (y ∷ [])
  pub missing : some_missing m ps (x ∷ []) ≡ some_missing m ps (y ∷ [])
  pub some_changed : some_execution m changes ps (x ∷ []) ≡ some_execution m changes ps (y ∷ [])
  pub some_failed : some_execution m fails ps (x ∷ []) ≡ some_execution m fails ps (y ∷ [])
  pub left : (slots : List (Slot S)) (ks : List (Kept M)) (has_changed has_failed : Bool)
      → IsLeftBy m changes fails ps (slots ++ y ∷ []) ks has_changed has_failed → IsLeftBy m changes fails ps (slots ++ x ∷ []) ks has_changed has_failed
