-- Worked examples that compute: reads, and scripts over statements that are names.
use Rattle.std.proofs.Common.{◌≡◌, ℕ, Bool, true, false, List, [], ◌∷◌, refl, nat_eq}
use Rattle.std.specs.Prelude.{Option, None, Some, not}
use Rattle.bz_devices.specs.Device.{ends}
use Rattle.bz_passes.specs.Passes.{Slot, Meaning, Pass, executions_of, said, slots_after, log_of}
use Rattle.bz_passes.specs.Exchange.{kept_of, told, some_execution, some_missing}
use Rattle.std.specs.List.{concat}

reads_join : concat ((1 ∷ 2 ∷ []) ∷ (3 ∷ []) ∷ [] ∷ []) ≡ 1 ∷ 2 ∷ 3 ∷ []
reads_join = refl

last_read_ends : ends ((1 ∷ []) ∷ [] ∷ []) ≡ true
last_read_ends = refl

no_read_ends_nothing : ends [] ≡ false
no_read_ends_nothing = refl

-- A statement is a name, and a target too. A command sets the name, or prints it.
abbrev marks : ℕ → Slot ℕ → Bool
marks target None = false
marks target (Some name) = nat_eq target name

abbrev after : Option ℕ → Slot ℕ → Slot ℕ
after command None = None
after None (Some name) = Some name
after (Some new) (Some name) = Some new

abbrev says : Option ℕ → Slot ℕ → List ℕ
says command None = []
says None (Some name) = name ∷ []
says (Some new) (Some name) = []

abbrev changes : Option ℕ → Slot ℕ → Bool
changes command None = false
changes None (Some name) = false
changes (Some new) (Some name) = not (nat_eq new name)

abbrev names : Meaning ℕ ℕ (Option ℕ) ℕ
names = record { marks = marks; must_mark = λ target. true; not_found = λ target. 0; after = after; says = says }

abbrev pass : ℕ → List (Option ℕ) → Pass ℕ (Option ℕ)
pass target commands = record { target = target; commands = commands }

-- `set name 2` does not hide the rule from the next command of its pass, but from the last pass
abbrev renaming : List (Pass ℕ (Option ℕ))
renaming = pass 1 (Some 2 ∷ None ∷ []) ∷ pass 2 (None ∷ []) ∷ pass 1 (None ∷ []) ∷ []

renamed : slots_after names renaming (Some 1 ∷ []) ≡ Some 2 ∷ []
renamed = refl

-- what is executed, in order: a command and what it finds
renamed_executions : executions_of names renaming (Some 1 ∷ [])
    ≡ record { command = Some 2; found = Some 1 } ∷ record { command = None; found = Some 2 } ∷ record { command = None; found = Some 2 } ∷ []
renamed_executions = refl

renamed_said : said names (executions_of names renaming (Some 1 ∷ [])) ≡ 2 ∷ 2 ∷ []
renamed_said = refl

renamed_log : log_of names renaming (Some 1 ∷ []) ≡ 2 ∷ 2 ∷ 0 ∷ []
renamed_log = refl

renamed_told : told names renaming (kept_of names renaming (Some 1 ∷ [])) ≡ 2 ∷ 2 ∷ 0 ∷ []
renamed_told = refl

renamed_missing : some_missing names renaming (Some 1 ∷ []) ≡ true
renamed_missing = refl

renamed_changed : some_execution names changes renaming (Some 1 ∷ []) ≡ true
renamed_changed = refl

-- lines stand by command, and for a command in file order
printed_twice : log_of names (pass 1 (None ∷ Some 3 ∷ None ∷ []) ∷ []) (Some 1 ∷ Some 2 ∷ None ∷ Some 1 ∷ []) ≡ 1 ∷ 1 ∷ 3 ∷ 3 ∷ []
printed_twice = refl
