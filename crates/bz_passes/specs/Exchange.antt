-- A script slot by slot: each slot by itself under the whole script, what is kept of the slots so far, and the log told of it at the end.
use Rattle.std.specs.Prelude.{length, ◌≡◌, Bool, false, ◌||◌, ◌&&◌, not, if◌then◌else◌, List, [], ◌∷◌, ◌++◌, map}
use Rattle.std.specs.List.{flat_map, list_any}
use Rattle.bz_passes.specs.Passes.{Slot, Meaning, Pass, Marked, marked, executed, slots_after_pass, missing, slots_after, log_of}

-- The log and the tests of executions, command by command over all slots, as calls keep count of them.
abbrev pub with_mark : {S : Type 0} → Bool → Slot S → Marked S
with_mark mark slot = record { mark = mark; slot = slot }

-- what a command says of a slot, which may be marked
abbrev pub entries : {S T C M : Type 0} → Meaning S T C M → C → Marked S → List M
entries m command x = if x.mark then m.says command x.slot else []

-- whether an execution meets this test of its command and of the slot that it finds
abbrev pub meets : {S C : Type 0} → (C → Slot S → Bool) → C → Marked S → Bool
meets test command x = if x.mark then test command x.slot else false

-- whether one of the executions does
abbrev pub some_of_commands : {S T C M : Type 0} → Meaning S T C M → (C → Slot S → Bool) → List C → List (Marked S) → Bool
some_of_commands m test [] xs = false
some_of_commands m test (c ∷ cs) xs = list_any (meets test c) xs || some_of_commands m test cs (map (executed m c) xs)

abbrev pub some_execution : {S T C M : Type 0} → Meaning S T C M → (C → Slot S → Bool) → List (Pass T C) → List (Slot S) → Bool
some_execution m test [] slots = false
some_execution m test (p ∷ ps) slots =
    some_of_commands m test p.commands (map (marked m p.target) slots) || some_execution m test ps (slots_after_pass m p slots)

-- whether a target has to mark something and marks nothing
abbrev pub is_missing : {S T C M : Type 0} → Meaning S T C M → T → Bool → Bool
is_missing m target found = not found && m.must_mark target

-- whether the target of one of the passes does
abbrev pub some_missing : {S T C M : Type 0} → Meaning S T C M → List (Pass T C) → List (Slot S) → Bool
some_missing m [] slots = false
some_missing m (p ∷ ps) slots =
    is_missing m p.target (list_any (m.marks p.target) slots) || some_missing m ps (slots_after_pass m p slots)

-- What is kept of the slots so far: for each pass whether something was marked, and for each of its commands the log.
pub record Kept (M : Type 0) : Type 0 where
  pub found : Bool
  pub logs : List (List M)

-- the log of each command of a pass
abbrev pub logs_of : {S T C M : Type 0} → Meaning S T C M → List C → List (Marked S) → List (List M)
logs_of m [] xs = []
logs_of m (c ∷ cs) xs = flat_map (entries m c) xs ∷ logs_of m cs (map (executed m c) xs)

abbrev pub kept_of : {S T C M : Type 0} → Meaning S T C M → List (Pass T C) → List (Slot S) → List (Kept M)
kept_of m [] slots = []
kept_of m (p ∷ ps) slots =
    record { found = list_any (m.marks p.target) slots; logs = logs_of m p.commands (map (marked m p.target) slots) }
    ∷ kept_of m ps (slots_after_pass m p slots)

-- the log that is told at the end: by pass, in a pass first what was not found, then by command
abbrev pub told : {S T C M : Type 0} → Meaning S T C M → List (Pass T C) → List (Kept M) → List M
told m [] ks = []
told m (p ∷ ps) [] = []
told m (p ∷ ps) (k ∷ ks) = missing m p.target k.found ++ flat_map (λ log. log) k.logs ++ told m ps ks

-- whether the target of one of the passes was not found
abbrev pub some_not_found : {S T C M : Type 0} → Meaning S T C M → List (Pass T C) → List (Kept M) → Bool
some_not_found m [] ks = false
some_not_found m (p ∷ ps) [] = false
some_not_found m (p ∷ ps) (k ∷ ks) = is_missing m p.target k.found || some_not_found m ps ks

-- what is kept of no slot
abbrev pub no_slot : {T C M : Type 0} → Pass T C → Kept M
no_slot p = record { found = false; logs = map (λ command. []) p.commands }

-- one slot by itself under the whole script
abbrev pub slot_after_commands : {S T C M : Type 0} → Meaning S T C M → List C → Marked S → Marked S
slot_after_commands m [] x = x
slot_after_commands m (c ∷ cs) x = slot_after_commands m cs (executed m c x)

abbrev pub slot_after_pass : {S T C M : Type 0} → Meaning S T C M → Pass T C → Slot S → Slot S
slot_after_pass m p slot = (slot_after_commands m p.commands (marked m p.target slot)).slot

abbrev pub slot_after : {S T C M : Type 0} → Meaning S T C M → List (Pass T C) → Slot S → Slot S
slot_after m [] slot = slot
slot_after m (p ∷ ps) slot = slot_after m ps (slot_after_pass m p slot)

-- and what it says there
abbrev pub logs_alone : {S T C M : Type 0} → Meaning S T C M → List C → Marked S → List (List M)
logs_alone m [] x = []
logs_alone m (c ∷ cs) x = entries m c x ∷ logs_alone m cs (executed m c x)

abbrev pub pass_alone : {S T C M : Type 0} → Meaning S T C M → Pass T C → Slot S → Kept M
pass_alone m p slot = record { found = m.marks p.target slot; logs = logs_alone m p.commands (marked m p.target slot) }

abbrev pub kept_alone : {S T C M : Type 0} → Meaning S T C M → List (Pass T C) → Slot S → List (Kept M)
kept_alone m [] slot = []
kept_alone m (p ∷ ps) slot = pass_alone m p slot ∷ kept_alone m ps (slot_after_pass m p slot)

abbrev pub log_alone : {M : Type 0} → List (Kept M) → List M
log_alone kept = flat_map (λ k. flat_map (λ log. log) k.logs) kept

-- and whether one of its executions meets a test
abbrev pub some_of_commands_alone : {S T C M : Type 0} → Meaning S T C M → (C → Slot S → Bool) → List C → Marked S → Bool
some_of_commands_alone m test [] x = false
some_of_commands_alone m test (c ∷ cs) x = meets test c x || some_of_commands_alone m test cs (executed m c x)

abbrev pub some_alone : {S T C M : Type 0} → Meaning S T C M → (C → Slot S → Bool) → List (Pass T C) → Slot S → Bool
some_alone m test [] slot = false
some_alone m test (p ∷ ps) slot =
    some_of_commands_alone m test p.commands (marked m p.target slot) || some_alone m test ps (slot_after_pass m p slot)

-- what is kept of some slots, and then of more after them
abbrev pub logs_and : {M : Type 0} → List (List M) → List (List M) → List (List M)
logs_and [] ys = []
logs_and (x ∷ xs) [] = []
logs_and (x ∷ xs) (y ∷ ys) = (x ++ y) ∷ logs_and xs ys

abbrev pub pass_and : {M : Type 0} → Kept M → Kept M → Kept M
pass_and x y = record { found = x.found || y.found; logs = logs_and x.logs y.logs }

abbrev pub kept_and : {M : Type 0} → List (Kept M) → List (Kept M) → List (Kept M)
kept_and [] ys = []
kept_and (x ∷ xs) [] = []
kept_and (x ∷ xs) (y ∷ ys) = pass_and x y ∷ kept_and xs ys

-- there is a place for each pass and each command
abbrev pub Fits : {T C M : Type 0} → List (Kept M) → List (Pass T C) → Type 0
Fits [] [] = Unit {0}
Fits [] (p ∷ ps) = ⊥
Fits (k ∷ ks) [] = ⊥
Fits (k ∷ ks) (p ∷ ps) = (length k.logs ≡ length p.commands) × Fits ks ps

-- What is kept, and whether something was changed and failed, is what these slots leave.
pub record IsLeftBy {S T C M : Type 0} (m : Meaning S T C M) (changes fails : C → Slot S → Bool) (ps : List (Pass T C)) (slots : List (Slot S))
    (ks : List (Kept M)) (some_changed some_failed : Bool) : Type 0 where
  pub kept : ks ≡ kept_of m ps slots
  pub changed : some_changed ≡ some_execution m changes ps slots
  pub failed : some_failed ≡ some_execution m fails ps slots

-- The script leaves the slot as it is, and has nothing to tell of it: what the slots before it leave, they leave with it.
pub record IsPassedBy {S T C M : Type 0} (m : Meaning S T C M) (changes fails : C → Slot S → Bool) (ps : List (Pass T C)) (slot : Slot S) : Type 0 where
  pub stays : slot_after m ps slot ≡ slot
  pub left : (slots : List (Slot S)) (ks : List (Kept M)) (some_changed some_failed : Bool)
      → IsLeftBy m changes fails ps slots ks some_changed some_failed → IsLeftBy m changes fails ps (slots ++ slot ∷ []) ks some_changed some_failed

-- Exchange: command by command over the whole file is the whole script over one slot after the other.
pub record Exchange {S T C M : Type 0} (m : Meaning S T C M) (ps : List (Pass T C)) (slots : List (Slot S)) : Type 0 where
  pub each_slot_alone : slots_after m ps slots ≡ map (slot_after m ps) slots
  pub log_by_pass_and_command : log_of m ps slots ≡ told m ps (kept_of m ps slots)
  pub one_slot_more : (slot : Slot S) → kept_of m ps (slots ++ slot ∷ []) ≡ kept_and (kept_of m ps slots) (kept_alone m ps slot)
  pub some_slot_alone : (test : C → Slot S → Bool) → some_execution m test ps slots ≡ list_any (some_alone m test ps) slots
  pub missing_by_pass : some_missing m ps slots ≡ some_not_found m ps (kept_of m ps slots)
  pub nothing_left : (changes fails : C → Slot S → Bool) → IsLeftBy m changes fails ps [] (map no_slot ps) false false
