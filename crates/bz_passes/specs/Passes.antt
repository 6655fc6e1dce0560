-- A script over the slots of a file: passes one after another, and in a pass command by command (the order is
-- this project's own rule).
-- Begin with `Slot`, `Meaning` and `Pass`.
-- It is stated for any statements S, targets T, commands C and log entries M, the arguments in braces. A log
-- has one list of entries for lines and messages; what is told of a run has them apart. Everywhere m is the meaning,
-- c a command, p a pass, x a slot with its mark and e an execution; cs, ps, xs and es are lists of these.
use Rattle.std.specs.Prelude.{◌≢◌, Any, Bool, not, ◌&&◌, if◌then◌else◌, List, [], ◌∷◌, ◌++◌, map, filter, fold, Option}
use Rattle.std.specs.List.{flat_map, list_any}

-- a slot of a file: a statement, or nothing where it was deleted
abbrev pub Slot : Type 0 → Type 0
Slot S = Option S

-- What targets mean: which slots one marks, whether it has to mark some, and the entry where it marks none.
-- What commands mean: what one leaves in a slot, and the entries for what it says there.
pub record Meaning (S T C M : Type 0) : Type 0 where
  pub marks : T → Slot S → Bool
  pub must_mark : T → Bool
  pub not_found : T → M
  pub after : C → Slot S → Slot S
  pub says : C → Slot S → List M

-- one target, and the commands for the slots that it marks
pub record Pass (T C : Type 0) : Type 0 where
  pub target : T
  pub commands : List C

-- a slot, and whether the pass marked it at its start
pub record Marked (S : Type 0) : Type 0 where
  pub mark : Bool
  pub slot : Slot S

-- an execution: a command, and what it finds in a slot that is marked
pub record Execution (S C : Type 0) : Type 0 where
  pub command : C
  pub found : Slot S

module _ {S T C M : Type 0} (m : Meaning S T C M) where
  -- a slot with the mark of a target
  abbrev pub marked : T → Slot S → Marked S
  marked target slot = record { mark = m.marks target slot; slot = slot }

  -- One command on a slot: where the slot is marked, this is an execution; where it is not, nothing happens.
  abbrev pub executed : C → Marked S → Marked S
  executed command x = record { mark = x.mark; slot = if x.mark then m.after command x.slot else x.slot }

  -- command by command over all slots
  abbrev pub slots_after_commands : List C → List (Marked S) → List (Marked S)
  slots_after_commands cs xs = fold (λ ys c. map (executed c) ys) xs cs

  -- one pass: its target marks slots once, at its start, and a mark stays whatever the commands change
  abbrev pub slots_after_pass : Pass T C → List (Slot S) → List (Slot S)
  slots_after_pass p slots = map (λ x. x.slot) (slots_after_commands p.commands (map (marked p.target) slots))

  -- the passes one after another
  abbrev pub slots_after : List (Pass T C) → List (Slot S) → List (Slot S)
  slots_after ps slots = fold (λ left p. slots_after_pass p left) slots ps

  -- the executions of a pass's commands on its slots: of each command in turn, slot by slot
  abbrev pub executions : List C → List (Marked S) → List (Execution S C)
  executions [] xs = []
  executions (c ∷ cs) xs = map (λ x. record { command = c; found = x.slot }) (filter (λ x. x.mark) xs)
      ++ executions cs (map (executed c) xs)

  -- the executions of one pass
  abbrev pub executions_in : Pass T C → List (Slot S) → List (Execution S C)
  executions_in p slots = executions p.commands (map (marked p.target) slots)

  -- the executions of the passes, one after another
  abbrev pub executions_of : List (Pass T C) → List (Slot S) → List (Execution S C)
  executions_of [] slots = []
  executions_of (p ∷ ps) slots = executions_in p slots ++ executions_of ps (slots_after_pass p slots)

  -- some execution leaves in its slot something else than it finds
  abbrev pub Changes : List (Pass T C) → List (Slot S) → Type 0
  Changes ps slots = Any (λ e. m.after e.command e.found ≢ e.found) (executions_of ps slots)

  -- what executions say
  abbrev pub said : List (Execution S C) → List M
  said es = flat_map (λ e. m.says e.command e.found) es

  -- what is said of a target that has to mark something and marks nothing; `found`: it marks some slot
  abbrev pub missing : T → Bool → List M
  missing target found = if not found && m.must_mark target then m.not_found target ∷ [] else []

  -- The log: pass by pass, first what is said of the target, then what the executions say.
  abbrev pub log_of : List (Pass T C) → List (Slot S) → List M
  log_of [] slots = []
  log_of (p ∷ ps) slots =
      (missing p.target (list_any (m.marks p.target) slots) ++ said (executions_in p slots))
      ++ log_of ps (slots_after_pass p slots)
