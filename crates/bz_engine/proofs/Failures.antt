-- A failure is said exactly where an execution fails, or where a target has to mark something and marks nothing.
use Rattle.std.proofs.Common.{◌≡◌, ℕ, Bool, true, false, ◌||◌, not, List, [], ◌∷◌, ◌++◌, map, refl, sym, ◌∙◌, ap}
use Rattle.std.specs.Prelude.{if◌then◌else◌, Option, None, Some, option_to_list}
use Rattle.std.specs.List.{flat_map, list_any}
use Rattle.std.proofs.lemmas.List.Concat.{flat_map-append}
use Rattle.bz_token.specs.Common.{is_empty, map_or}
use Rattle.bz_tree.specs.Tree.{Statement}
use Rattle.bz_label.specs.Labels.{Package}
use Rattle.bz_rule.specs.Commands.{Command, done_of}
use Rattle.bz_attribute.specs.Texts.{shown_text}
use Rattle.bz_attribute.specs.declared.done.Note.{Note}
use Rattle.bz_attribute.specs.declared.done.Note.TheVariants.{Missing, NoAttribute, AttributeExists, NotAList, NoValue}
use Rattle.bz_passes.specs.declared.entry.Entry.{Entry}
use Rattle.bz_passes.specs.declared.entry.Entry.TheVariants.{Line}
use Rattle.bz_passes.specs.Entries.{failure_text}
use Rattle.bz_passes.specs.Passes.{Slot, Meaning, Pass, Execution, executions, executions_of, said, marked, missing, log_of, slots_after_pass}
use Rattle.bz_passes.specs.Exchange.{some_alone, some_execution, some_missing, some_of_commands, is_missing}
use Rattle.bz_passes.proofs.ExchangeLaw.{some_alone_lem}
use Rattle.bz_passes.proofs.Executions.{is_met, met_by_commands, met_by_passes}
use Rattle.bz_engine.specs.Language.{meaning}
use Rattle.bz_engine.specs.Failing.{fails, fails_on, has_failure, note_told}
use Rattle.bz_engine.specs.Messages.{note_entry}
use Rattle.bz_engine.specs.Outcome.{Script, slots_of, some_failure}
use Rattle.bz_engine.specs.SessionValue.{SessionValue, HasDone}
use Rattle.bz_engine.proofs.Noted.{says_is}

-- something is said under f
abbrev Says : {M A : Type 0} → (M → List A) → List M → Bool
Says f log = not (is_empty (flat_map f log))

some_in_both : {A : Type 0} (xs ys : List A) → not (is_empty (xs ++ ys)) ≡ (not (is_empty xs) || not (is_empty ys))
some_in_both [] ys = refl
some_in_both (x ∷ xs) ys = refl

both_say : {M A : Type 0} (f : M → List A) (log more : List M) → Says f (log ++ more) ≡ (Says f log || Says f more)
both_say f log more = ap (λ l. not (is_empty l)) (flat_map-append f log more) ∙ some_in_both (flat_map f log) (flat_map f more)

-- of executions, each of which says something where it meets a test
executions_say : {S T C M A : Type 0} (m : Meaning S T C M) (f : M → List A) (test : C → Slot S → Bool) → ((c : C) (slot : Slot S) → Says f (m.says c slot) ≡ test c slot)
    → (es : List (Execution S C)) → Says f (said m es) ≡ list_any (is_met test) es
executions_say m f test each [] = refl
executions_say m f test each (e ∷ es) =
    both_say f (m.says e.command e.found) (said m es)
    ∙ ap (λ b. b || Says f (said m es)) (each e.command e.found)
    ∙ ap (λ b. test e.command e.found || b) (executions_say m f test each es)

target_says : {S T C M A : Type 0} (m : Meaning S T C M) (f : M → List A) → ((target : T) → Says f (m.not_found target ∷ []) ≡ true)
    → (target : T) (found : Bool) → Says f (missing m target found) ≡ is_missing m target found
target_says m f each target found = by (is_missing m target found)
  where
    by : (b : Bool) → Says f (if b then m.not_found target ∷ [] else []) ≡ b
    by true = each target
    by false = refl

or_exchange : (a b c d : Bool) → ((a || b) || (c || d)) ≡ ((b || c) || (a || d))
or_exchange true true c d = refl
or_exchange true false true d = refl
or_exchange true false false d = refl
or_exchange false true c d = refl
or_exchange false false c d = refl

log_says : {S T C M A : Type 0} (m : Meaning S T C M) (f : M → List A) (test : C → Slot S → Bool) → ((c : C) (slot : Slot S) → Says f (m.says c slot) ≡ test c slot)
    → ((target : T) → Says f (m.not_found target ∷ []) ≡ true)
    → (ps : List (Pass T C)) (slots : List (Slot S)) → Says f (log_of m ps slots) ≡ (some_execution m test ps slots || some_missing m ps slots)
log_says m f test each target [] slots = refl
log_says m f test each target (p ∷ ps) slots =
    let found = list_any (m.marks p.target) slots in
    let marks = map (marked m p.target) slots in
    let rest = slots_after_pass m p slots in
    let of_target : Says f (missing m p.target found) ≡ is_missing m p.target found = target_says m f target p.target found in
    let of_commands : Says f (said m (executions m p.commands marks)) ≡ some_of_commands m test p.commands marks =
    executions_say m f test each (executions m p.commands marks) ∙ met_by_commands m test p.commands marks in
    let of_passes : Says f (log_of m ps rest) ≡ (some_execution m test ps rest || some_missing m ps rest) = log_says m f test each target ps rest in
    both_say f (missing m p.target found ++ said m (executions m p.commands marks)) (log_of m ps rest)
    ∙ ap (λ b. b || Says f (log_of m ps rest)) (both_say f (missing m p.target found) (said m (executions m p.commands marks)))
    ∙ (λ i. (of_target i || of_commands i) || of_passes i)
    ∙ or_exchange (is_missing m p.target found) (some_of_commands m test p.commands marks) (some_execution m test ps rest) (some_missing m ps rest)

-- however the rule is shown, a note is one of a failure or not
entry_fails : (rule : List ℕ) (note : Note) → has_failure (note_entry rule note ∷ []) ≡ fails (Some note)
entry_fails rule (Missing field) = refl
entry_fails rule (NoAttribute attr) = refl
entry_fails rule (AttributeExists attr) = refl
entry_fails rule (NotAList attr) = refl
entry_fails rule (NoValue attr value) = refl

pub told_fails : (rule : List ℕ) (note : Option Note) → has_failure (note_told rule note) ≡ fails note
told_fails rule None = refl
told_fails rule (Some note) = entry_fails rule note

line_says_none : (line : Option (List ℕ)) (log : List Entry) → Says failure_text (map Line (option_to_list line) ++ log) ≡ Says failure_text log
line_says_none None log = refl
line_says_none (Some line) log = refl

note_fails : (rule : List ℕ) (line : Option (List ℕ)) (note : Option Note) → Says failure_text (map Line (option_to_list line) ++ note_told rule note) ≡ fails note
note_fails rule line note = line_says_none line (note_told rule note) ∙ told_fails rule note

pub says_failure : (home : Package) (c : Command) (slot : Slot Statement) → Says failure_text ((meaning home).says c slot) ≡ fails_on home c slot
says_failure home c slot = ap (Says failure_text) (sym (says_is home c slot)) ∙ note_fails (map_or [] (shown_text home) slot) (done_of c home slot).line (done_of c home slot).note

-- some execution fails
pub failure_is : (home : Package) (passes : Script) (ss : List Statement) → some_failure home passes ss ≡ some_execution (meaning home) (fails_on home) passes (slots_of ss)
failure_is home passes ss =
    executions_say (meaning home) failure_text (fails_on home) (says_failure home) (executions_of (meaning home) passes (slots_of ss))
    ∙ met_by_passes (meaning home) (fails_on home) passes (slots_of ss)

pub failure_each : (home : Package) (passes : Script) (ss : List Statement) → some_failure home passes ss ≡ list_any (some_alone (meaning home) (fails_on home) passes) (slots_of ss)
failure_each home passes ss = failure_is home passes ss ∙ some_alone_lem (meaning home) (fails_on home) passes (slots_of ss)

-- the whole log has a failure
pub log_fails : (home : Package) (passes : Script) (ss : List Statement)
    → not (is_empty (flat_map failure_text (log_of (meaning home) passes (slots_of ss)))) ≡ (some_failure home passes ss || some_missing (meaning home) passes (slots_of ss))
log_fails home passes ss =
    log_says (meaning home) failure_text (fails_on home) (says_failure home) (λ target. refl) passes (slots_of ss)
    ∙ ap (λ b. b || some_missing (meaning home) passes (slots_of ss)) (sym (failure_is home passes ss))

-- where a failure ends the run, none took place
pub calm_of : (v : SessionValue) (pieces cs : List (List ℕ)) (text : List ℕ) → (done : HasDone v pieces cs text)
    → v.options.keep_going ≡ false → some_failure v.home v.passes done.statements ≡ false
calm_of v pieces cs text done ends = failure_is v.home v.passes done.statements ∙ sym done.kept.left.failed ∙ done.none_fails ends
