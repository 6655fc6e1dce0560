-- The law Exchange, by induction on commands, passes and slots.
use Rattle.std.proofs.Common.{◌≡◌, Bool, true, false, ◌||◌, List, [], ◌∷◌, ◌++◌, map, refl, sym, ◌∙◌, ap, append_assoc, append-nil}
use Rattle.std.specs.List.{flat_map, list_any}
use Rattle.bz_passes.proofs.Executions.{said_of_command}
use Rattle.bz_passes.specs.Passes.{Slot, Meaning, Pass, Marked, marked, executed, slots_after_commands, executions, said, slots_after_pass, missing, slots_after, log_of}
use Rattle.bz_passes.specs.Exchange.{Exchange, Kept, IsLeftBy, logs_alone, slot_after_commands, slot_after_pass, slot_after, kept_alone, logs_of, logs_and, kept_and, kept_of, told, some_not_found, no_slot, some_of_commands_alone, some_alone, entries, some_missing, meets, some_of_commands, some_execution, is_missing}

-- a `map` of a `map`
map_map : {A B C : Type 0} (g : B → C) (f : A → B) (xs : List A) → map g (map f xs) ≡ map (λ x. g (f x)) xs
map_map g f [] = refl
map_map g f (x ∷ xs) = ap (λ l. g (f x) ∷ l) (map_map g f xs)

map_same : {A : Type 0} (xs : List A) → xs ≡ map (λ x. x) xs
map_same [] = refl
map_same (x ∷ xs) = ap (λ l. x ∷ l) (map_same xs)

-- command by command over all slots leaves each slot as the commands leave it alone
commands_alone : {S T C M : Type 0} (m : Meaning S T C M) (cs : List C) (xs : List (Marked S))
    → slots_after_commands m cs xs ≡ map (slot_after_commands m cs) xs
commands_alone m [] xs = map_same xs
commands_alone m (c ∷ cs) xs = commands_alone m cs (map (executed m c) xs) ∙ map_map _ _ xs

pub pass_alone : {S T C M : Type 0} (m : Meaning S T C M) (p : Pass T C) (slots : List (Slot S))
    → slots_after_pass m p slots ≡ map (slot_after_pass m p) slots
pass_alone m p slots =
    ap (map (λ x. x.slot)) (commands_alone m p.commands _)
    ∙ ap (map (λ x. x.slot)) (map_map _ _ slots)
    ∙ map_map _ _ slots

pub slots_alone : {S T C M : Type 0} (m : Meaning S T C M) (ps : List (Pass T C)) (slots : List (Slot S))
    → slots_after m ps slots ≡ map (slot_after m ps) slots
slots_alone m [] slots = map_same slots
slots_alone m (p ∷ ps) slots =
    ap (slots_after m ps) (pass_alone m p slots)
    ∙ slots_alone m ps (map (slot_after_pass m p) slots)
    ∙ map_map _ _ slots

log_joined : {S T C M : Type 0} (m : Meaning S T C M) (cs : List C) (xs : List (Marked S))
    → said m (executions m cs xs) ≡ flat_map (λ log. log) (logs_of m cs xs)
log_joined m [] xs = refl
log_joined m (c ∷ cs) xs =
    said_of_command m c xs (executions m cs (map (executed m c) xs))
    ∙ ap (λ l. flat_map (entries m c) xs ++ l) (log_joined m cs (map (executed m c) xs))

pub log_by_pass : {S T C M : Type 0} (m : Meaning S T C M) (ps : List (Pass T C)) (slots : List (Slot S))
    → log_of m ps slots ≡ told m ps (kept_of m ps slots)
log_by_pass m [] slots = refl
log_by_pass m (p ∷ ps) slots =
    let found = missing m p.target (list_any (m.marks p.target) slots) in
    ap (λ l. found ++ l ++ log_of m ps (slots_after_pass m p slots)) (log_joined m p.commands (map (marked m p.target) slots))
    ∙ ap (λ l. found ++ flat_map (λ log. log) (logs_of m p.commands (map (marked m p.target) slots)) ++ l) (log_by_pass m ps (slots_after_pass m p slots))

-- one marked slot more
flat_map_more : {A B : Type 0} (f : A → List B) (xs : List A) (x : A) → flat_map f (xs ++ x ∷ []) ≡ flat_map f xs ++ f x
flat_map_more f [] x = append-nil (f x)
flat_map_more f (y ∷ xs) x = ap (λ l. f y ++ l) (flat_map_more f xs x) ∙ sym (append_assoc (f y) (flat_map f xs) (f x))

pub map_more : {A B : Type 0} (f : A → B) (xs : List A) (x : A) → map f (xs ++ x ∷ []) ≡ map f xs ++ f x ∷ []
map_more f [] x = refl
map_more f (y ∷ xs) x = ap (λ l. f y ∷ l) (map_more f xs x)

pub any_more : {A : Type 0} (f : A → Bool) (xs : List A) (x : A) → list_any f (xs ++ x ∷ []) ≡ (list_any f xs || f x)
any_more f [] x = elim (f x) as (λ v. (v || false) ≡ v) [ true ↦ refl | false ↦ refl ]
any_more f (y ∷ xs) x = ap (λ b. f y || b) (any_more f xs x) ∙ elim (f y) as (λ v. (v || (list_any f xs || f x)) ≡ ((v || list_any f xs) || f x)) [ true ↦ refl | false ↦ refl ]

logs_more : {S T C M : Type 0} (m : Meaning S T C M) (cs : List C) (xs : List (Marked S)) (x : Marked S)
    → logs_of m cs (xs ++ x ∷ []) ≡ logs_and (logs_of m cs xs) (logs_alone m cs x)
logs_more m [] xs x = refl
logs_more m (c ∷ cs) xs x =
    ap (λ l. flat_map (entries m c) (xs ++ x ∷ []) ∷ logs_of m cs l) (map_more (executed m c) xs x)
    ∙ ap (λ l. l ∷ logs_of m cs (map (executed m c) xs ++ executed m c x ∷ [])) (flat_map_more (entries m c) xs x)
    ∙ ap (λ l. (flat_map (entries m c) xs ++ entries m c x) ∷ l) (logs_more m cs (map (executed m c) xs) (executed m c x))

pub kept_more : {S T C M : Type 0} (m : Meaning S T C M) (ps : List (Pass T C)) (slots : List (Slot S)) (slot : Slot S)
    → kept_of m ps (slots ++ slot ∷ []) ≡ kept_and (kept_of m ps slots) (kept_alone m ps slot)
kept_more m [] slots slot = refl
kept_more m (p ∷ ps) slots slot =
    let after : slots_after_pass m p (slots ++ slot ∷ []) ≡ slots_after_pass m p slots ++ slot_after_pass m p slot ∷ [] =
    pass_alone m p (slots ++ slot ∷ []) ∙ map_more (slot_after_pass m p) slots slot
    ∙ ap (λ l. l ++ slot_after_pass m p slot ∷ []) (sym (pass_alone m p slots)) in
    let logs : logs_of m p.commands (map (marked m p.target) (slots ++ slot ∷ []))
    ≡ logs_and (logs_of m p.commands (map (marked m p.target) slots)) (logs_alone m p.commands (marked m p.target slot)) =
    ap (logs_of m p.commands) (map_more (marked m p.target) slots slot)
    ∙ logs_more m p.commands (map (marked m p.target) slots) (marked m p.target slot) in
    let rest : kept_of m ps (slots_after_pass m p (slots ++ slot ∷ [])) ≡ kept_and (kept_of m ps (slots_after_pass m p slots)) (kept_alone m ps (slot_after_pass m p slot)) =
    ap (kept_of m ps) after ∙ kept_more m ps (slots_after_pass m p slots) (slot_after_pass m p slot) in
    let found : list_any (m.marks p.target) (slots ++ slot ∷ []) ≡ (list_any (m.marks p.target) slots || m.marks p.target slot) = any_more (m.marks p.target) slots slot in
    rw (found, logs, rest) refl

-- a test of some execution
any_none : {A : Type 0} (xs : List A) → false ≡ list_any (λ x. false) xs
any_none [] = refl
any_none (x ∷ xs) = any_none xs

any_map : {A B : Type 0} (f : B → Bool) (g : A → B) (xs : List A) → list_any f (map g xs) ≡ list_any (λ x. f (g x)) xs
any_map f g [] = refl
any_map f g (x ∷ xs) = ap (λ b. f (g x) || b) (any_map f g xs)

or_exchange : (a b c d : Bool) → ((a || b) || (c || d)) ≡ ((a || c) || (b || d))
or_exchange true b c d = refl
or_exchange false true true d = refl
or_exchange false true false d = refl
or_exchange false false c d = refl

any_or : {A : Type 0} (f g : A → Bool) (xs : List A) → (list_any f xs || list_any g xs) ≡ list_any (λ x. f x || g x) xs
any_or f g [] = refl
any_or f g (x ∷ xs) = or_exchange (f x) (list_any f xs) (g x) (list_any g xs) ∙ ap (λ b. (f x || g x) || b) (any_or f g xs)

some_commands : {S T C M : Type 0} (m : Meaning S T C M) (test : C → Slot S → Bool) (cs : List C) (xs : List (Marked S))
    → some_of_commands m test cs xs ≡ list_any (some_of_commands_alone m test cs) xs
some_commands m test [] xs = any_none xs
some_commands m test (c ∷ cs) xs =
    ap (λ b. list_any (meets test c) xs || b) (some_commands m test cs (map (executed m c) xs) ∙ any_map _ _ xs)
    ∙ any_or _ _ xs

pub some_alone_lem : {S T C M : Type 0} (m : Meaning S T C M) (test : C → Slot S → Bool) (ps : List (Pass T C)) (slots : List (Slot S))
    → some_execution m test ps slots ≡ list_any (some_alone m test ps) slots
some_alone_lem m test [] slots = any_none slots
some_alone_lem m test (p ∷ ps) slots =
    let first : some_of_commands m test p.commands (map (marked m p.target) slots) ≡ list_any (λ x. some_of_commands_alone m test p.commands (marked m p.target x)) slots =
    some_commands m test p.commands (map (marked m p.target) slots) ∙ any_map _ _ slots in
    let rest : some_execution m test ps (slots_after_pass m p slots) ≡ list_any (λ x. some_alone m test ps (slot_after_pass m p x)) slots =
    some_alone_lem m test ps (slots_after_pass m p slots) ∙ ap (list_any (some_alone m test ps)) (pass_alone m p slots) ∙ any_map _ _ slots in
    ap (λ b. b || some_execution m test ps (slots_after_pass m p slots)) first
    ∙ ap (λ b. list_any (λ x. some_of_commands_alone m test p.commands (marked m p.target x)) slots || b) rest
    ∙ any_or _ _ slots

pub missing_lem : {S T C M : Type 0} (m : Meaning S T C M) (ps : List (Pass T C)) (slots : List (Slot S))
    → some_missing m ps slots ≡ some_not_found m ps (kept_of m ps slots)
missing_lem m [] slots = refl
missing_lem m (p ∷ ps) slots =
    ap (λ b. is_missing m p.target (list_any (m.marks p.target) slots) || b) (missing_lem m ps (slots_after_pass m p slots))

-- before the first slot
logs_nothing : {S T C M : Type 0} (m : Meaning S T C M) (cs : List C) → map (λ command. []) cs ≡ logs_of m cs []
logs_nothing m [] = refl
logs_nothing m (c ∷ cs) = ap (λ l. [] ∷ l) (logs_nothing m cs)

slots_nothing : {S T C M : Type 0} (m : Meaning S T C M) (cs : List C) → slots_after_commands m cs [] ≡ []
slots_nothing m [] = refl
slots_nothing m (c ∷ cs) = slots_nothing m cs

pub kept_nothing : {S T C M : Type 0} (m : Meaning S T C M) (ps : List (Pass T C)) → map no_slot ps ≡ kept_of m ps []
kept_nothing m [] = refl
kept_nothing m (p ∷ ps) =
    let none : slots_after_pass m p [] ≡ [] = ap (map (λ x. x.slot)) (slots_nothing m p.commands) in
    rw (none, ← logs_nothing m p.commands, ← kept_nothing m ps) refl

-- one slot more, for what is kept and for what was done
pub left_more : {S T C M : Type 0} (m : Meaning S T C M) (changes fails : C → Slot S → Bool) (ps : List (Pass T C)) (slots : List (Slot S)) (slot : Slot S)
    (ks ks' : List (Kept M)) (some_changed some_changed' some_failed some_failed' : Bool)
    → ks' ≡ kept_and ks (kept_alone m ps slot) → some_changed' ≡ (some_changed || some_alone m changes ps slot) → some_failed' ≡ (some_failed || some_alone m fails ps slot)
    → IsLeftBy m changes fails ps slots ks some_changed some_failed → IsLeftBy m changes fails ps (slots ++ slot ∷ []) ks' some_changed' some_failed'
left_more m changes fails ps slots slot ks ks' some_changed some_changed' some_failed some_failed' kept changed failed left = record {
  kept = kept ∙ ap (λ k. kept_and k (kept_alone m ps slot)) left.kept ∙ sym (kept_more m ps slots slot);
  changed = changed ∙ ap (λ b. b || some_alone m changes ps slot) left.changed ∙ sym (some_more changes);
  failed = failed ∙ ap (λ b. b || some_alone m fails ps slot) left.failed ∙ sym (some_more fails);
}
  where
    some_more : (test : _) → some_execution m test ps (slots ++ slot ∷ []) ≡ (some_execution m test ps slots || some_alone m test ps slot)
    some_more test =
        some_alone_lem m test ps (slots ++ slot ∷ []) ∙ any_more (some_alone m test ps) slots slot
        ∙ ap (λ b. b || some_alone m test ps slot) (sym (some_alone_lem m test ps slots))

pub nothing_left : {S T C M : Type 0} (m : Meaning S T C M) (ps : List (Pass T C)) (changes fails : C → Slot S → Bool) → IsLeftBy m changes fails ps [] (map no_slot ps) false false
nothing_left m ps changes fails = record {
  kept = kept_nothing m ps;
  changed = sym (some_alone_lem m changes ps []);
  failed = sym (some_alone_lem m fails ps []);
}

-- what is told of what these slots left, and what is missing in it
pub told_left : {S T C M : Type 0} (m : Meaning S T C M) (ps : List (Pass T C)) (slots : List (Slot S)) (ks : List (Kept M)) → ks ≡ kept_of m ps slots
    → told m ps ks ≡ log_of m ps slots
told_left m ps slots ks left = ap (told m ps) left ∙ sym (log_by_pass m ps slots)

pub missing_left : {S T C M : Type 0} (m : Meaning S T C M) (ps : List (Pass T C)) (slots : List (Slot S)) (ks : List (Kept M)) → ks ≡ kept_of m ps slots
    → some_not_found m ps ks ≡ some_missing m ps slots
missing_left m ps slots ks left = ap (some_not_found m ps) left ∙ sym (missing_lem m ps slots)

pub exchange : {S T C M : Type 0} (m : Meaning S T C M) (ps : List (Pass T C)) (slots : List (Slot S)) → Exchange m ps slots
exchange m ps slots = record { each_slot_alone = slots_alone m ps slots; log_by_pass_and_command = log_by_pass m ps slots; one_slot_more = kept_more m ps slots; some_slot_alone = λ test. some_alone_lem m test ps slots; missing_by_pass = missing_lem m ps slots; nothing_left = nothing_left m ps }
