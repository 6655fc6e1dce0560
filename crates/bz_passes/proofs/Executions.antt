-- The executions of a script, one after another, are what is said and tested command by command.
use Rattle.std.proofs.Common.{◌≡◌, ◌≢◌, ◌⊎◌, inl, inr, ◌<◌, ℕ, suc, Bool, true, false, ◌||◌, ◌&&◌, List, [], ◌∷◌, ◌++◌, map, filter, length, length-append, arith, refl, sym, ◌∙◌, ap, append_assoc}
use Rattle.std.specs.Prelude.{◌↔◌, if◌then◌else◌, get_or, Any}
use Rattle.std.proofs.lemmas.Bool.{false≢true}
use Rattle.std.specs.List.{flat_map, list_any, list_all}
use Rattle.std.proofs.lemmas.List.{get_or_append_left}
use Rattle.std.proofs.lemmas.List.Folds.{list_any-append, list_all-append, Any-from_list_any, list_any-from_Any}
use Rattle.std.proofs.lemmas.List.Sums.{AllPass-from_list_all}
use Rattle.std.proofs.lemmas.Bool.{and_parts}
use Rattle.bz_passes.specs.Passes.{Slot, Meaning, Pass, Marked, marked, executed, Execution, executions, executions_of, said, Changes, slots_after, slots_after_commands, slots_after_pass}
use Rattle.bz_passes.specs.Exchange.{entries, meets, some_of_commands, some_execution, with_mark}

-- the executions of a command on these slots, and then others
abbrev of_command : {S C : Type 0} → C → List (Marked S) → List (Execution S C)
of_command {S} {C} c xs = map (λ (x : Marked S). let e : Execution S C = record { command = c; found = x.slot } in e) (filter (λ (x : Marked S). x.mark) xs)

pub said_of_command : {S T C M : Type 0} (m : Meaning S T C M) (c : C) (xs : List (Marked S)) (rest : List (Execution S C))
    → said m (of_command c xs ++ rest) ≡ flat_map (entries m c) xs ++ said m rest
said_of_command m c [] rest = refl
said_of_command m c (x ∷ xs) rest = by (said_of_command m c xs rest) x.mark
  where
    by : said m (of_command c xs ++ rest) ≡ flat_map (entries m c) xs ++ said m rest
        → (b : Bool) → said m (map (λ (y : Marked _). let e : Execution _ _ = record { command = c; found = y.slot } in e) (if b then x ∷ filter (λ (y : Marked _). y.mark) xs else filter (λ (y : Marked _). y.mark) xs) ++ rest)
        ≡ ((if b then m.says c x.slot else []) ++ flat_map (entries m c) xs) ++ said m rest
    by more true = ap (λ l. m.says c x.slot ++ l) more ∙ sym (append_assoc (m.says c x.slot) (flat_map (entries m c) xs) (said m rest))
    by more false = more

-- a test of executions
abbrev pub is_met : {S C : Type 0} → (C → Slot S → Bool) → Execution S C → Bool
is_met test e = test e.command e.found

met_by_command : {S C : Type 0} (test : C → Slot S → Bool) (c : C) (xs : List (Marked S)) → list_any (is_met test) (of_command c xs) ≡ list_any (meets test c) xs
met_by_command test c [] = refl
met_by_command test c (x ∷ xs) = by (met_by_command test c xs) x.mark
  where
    by : list_any (is_met test) (of_command c xs) ≡ list_any (meets test c) xs
        → (b : Bool) → list_any (is_met test) (map (λ (y : Marked _). let e : Execution _ _ = record { command = c; found = y.slot } in e) (if b then x ∷ filter (λ (y : Marked _). y.mark) xs else filter (λ (y : Marked _). y.mark) xs))
        ≡ ((if b then test c x.slot else false) || list_any (meets test c) xs)
    by more true = ap (λ b. test c x.slot || b) more
    by more false = more

pub met_by_commands : {S T C M : Type 0} (m : Meaning S T C M) (test : C → Slot S → Bool) (cs : List C) (xs : List (Marked S))
    → list_any (is_met test) (executions m cs xs) ≡ some_of_commands m test cs xs
met_by_commands m test [] xs = refl
met_by_commands m test (c ∷ cs) xs =
    list_any-append (is_met test) (of_command c xs) (executions m cs (map (executed m c) xs))
    ∙ ap (λ b. b || list_any (is_met test) (executions m cs (map (executed m c) xs))) (met_by_command test c xs)
    ∙ ap (λ b. list_any (meets test c) xs || b) (met_by_commands m test cs (map (executed m c) xs))

-- Some execution meets a test, slot by slot and command by command, or in the list of all.
pub met_by_passes : {S T C M : Type 0} (m : Meaning S T C M) (test : C → Slot S → Bool) (ps : List (Pass T C)) (slots : List (Slot S))
    → list_any (is_met test) (executions_of m ps slots) ≡ some_execution m test ps slots
met_by_passes m test [] slots = refl
met_by_passes m test (p ∷ ps) slots =
    list_any-append (is_met test) (executions m p.commands (map (marked m p.target) slots)) (executions_of m ps (slots_after_pass m p slots))
    ∙ ap (λ b. b || list_any (is_met test) (executions_of m ps (slots_after_pass m p slots))) (met_by_commands m test p.commands (map (marked m p.target) slots))
    ∙ ap (λ b. some_of_commands m test p.commands (map (marked m p.target) slots) || b) (met_by_passes m test ps (slots_after_pass m p slots))

-- of tests that tell of each element that is known
pub any_told : {X : Type 0} (test known : X → Bool) (P : X → Type 0) → ((x : X) → known x ≡ true → (test x ≡ true) ↔ P x)
    → (xs : List X) → list_all known xs ≡ true → (list_any test xs ≡ true) ↔ Any P xs
any_told test known P tells xs all = (
  λ some.
      let at = Any-from_list_any test xs some in
      (at.0, at.1, at.2, at.3, (tells at.1 (at_place at.0 at.1 at.2 at.3)).0 at.4),
  λ at. list_any-from_Any test xs (at.0, at.1, at.2, at.3, (tells at.1 (at_place at.0 at.1 at.2 at.3)).1 at.4),
)
  where
    at_place : (k : ℕ) (x : _) → k < length xs → get_or xs k x ≡ x → known x ≡ true
    at_place k x within is = sym (ap known is) ∙ AllPass-from_list_all known xs all k x within

-- what holds of each command of some passes holds of that of each execution
known_command : {S C : Type 0} (known : C → Bool) (c : C) → known c ≡ true → (xs : List (Marked S)) → list_all (λ (e : Execution S C). known e.command) (of_command c xs) ≡ true
known_command known c is [] = refl
known_command {S} {C} known c is (x ∷ xs) = by (known_command known c is xs) x.mark
  where
    by : list_all (λ (e : Execution S C). known e.command) (of_command c xs) ≡ true
        → (b : Bool) → list_all (λ (e : Execution S C). known e.command) (map (λ (y : Marked S). let e : Execution S C = record { command = c; found = y.slot } in e) (if b then x ∷ filter (λ (y : Marked S). y.mark) xs else filter (λ (y : Marked S). y.mark) xs)) ≡ true
    by more true = ap (λ b. b && list_all (λ (e : Execution S C). known e.command) (of_command c xs)) is ∙ more
    by more false = more

both_known : {X : Type 0} (known : X → Bool) (xs ys : List X) → list_all known xs ≡ true → list_all known ys ≡ true → list_all known (xs ++ ys) ≡ true
both_known known xs ys p q = list_all-append known xs ys ∙ ap (λ b. b && list_all known ys) p ∙ q

known_commands : {S T C M : Type 0} (m : Meaning S T C M) (known : C → Bool) (cs : List C) → list_all known cs ≡ true → (xs : List (Marked S))
    → list_all (λ (e : Execution S C). known e.command) (executions m cs xs) ≡ true
known_commands m known [] all xs = refl
known_commands {S} {T} {C} m known (c ∷ cs) all xs =
    let both = and_parts (known c) (list_all known cs) all in
    both_known (λ (e : Execution S C). known e.command) (of_command c xs) (executions m cs (map (executed m c) xs)) (known_command known c both.0 xs) (known_commands m known cs both.1 (map (executed m c) xs))

known_passes : {S T C M : Type 0} (m : Meaning S T C M) (known : C → Bool) (ps : List (Pass T C)) → list_all (λ (p : Pass T C). list_all known p.commands) ps ≡ true → (slots : List (Slot S))
    → list_all (λ (e : Execution S C). known e.command) (executions_of m ps slots) ≡ true
known_passes m known [] all slots = refl
known_passes {S} {T} {C} m known (p ∷ ps) all slots =
    let both = and_parts (list_all known p.commands) (list_all (λ (q : Pass T C). list_all known q.commands) ps) all in
    both_known (λ (e : Execution S C). known e.command) (executions m p.commands (map (marked m p.target) slots)) (executions_of m ps (slots_after_pass m p slots))
    (known_commands m known p.commands both.0 (map (marked m p.target) slots)) (known_passes m known ps both.1 (slots_after_pass m p slots))

-- Where a test tells of each known command whether it leaves something else than it finds, some execution meets it exactly where the passes change something.
pub change_met : {S T C M : Type 0} (m : Meaning S T C M) (test : C → Slot S → Bool) (known : C → Bool)
    → ((c : C) (slot : Slot S) → known c ≡ true → (test c slot ≡ true) ↔ (m.after c slot ≢ slot))
    → (ps : List (Pass T C)) (slots : List (Slot S)) → list_all (λ (p : Pass T C). list_all known p.commands) ps ≡ true
    → (some_execution m test ps slots ≡ true) ↔ Changes m ps slots
change_met {S} {T} {C} m test known tells ps slots all =
    let told = any_told (is_met test) (λ (e : Execution S C). known e.command) (λ (e : Execution S C). m.after e.command e.found ≢ e.found)
    (λ e is. tells e.command e.found is) (executions_of m ps slots) (known_passes m known ps all slots) in
    (λ met. told.0 (met_by_passes m test ps slots ∙ met), λ change. sym (met_by_passes m test ps slots) ∙ told.1 change)

-- Where it can be told of each slot, one of two holds.
pub some_change : {S T C M : Type 0} (m : Meaning S T C M) → ((x y : Slot S) → (x ≡ y) ⊎ (x ≢ y)) → (ps : List (Pass T C)) (slots : List (Slot S))
    → (b : Bool) × ((b ≡ true) ↔ Changes m ps slots)
some_change {S} {T} {C} m same ps slots = (
  list_any differs (executions_of m ps slots),
  any_told differs (λ e. true) (λ (e : Execution S C). m.after e.command e.found ≢ e.found) (λ e is. tells (same (m.after e.command e.found) e.found)) (executions_of m ps slots) (all_true (executions_of m ps slots)),
)
  where
    is_right : {A B : Type 0} → A ⊎ B → Bool
    is_right (inl a) = false
    is_right (inr b) = true

    differs : Execution S C → Bool
    differs e = is_right (same (m.after e.command e.found) e.found)

    tells : {A : Type 0} (d : A ⊎ (A → ⊥)) → (is_right d ≡ true) ↔ (A → ⊥)
    tells (inl a) = (λ h. absurd (false≢true h), λ differs. absurd (differs a))
    tells (inr other) = (λ h. other, λ h. refl)

    all_true : {X : Type 0} (xs : List X) → list_all (λ x. true) xs ≡ true
    all_true [] = refl
    all_true (x ∷ xs) = all_true xs

-- an element that is so, among more
first_in : {X : Type 0} (P : X → Type 0) (x : X) (xs : List X) → P x → Any P (x ∷ xs)
first_in P x xs is = (0, x, omega arith, refl, is)

later_in : {X : Type 0} (P : X → Type 0) (x : X) (xs : List X) → Any P xs → Any P (x ∷ xs)
later_in P x xs some = (suc some.0, some.1, omega (arith, some.2), some.3, some.4)

in_rest : {X : Type 0} (P : X → Type 0) (xs ys : List X) → Any P ys → Any P (xs ++ ys)
in_rest P [] ys some = some
in_rest P (x ∷ xs) ys some = later_in P x (xs ++ ys) (in_rest P xs ys some)

in_front : {X : Type 0} (P : X → Type 0) (xs ys : List X) → Any P xs → Any P (xs ++ ys)
in_front P xs ys some =
    (some.0, some.1, omega (arith, some.2, length-append xs ys), get_or_append_left xs ys some.1 some.0 some.2 ∙ some.3, some.4)

-- Where no execution leaves something else than it finds, no slot can differ.
abbrev NotNot : Type 0 → Type 0
NotNot A = (A → ⊥) → ⊥

abbrev Differs : {S T C M : Type 0} → Meaning S T C M → Execution S C → Type 0
Differs m e = m.after e.command e.found ≢ e.found

calm_slot : {S T C M : Type 0} (m : Meaning S T C M) (c : C) (mark : Bool) (slot : Slot S) (xs : List (Marked S)) (rest : List (Execution S C))
    → (Any (Differs m) (of_command c (with_mark mark slot ∷ xs) ++ rest) → ⊥)
    → NotNot (executed m c (with_mark mark slot) ≡ with_mark mark slot) × (Any (Differs m) (of_command c xs ++ rest) → ⊥)
calm_slot m c true slot xs rest none = (
  λ differs. none (first_in (Differs m) _ (of_command c xs ++ rest) (λ same. differs (ap (with_mark true) same))),
  λ later. none (later_in (Differs m) _ (of_command c xs ++ rest) later),
)
calm_slot m c false slot xs rest none = (λ differs. differs refl, none)

calm_command : {S T C M : Type 0} (m : Meaning S T C M) (c : C) (xs : List (Marked S)) (rest : List (Execution S C))
    → (Any (Differs m) (of_command c xs ++ rest) → ⊥) → NotNot (map (executed m c) xs ≡ xs)
calm_command m c [] rest none differ = differ refl
calm_command m c (x ∷ xs) rest none differ =
    let one = calm_slot m c x.mark x.slot xs rest none in
    one.0 (λ here. calm_command m c xs rest one.1 (λ later. differ (λ i. here i ∷ later i)))

calm_commands : {S T C M : Type 0} (m : Meaning S T C M) (cs : List C) (xs : List (Marked S)) → (Any (Differs m) (executions m cs xs) → ⊥) → NotNot (slots_after_commands m cs xs ≡ xs)
calm_commands m [] xs none differ = differ refl
calm_commands m (c ∷ cs) xs none differ =
    calm_command m c xs (executions m cs (map (executed m c) xs)) none (λ same.
    calm_commands m cs (map (executed m c) xs) (λ later. none (in_rest (Differs m) (of_command c xs) (executions m cs (map (executed m c) xs)) later)) (λ rest. differ (rest ∙ same)))

-- marks are forgotten
unmarked : {S T C M : Type 0} (m : Meaning S T C M) (target : T) (slots : List (Slot S)) → map (λ (x : Marked S). x.slot) (map (marked m target) slots) ≡ slots
unmarked m target [] = refl
unmarked m target (slot ∷ slots) = ap (λ rest. slot ∷ rest) (unmarked m target slots)

pub calm_passes : {S T C M : Type 0} (m : Meaning S T C M) (ps : List (Pass T C)) (slots : List (Slot S)) → (Changes m ps slots → ⊥) → (slots_after m ps slots ≡ slots → ⊥) → ⊥
calm_passes m [] slots none differ = differ refl
calm_passes {S} m (p ∷ ps) slots none differ =
    let here = executions m p.commands (map (marked m p.target) slots) in
    let rest = executions_of m ps (slots_after_pass m p slots) in
    calm_commands m p.commands (map (marked m p.target) slots) (λ some. none (in_front (Differs m) here rest some)) (λ same.
    let stays : slots_after_pass m p slots ≡ slots = ap (map (λ (x : Marked S). x.slot)) same ∙ unmarked m p.target slots in
    calm_passes m ps (slots_after_pass m p slots) (λ later. none (in_rest (Differs m) here rest later)) (λ last. differ (last ∙ stays)))
