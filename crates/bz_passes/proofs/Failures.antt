-- What is told of failures, where there are none before the last slot.
use Rattle.std.proofs.Common.{◌≡◌, Bool, true, false, ◌||◌, List, [], ◌∷◌, ◌++◌, map, refl, sym, ◌∙◌, ap}
use Rattle.std.specs.Prelude.{if◌then◌else◌}
use Rattle.std.specs.List.{flat_map, list_any}
use Rattle.std.proofs.lemmas.List.Concat.{flat_map-append}
use Rattle.bz_passes.specs.Passes.{Slot, Meaning, Pass, Marked, marked, executed, slots_after_pass, slots_after}
use Rattle.bz_passes.specs.Exchange.{Kept, logs_alone, slot_after, slot_after_pass, kept_alone, logs_of, logs_and, kept_and, kept_of, entries, meets, some_of_commands, some_execution}
use Rattle.bz_passes.proofs.ExchangeLaw.{slots_alone, map_more, kept_more}

-- the slots after a script, with one slot more
pub slots_more : {S T C M : Type 0} (m : Meaning S T C M) (ps : List (Pass T C)) (slots : List (Slot S)) (slot : Slot S)
    → slots_after m ps (slots ++ slot ∷ []) ≡ slots_after m ps slots ++ slot_after m ps slot ∷ []
slots_more m ps slots slot =
    slots_alone m ps (slots ++ slot ∷ [])
    ∙ map_more (slot_after m ps) slots slot
    ∙ ap (λ l. l ++ slot_after m ps slot ∷ []) (sym (slots_alone m ps slots))

pub or_left : (a b : Bool) → (a || b) ≡ false → a ≡ false
or_left true b h = h
or_left false b h = refl

pub or_right : (a b : Bool) → (a || b) ≡ false → b ≡ false
or_right true true h = h
or_right true false h = refl
or_right false b h = h

-- no entry of these logs gives anything under f
abbrev pub NoneIn : {M T : Type 0} → (M → List T) → List (List M) → Type 0
NoneIn f [] = Unit {0}
NoneIn f (log ∷ logs) = (flat_map f log ≡ []) × NoneIn f logs

abbrev pub NoneKept : {M T : Type 0} → (M → List T) → List (Kept M) → Type 0
NoneKept f [] = Unit {0}
NoneKept f (k ∷ ks) = NoneIn f k.logs × NoneKept f ks

-- an execution whose test is false says nothing under f
said_none : {S T C M A : Type 0} (m : Meaning S T C M) (f : M → List A) (test : C → Slot S → Bool)
    → ((c : C) (slot : Slot S) → test c slot ≡ false → flat_map f (m.says c slot) ≡ [])
    → (c : C) (mark : Bool) (slot : Slot S) → (if mark then test c slot else false) ≡ false → flat_map f (if mark then m.says c slot else []) ≡ []
said_none m f test quiet c true slot h = quiet c slot h
said_none m f test quiet c false slot h = refl

none_said : {S T C M A : Type 0} (m : Meaning S T C M) (f : M → List A) (test : C → Slot S → Bool)
    → ((c : C) (slot : Slot S) → test c slot ≡ false → flat_map f (m.says c slot) ≡ [])
    → (c : C) (xs : List (Marked S)) → list_any (meets test c) xs ≡ false → flat_map f (flat_map (entries m c) xs) ≡ []
none_said m f test quiet c [] h = refl
none_said m f test quiet c (x ∷ xs) h =
    flat_map-append f (entries m c x) (flat_map (entries m c) xs)
    ∙ ap (λ l. l ++ flat_map f (flat_map (entries m c) xs)) (said_none m f test quiet c x.mark x.slot (or_left (meets test c x) (list_any (meets test c) xs) h))
    ∙ none_said m f test quiet c xs (or_right (meets test c x) (list_any (meets test c) xs) h)

none_of_commands : {S T C M A : Type 0} (m : Meaning S T C M) (f : M → List A) (test : C → Slot S → Bool)
    → ((c : C) (slot : Slot S) → test c slot ≡ false → flat_map f (m.says c slot) ≡ [])
    → (cs : List C) (xs : List (Marked S)) → some_of_commands m test cs xs ≡ false → NoneIn f (logs_of m cs xs)
none_of_commands m f test quiet [] xs h = tt
none_of_commands m f test quiet (c ∷ cs) xs h =
    let here = list_any (meets test c) xs in
    let there = some_of_commands m test cs (map (executed m c) xs) in
    (none_said m f test quiet c xs (or_left here there h), none_of_commands m f test quiet cs (map (executed m c) xs) (or_right here there h))

-- where no execution meets the test, nothing that is kept gives anything under f
pub none_kept : {S T C M A : Type 0} (m : Meaning S T C M) (f : M → List A) (test : C → Slot S → Bool)
    → ((c : C) (slot : Slot S) → test c slot ≡ false → flat_map f (m.says c slot) ≡ [])
    → (ps : List (Pass T C)) (slots : List (Slot S)) → some_execution m test ps slots ≡ false → NoneKept f (kept_of m ps slots)
none_kept m f test quiet [] slots h = tt
none_kept m f test quiet (p ∷ ps) slots h =
    let here = some_of_commands m test p.commands (map (marked m p.target) slots) in
    let there = some_execution m test ps (slots_after_pass m p slots) in (
      none_of_commands m f test quiet p.commands (map (marked m p.target) slots) (or_left here there h),
      none_kept m f test quiet ps (slots_after_pass m p slots) (or_right here there h),
    )

-- then what is kept of one slot more gives under f what that slot gives alone
logs_and_more : {S T C M A : Type 0} (m : Meaning S T C M) (f : M → List A) (cs : List C) (xs : List (Marked S)) (x : Marked S)
    → NoneIn f (logs_of m cs xs)
    → flat_map f (flat_map (λ log. log) (logs_and (logs_of m cs xs) (logs_alone m cs x))) ≡ flat_map f (flat_map (λ log. log) (logs_alone m cs x))
logs_and_more m f [] xs x none = refl
logs_and_more m f (c ∷ cs) xs x none =
    let before = flat_map (entries m c) xs in
    let here = entries m c x in
    let rest = flat_map (λ log. log) (logs_and (logs_of m cs (map (executed m c) xs)) (logs_alone m cs (executed m c x))) in
    let alone = flat_map (λ log. log) (logs_alone m cs (executed m c x)) in
    flat_map-append f (before ++ here) rest
    ∙ ap (λ l. l ++ flat_map f rest) (flat_map-append f before here ∙ ap (λ l. l ++ flat_map f here) none.0)
    ∙ ap (λ l. flat_map f here ++ l) (logs_and_more m f cs (map (executed m c) xs) (executed m c x) none.1)
    ∙ sym (flat_map-append f here alone)

abbrev all_logs : {M : Type 0} → List (Kept M) → List M
all_logs kept = flat_map (λ k. flat_map (λ log. log) k.logs) kept

kept_and_more : {S T C M A : Type 0} (m : Meaning S T C M) (f : M → List A) (ps : List (Pass T C)) (slots : List (Slot S)) (slot : Slot S)
    → NoneKept f (kept_of m ps slots)
    → flat_map f (all_logs (kept_and (kept_of m ps slots) (kept_alone m ps slot))) ≡ flat_map f (all_logs (kept_alone m ps slot))
kept_and_more m f [] slots slot none = refl
kept_and_more m f (p ∷ ps) slots slot none =
    let before = logs_of m p.commands (map (marked m p.target) slots) in
    let here = logs_alone m p.commands (marked m p.target slot) in
    let both = flat_map (λ log. log) (logs_and before here) in
    let rest = all_logs (kept_and (kept_of m ps (slots_after_pass m p slots)) (kept_alone m ps (slot_after_pass m p slot))) in
    let alone = all_logs (kept_alone m ps (slot_after_pass m p slot)) in
    flat_map-append f both rest
    ∙ ap (λ l. l ++ flat_map f rest) (logs_and_more m f p.commands (map (marked m p.target) slots) (marked m p.target slot) none.0)
    ∙ ap (λ l. flat_map f (flat_map (λ log. log) here) ++ l) (kept_and_more m f ps (slots_after_pass m p slots) (slot_after_pass m p slot) none.1)
    ∙ sym (flat_map-append f (flat_map (λ log. log) here) alone)

-- What was told of failures is what the last slot tells of them, where there were none before.
pub failures_alone : {S T C M A : Type 0} (m : Meaning S T C M) (f : M → List A) (test : C → Slot S → Bool)
    → ((c : C) (slot : Slot S) → test c slot ≡ false → flat_map f (m.says c slot) ≡ [])
    → (ps : List (Pass T C)) (slots : List (Slot S)) (slot : Slot S) → some_execution m test ps slots ≡ false
    → flat_map f (all_logs (kept_of m ps (slots ++ slot ∷ []))) ≡ flat_map f (all_logs (kept_alone m ps slot))
failures_alone m f test quiet ps slots slot none_fails =
    ap (λ k. flat_map f (all_logs k)) (kept_more m ps slots slot)
    ∙ kept_and_more m f ps slots slot (none_kept m f test quiet ps slots none_fails)
