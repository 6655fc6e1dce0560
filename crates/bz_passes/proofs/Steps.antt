-- One turn of a loop that goes over a list and writes each element.
use Rattle.std.proofs.Common.{◌≡◌, ℕ, suc, ◌<◌, ◌≤◌, ◌+◌, Bool, true, false, ◌||◌, List, [], ◌∷◌, ◌++◌, length, map, take, drop, get_or, refl, sym, ◌∙◌, ap, append_assoc, append-nil}
use Rattle.std.specs.List.{flat_map}
use Rattle.std.proofs.lemmas.List.{drop_all, drop_more, take_more_set, map_more, length-map}
use Rattle.std.proofs.Math.Nat.{suc_inj}
use Rattle.std.proofs.lemmas.Grind.{common_steps}
use Rattle.std.proofs.Common.{arith}
use Rattle.std.proofs.Math.ListN.{set}
use Rattle.bz_passes.specs.Passes.{Slot, Meaning, Pass, Marked, executed, marked, missing}
use Rattle.bz_passes.specs.Exchange.{Kept, logs_alone, logs_and, slot_after_pass, slot_after, kept_alone, kept_and, Fits, pass_and, pass_alone, no_slot, some_of_commands_alone, some_alone, told, some_not_found, is_missing}

-- the element at i is written, and the rest is still to come
pub rest_after_write : {X : Type 0} (xs : List X) (i : ℕ) (y : X) → i < length xs → drop (i + 1) (set xs i y) ≡ drop (i + 1) xs
rest_after_write xs i y h = grind (arith, common_steps)

rest_of : {X : Type 0} (xs : List X) (i : ℕ) (x : X) → i < length xs → x ≡ get_or xs i x → drop i xs ≡ x ∷ drop (i + 1) xs
rest_of xs i x h e = drop_more xs i x h ∙ ap (λ z. z ∷ drop (i + 1) xs) (sym e)

or_assoc : (a b c : Bool) → ((a || b) || c) ≡ (a || (b || c))
or_assoc true b c = refl
or_assoc false b c = refl

-- one pass on one slot: what the rest of the passes does then is what they all do
pub slot_rest : {S T C M : Type 0} (m : Meaning S T C M) (ps : List (Pass T C)) (i : ℕ) (p : Pass T C) (x y whole : Slot S) → i < length ps → p ≡ get_or ps i p
    → y ≡ slot_after_pass m p x → slot_after m (drop i ps) x ≡ whole → slot_after m (drop (i + 1) ps) y ≡ whole
slot_rest m ps i p x y whole h is made all =
    let step : slot_after m (drop (i + 1) ps) y ≡ slot_after m (drop i ps) x = rw (rest_of ps i p h is, made) refl in
    step ∙ all

pub kept_rest : {S T C M : Type 0} (m : Meaning S T C M) (ps : List (Pass T C)) (i : ℕ) (p : Pass T C) (x y : Slot S) (ks whole : List (Kept M)) (e k : Kept M)
    → i < length ps → p ≡ get_or ps i p → i < length ks → y ≡ slot_after_pass m p x
    → k ≡ pass_and (get_or ks i e) (pass_alone m p x)
    → take i ks ++ kept_and (drop i ks) (kept_alone m (drop i ps) x) ≡ whole
    → take (i + 1) (set ks i k) ++ kept_and (drop (i + 1) (set ks i k)) (kept_alone m (drop (i + 1) ps) y) ≡ whole
kept_rest m ps i p x y ks whole e k h is l made said all =
    let step : take (i + 1) (set ks i k) ++ kept_and (drop (i + 1) (set ks i k)) (kept_alone m (drop (i + 1) ps) y) ≡ take i ks ++ kept_and (drop i ks) (kept_alone m (drop i ps) x) =
    rw (take_more_set ks i k l, rest_after_write ks i k l, rest_of ps i p h is, drop_more ks i e l, made, said)
    (append_assoc (take i ks) (pass_and (get_or ks i e) (pass_alone m p x) ∷ []) (kept_and (drop (i + 1) ks) (kept_alone m (drop (i + 1) ps) (slot_after_pass m p x)))) in
    step ∙ all

pub some_rest : {S T C M : Type 0} (m : Meaning S T C M) (test : C → Slot S → Bool) (ps : List (Pass T C)) (i : ℕ) (p : Pass T C) (x y : Slot S) (before after whole : Bool)
    → i < length ps → p ≡ get_or ps i p → y ≡ slot_after_pass m p x
    → after ≡ (before || some_of_commands_alone m test p.commands (marked m p.target x))
    → (before || some_alone m test (drop i ps) x) ≡ whole → (after || some_alone m test (drop (i + 1) ps) y) ≡ whole
some_rest m test ps i p x y before after whole h is made told all =
    let step : (after || some_alone m test (drop (i + 1) ps) y) ≡ (before || some_alone m test (drop i ps) x) =
    rw (rest_of ps i p h is, made, told) (or_assoc before (some_of_commands_alone m test p.commands (marked m p.target x)) (some_alone m test (drop (i + 1) ps) (slot_after_pass m p x))) in
    step ∙ all

pub fits_length : {T C M : Type 0} (ks : List (Kept M)) (ps : List (Pass T C)) → Fits ks ps → length ks ≡ length ps
fits_length [] [] h = refl
fits_length [] (p ∷ ps) h = absurd h
fits_length (k ∷ ks) [] h = absurd h
fits_length (k ∷ ks) (p ∷ ps) h = ap suc (fits_length ks ps h.1)

-- the place of a pass, and the places after it
pub fits_here : {T C M : Type 0} (ks : List (Kept M)) (ps : List (Pass T C)) (i : ℕ) (e : Kept M) (p : Pass T C) → i < length ks → i < length ps → p ≡ get_or ps i p
    → Fits (drop i ks) (drop i ps) → length (get_or ks i e).logs ≡ length p.commands
fits_here ks ps i e p h l is fits = (rw (drop_more ks i e h, rest_of ps i p l is) at fits).0

pub fits_after : {T C M : Type 0} (ks : List (Kept M)) (ps : List (Pass T C)) (i : ℕ) (e k : Kept M) (p : Pass T C) → i < length ks → i < length ps → p ≡ get_or ps i p
    → Fits (drop i ks) (drop i ps) → Fits (drop (i + 1) (set ks i k)) (drop (i + 1) ps)
fits_after ks ps i e k p h l is fits = rw (rest_after_write ks i k h) ((rw (drop_more ks i e h, rest_of ps i p l is) at fits).1)

-- there is still a place for each pass and each command
logs_and_length : {S T C M : Type 0} (m : Meaning S T C M) (cs : List C) (x : Marked S) (logs : List (List M)) → length logs ≡ length cs
    → length (logs_and logs (logs_alone m cs x)) ≡ length cs
logs_and_length m [] x [] h = refl
logs_and_length m [] x (log ∷ logs) h = refl
logs_and_length m (c ∷ cs) x [] h = h
logs_and_length m (c ∷ cs) x (log ∷ logs) h = ap suc (logs_and_length m cs (executed m c x) logs (suc_inj h))

pub kept_and_fits : {S T C M : Type 0} (m : Meaning S T C M) (ps : List (Pass T C)) (slot : Slot S) (ks : List (Kept M)) → Fits ks ps
    → Fits (kept_and ks (kept_alone m ps slot)) ps
kept_and_fits m [] slot [] h = h
kept_and_fits m [] slot (k ∷ ks) h = absurd h
kept_and_fits m (p ∷ ps) slot [] h = h
kept_and_fits m (p ∷ ps) slot (k ∷ ks) h =
    (logs_and_length m p.commands (marked m p.target slot) k.logs h.0, kept_and_fits m ps (slot_after_pass m p slot) ks h.1)

pub no_slot_fits : {T C : Type 0} (M : Type 0) (ps : List (Pass T C)) → Fits {M = M} (map no_slot ps) ps
no_slot_fits M [] = tt
no_slot_fits M (p ∷ ps) = (length-map p.commands (λ command. []), no_slot_fits M ps)

-- one more element is put after those that the first i elements give
pub mapped_more : {X Y : Type 0} (f : X → Y) (ys pushed : List Y) (y : Y) (xs : List X) (i : ℕ) (x : X) → i < length xs → pushed ≡ ys ++ y ∷ [] → y ≡ f (get_or xs i x) → ys ≡ map f (take i xs) → pushed ≡ map f (take (i + 1) xs)
mapped_more f ys pushed y xs i x h e same before = rw (e, map_more f xs i x h, before, same) refl

-- what is told of one pass, and of the passes after it
pub told_rest : {S T C M : Type 0} (m : Meaning S T C M) (ps : List (Pass T C)) (i : ℕ) (p : Pass T C) (ks : List (Kept M)) (e k : Kept M) (before after whole : List M) → i < length ps → p ≡ get_or ps i p → i < length ks
    → after ≡ before ++ (missing m p.target (get_or ks i e).found ++ flat_map (λ log. log) (get_or ks i e).logs)
    → before ++ told m (drop i ps) (drop i ks) ≡ whole → after ++ told m (drop (i + 1) ps) (drop (i + 1) (set ks i k)) ≡ whole
told_rest m ps i p ks e k before after whole h is l said all =
    let a = missing m p.target (get_or ks i e).found in
    let b = flat_map (λ log. log) (get_or ks i e).logs in
    let rest = told m (drop (i + 1) ps) (drop (i + 1) ks) in
    let step : after ++ told m (drop (i + 1) ps) (drop (i + 1) (set ks i k)) ≡ before ++ told m (drop i ps) (drop i ks) =
    rw (rest_after_write ks i k l, rest_of ps i p h is, drop_more ks i e l, said) (append_assoc before (a ++ b) rest) in
    step ∙ all

pub told_all : {S T C M : Type 0} (m : Meaning S T C M) (ps : List (Pass T C)) (ks : List (Kept M)) (i : ℕ) (log whole : List M) → length ps ≤ i → log ++ told m (drop i ps) ks ≡ whole → log ≡ whole
told_all m ps ks i log whole h all = sym (append-nil log) ∙ rw (drop_all i ps h) at all

-- whether the target of a pass was not found, or of one after it
pub not_found_here : {S T C M : Type 0} (m : Meaning S T C M) (ps : List (Pass T C)) (ks : List (Kept M)) (i : ℕ) (p : Pass T C) (k : Kept M) → i < length ps → i < length ks → p ≡ get_or ps i p → k ≡ get_or ks i k
    → some_not_found m (drop i ps) (drop i ks) ≡ (is_missing m p.target k.found || some_not_found m (drop (i + 1) ps) (drop (i + 1) ks))
not_found_here m ps ks i p k h l is e = rw (rest_of ps i p h is, rest_of ks i k l e) refl

pub none_after : {S T C M : Type 0} (m : Meaning S T C M) (ps : List (Pass T C)) (ks : List (Kept M)) (i : ℕ) → length ps ≤ i → some_not_found m (drop i ps) ks ≡ false
none_after m ps ks i h = rw (drop_all i ps h) refl
