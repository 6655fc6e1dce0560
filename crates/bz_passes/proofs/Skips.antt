-- Passes that do not mark a slot do nothing to it.
use Rattle.std.proofs.Common.{◌≡◌, ℕ, zero, suc, ◌<◌, ◌≤◌, ◌+◌, Bool, true, false, ◌||◌, List, [], ◌∷◌, ◌++◌, length, take, drop, get_or, refl, sym, ◌∙◌, ap, arith, append_assoc, length-drop, get_or-drop, drop-drop, take-add, ◌-◌}
use Rattle.std.proofs.lemmas.Grind.{common_steps}
use Rattle.std.proofs.Math.Nat.{suc_inj}
use Rattle.bz_passes.specs.Passes.{Slot, Meaning, Pass, marked}
use Rattle.bz_passes.specs.Exchange.{Kept, Fits, slot_after_commands, slot_after_pass, slot_after, logs_alone, logs_and, pass_alone, pass_and, kept_alone, kept_and, some_of_commands_alone, some_alone, with_mark}

-- a pass that does not mark the slot: it stays, nothing is told, and no test is met
commands_stay : {S T C M : Type 0} (m : Meaning S T C M) (cs : List C) (x : Slot S) → (slot_after_commands m cs (with_mark false x)).slot ≡ x
commands_stay m [] x = refl
commands_stay m (c ∷ cs) x = commands_stay m cs x

no_command : {S T C M : Type 0} (m : Meaning S T C M) (test : C → Slot S → Bool) (cs : List C) (x : Slot S) → some_of_commands_alone m test cs (with_mark false x) ≡ false
no_command m test [] x = refl
no_command m test (c ∷ cs) x = no_command m test cs x

append_nothing : {X : Type 0} (xs : List X) → xs ++ [] ≡ xs
append_nothing [] = refl
append_nothing (x ∷ xs) = ap (λ l. x ∷ l) (append_nothing xs)

logs_stay : {S T C M : Type 0} (m : Meaning S T C M) (cs : List C) (x : Slot S) (logs : List (List M)) → length logs ≡ length cs
    → logs_and logs (logs_alone m cs (with_mark false x)) ≡ logs
logs_stay m [] x [] h = refl
logs_stay m (c ∷ cs) x [] h = refl
logs_stay m [] x (l ∷ logs) h = absurd (omega (arith, h))
logs_stay m (c ∷ cs) x (l ∷ logs) h = rw (append_nothing l, logs_stay m cs x logs (suc_inj h)) refl

pub unmarked_slot : {S T C M : Type 0} (m : Meaning S T C M) (p : Pass T C) (x : Slot S) → m.marks p.target x ≡ false → slot_after_pass m p x ≡ x
unmarked_slot m p x h = ap (λ (b : Bool). (slot_after_commands m p.commands (with_mark b x)).slot) h ∙ commands_stay m p.commands x

or_nothing : (b : Bool) → (b || false) ≡ b
or_nothing true = refl
or_nothing false = refl

pub unmarked_kept : {S T C M : Type 0} (m : Meaning S T C M) (p : Pass T C) (x : Slot S) (k : Kept M) → length k.logs ≡ length p.commands → m.marks p.target x ≡ false
    → pass_and k (pass_alone m p x) ≡ k
unmarked_kept m p x k fits h = rw (h, or_nothing k.found, logs_stay m p.commands x k.logs fits) refl

pub unmarked_test : {S T C M : Type 0} (m : Meaning S T C M) (test : C → Slot S → Bool) (p : Pass T C) (x : Slot S) → m.marks p.target x ≡ false
    → some_of_commands_alone m test p.commands (marked m p.target x) ≡ false
unmarked_test m test p x h = rw h (no_command m test p.commands x)

-- The first n passes do not mark the slot: what all do is what the others do.
pub record Skips {S T C M : Type 0} (m : Meaning S T C M) (x : Slot S) (ps : List (Pass T C)) (ks : List (Kept M)) (n : ℕ) : Type 0 where
  pub fits : Fits (drop n ks) (drop n ps)
  pub slot : slot_after m (drop n ps) x ≡ slot_after m ps x
  pub kept : take n ks ++ kept_and (drop n ks) (kept_alone m (drop n ps) x) ≡ kept_and ks (kept_alone m ps x)
  pub some : (test : C → Slot S → Bool) → some_alone m test (drop n ps) x ≡ some_alone m test ps x

skip : {S T C M : Type 0} (m : Meaning S T C M) (x : Slot S) (ps : List (Pass T C)) (ks : List (Kept M)) (n : ℕ) → Fits ks ps → n ≤ length ps
    → ((i : ℕ) (d : Pass T C) → i < n → m.marks (get_or ps i d).target x ≡ false) → Skips m x ps ks n
skip m x ps ks zero fits h none = record { fits = fits; slot = refl; kept = refl; some = λ test. refl }
skip m x [] ks (suc n) fits h none = absurd (omega arith)
skip m x (p ∷ ps) [] (suc n) fits h none = absurd fits
skip m x (p ∷ ps) (k ∷ ks) (suc n) fits h none =
    let here : m.marks p.target x ≡ false = none 0 p (omega arith) in
    let rest : Skips m x ps ks n = skip m x ps ks n fits.1 (omega arith) (λ i d l. none (suc i) d (omega arith)) in
    record {
      fits = rest.fits;
      slot = rw (unmarked_slot m p x here) rest.slot;
      kept = rw (unmarked_slot m p x here, unmarked_kept m p x k fits.0 here) (ap (λ l. k ∷ l) rest.kept);
      some = λ test. rw (unmarked_slot m p x here, unmarked_test m test p x here) (rest.some test);
    }

-- the same between two positions
pub skip_from : {S T C M : Type 0} (m : Meaning S T C M) (x : Slot S) (ps : List (Pass T C)) (ks : List (Kept M)) (i j n : ℕ) → j ≡ i + n → j ≤ length ps → Fits (drop i ks) (drop i ps)
    → ((k : ℕ) (d : Pass T C) → i ≤ k → k < j → m.marks (get_or ps k d).target x ≡ false) → Skips m x (drop i ps) (drop i ks) n
skip_from m x ps ks i j n is h fits none =
    skip m x (drop i ps) (drop i ks) n fits (let l : length (drop i ps) ≡ length ps - i = length-drop i ps in omega (arith, l, is, h))
    (λ k d l. let at : get_or (drop i ps) k d ≡ get_or ps (i + k) d = get_or-drop i ps k d in rw at (none (i + k) d (omega arith) (omega (arith, is, l))))

pub drop_on : {X : Type 0} (xs : List X) (i j n : ℕ) → j ≡ i + n → drop n (drop i xs) ≡ drop j xs
drop_on xs i j n is = rw is (drop-drop n i xs)

pub take_on : {X : Type 0} (xs : List X) (i j n : ℕ) → j ≡ i + n → take i xs ++ take n (drop i xs) ≡ take j xs
take_on xs i j n is = rw is (sym (take-add i n xs))

-- what a loop keeps at the first position, it keeps at the second
pub fits_on : {S T C M : Type 0} (m : Meaning S T C M) (x : Slot S) (ps : List (Pass T C)) (ks : List (Kept M)) (i j n : ℕ) → j ≡ i + n → Skips m x (drop i ps) (drop i ks) n
    → Fits (drop j ks) (drop j ps)
fits_on m x ps ks i j n is skips = rw (sym (drop_on ps i j n is), sym (drop_on ks i j n is)) skips.fits

pub slot_on : {S T C M : Type 0} (m : Meaning S T C M) (x : Slot S) (ps : List (Pass T C)) (ks : List (Kept M)) (i j n : ℕ) (whole : Slot S) → j ≡ i + n → Skips m x (drop i ps) (drop i ks) n
    → slot_after m (drop i ps) x ≡ whole → slot_after m (drop j ps) x ≡ whole
slot_on m x ps ks i j n whole is skips all = ap (λ l. slot_after m l x) (sym (drop_on ps i j n is)) ∙ skips.slot ∙ all

pub kept_on : {S T C M : Type 0} (m : Meaning S T C M) (x : Slot S) (ps : List (Pass T C)) (ks whole : List (Kept M)) (i j n : ℕ) → j ≡ i + n → Skips m x (drop i ps) (drop i ks) n
    → take i ks ++ kept_and (drop i ks) (kept_alone m (drop i ps) x) ≡ whole → take j ks ++ kept_and (drop j ks) (kept_alone m (drop j ps) x) ≡ whole
kept_on m x ps ks whole i j n is skips all =
    let a : take j ks ++ kept_and (drop j ks) (kept_alone m (drop j ps) x) ≡ (take i ks ++ take n (drop i ks)) ++ kept_and (drop n (drop i ks)) (kept_alone m (drop n (drop i ps)) x) =
    rw (take_on ks i j n is, drop_on ks i j n is, drop_on ps i j n is) refl in
    a ∙ append_assoc (take i ks) (take n (drop i ks)) (kept_and (drop n (drop i ks)) (kept_alone m (drop n (drop i ps)) x)) ∙ ap (λ l. take i ks ++ l) skips.kept ∙ all

pub some_on : {S T C M : Type 0} (m : Meaning S T C M) (test : C → Slot S → Bool) (x : Slot S) (ps : List (Pass T C)) (ks : List (Kept M)) (i j n : ℕ) (before whole : Bool) → j ≡ i + n
    → Skips m x (drop i ps) (drop i ks) n → (before || some_alone m test (drop i ps) x) ≡ whole → (before || some_alone m test (drop j ps) x) ≡ whole
some_on m test x ps ks i j n before whole is skips all =
    ap (λ (b : Bool). before || b) (ap (λ l. some_alone m test l x) (sym (drop_on ps i j n is)) ∙ skips.some test) ∙ all

-- and once no pass is left, it is what was asked
drop_all : {X : Type 0} (xs : List X) (n : ℕ) → length xs ≡ n → drop n xs ≡ []
drop_all xs n h = grind (arith, common_steps)

take_whole : {X : Type 0} (xs : List X) (n : ℕ) → length xs ≡ n → take n xs ≡ xs
take_whole xs n h = grind (arith, common_steps)

pub slot_at_end : {S T C M : Type 0} (m : Meaning S T C M) (x whole : Slot S) (ps : List (Pass T C)) → slot_after m (drop (length ps) ps) x ≡ whole → x ≡ whole
slot_at_end m x whole ps h = ap (λ l. slot_after m l x) (sym (drop_all ps (length ps) refl)) ∙ h

pub kept_at_end : {S T C M : Type 0} (m : Meaning S T C M) (x : Slot S) (ps : List (Pass T C)) (ks whole : List (Kept M)) → length ks ≡ length ps
    → take (length ps) ks ++ kept_and (drop (length ps) ks) (kept_alone m (drop (length ps) ps) x) ≡ whole → ks ≡ whole
kept_at_end m x ps ks whole size h =
    let none : kept_and (drop (length ps) ks) (kept_alone m (drop (length ps) ps) x) ≡ [] = rw (drop_all ps (length ps) refl, drop_all ks (length ps) size) refl in
    sym (ap (λ l. take (length ps) ks ++ l) none ∙ append_nothing (take (length ps) ks) ∙ take_whole ks (length ps) size) ∙ h

pub some_at_end : {S T C M : Type 0} (m : Meaning S T C M) (test : C → Slot S → Bool) (x : Slot S) (ps : List (Pass T C)) (before whole : Bool)
    → (before || some_alone m test (drop (length ps) ps) x) ≡ whole → before ≡ whole
some_at_end m test x ps before whole h =
    sym (ap (λ l. before || some_alone m test l x) (drop_all ps (length ps) refl) ∙ or_nothing before) ∙ h
