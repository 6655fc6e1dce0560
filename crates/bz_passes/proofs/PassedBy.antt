-- A slot that no pass marks is passed by.
use Rattle.std.proofs.Common.{◌≡◌, ℕ, zero, suc, ◌<◌, Bool, true, false, not, ◌||◌, List, [], ◌∷◌, length, get_or, Option, Some, None, is_some, refl, sym, ◌∙◌, ap, arith}
use Rattle.std.specs.List.{list_any}
use Rattle.bz_passes.specs.Passes.{Slot, Meaning, Pass}
use Rattle.bz_passes.specs.Exchange.{Kept, Fits, IsPassedBy, slot_after, logs_of, kept_of, kept_and, kept_alone, some_alone}
use Rattle.bz_passes.specs.declared.index.Key.{Key}
use Rattle.bz_passes.specs.Asked.{IsFirstFrom, IsKeyOf, may_mark}
use Rattle.bz_passes.proofs.ExchangeLaw.{left_more}
use Rattle.bz_passes.proofs.Skips.{unmarked_kept, unmarked_slot, unmarked_test}
use Rattle.bz_passes.specs.Passes.{Marked, executed, marked, slots_after_pass}
use Rattle.std.specs.Prelude.{map}

-- whether there is a first position is whether the test holds somewhere
any_at : {X : Type 0} (test : X → Bool) (xs : List X) (i : ℕ) → i < length xs → ((d : X) → test (get_or xs i d) ≡ true) → list_any test xs ≡ true
any_at test [] i h met = absurd (omega arith)
any_at test (x ∷ xs) zero h met = rw (met x) refl
any_at test (x ∷ xs) (suc i) h met =
    elim (test x) as (λ b. (b || list_any test xs) ≡ true) [ true ↦ refl | false ↦ any_at test xs i (omega arith) (λ d. met d) ]

any_nowhere : {X : Type 0} (test : X → Bool) (xs : List X) → ((i : ℕ) (d : X) → i < length xs → test (get_or xs i d) ≡ false) → list_any test xs ≡ false
any_nowhere test [] none = refl
any_nowhere test (x ∷ xs) none = rw (none 0 x (omega arith)) (any_nowhere test xs (λ i d h. none (suc i) d (omega arith)))

not_not : (a b : Bool) → a ≡ not b → b ≡ not a
not_not a true h = rw h refl
not_not a false h = rw h refl

pub none_from_start : {X : Type 0} (test : X → Bool) (xs : List X) (r : Option ℕ) (none : Bool) → IsFirstFrom test xs 0 r → is_some r ≡ not none → none ≡ not (list_any test xs)
none_from_start test xs None none h is = not_not false none is ∙ rw (any_nowhere test xs (λ i d l. h i d (omega arith) l)) refl
none_from_start test xs (Some i) none h is = not_not true none is ∙ rw (any_at test xs i h.1 h.2) refl

-- there is a place for each pass and each command in what is kept of slots
logs_fit : {S T C M : Type 0} (m : Meaning S T C M) (cs : List C) (xs : List (Marked S)) → length (logs_of m cs xs) ≡ length cs
logs_fit m [] xs = refl
logs_fit m (c ∷ cs) xs = ap suc (logs_fit m cs (map (executed m c) xs))

kept_fits : {S T C M : Type 0} (m : Meaning S T C M) (ps : List (Pass T C)) (slots : List (Slot S)) → Fits (kept_of m ps slots) ps
kept_fits m [] slots = tt
kept_fits m (p ∷ ps) slots = (logs_fit m p.commands (map (marked m p.target) slots), kept_fits m ps (slots_after_pass m p slots))

pub or_nothing : (b : Bool) → (b || false) ≡ b
or_nothing true = refl
or_nothing false = refl

-- No pass marks the slot: it stays, and has nothing to tell.
pub record IsUnmarked {S T C M : Type 0} (m : Meaning S T C M) (ps : List (Pass T C)) (x : Slot S) : Type 0 where
  pub stays : slot_after m ps x ≡ x
  pub kept : (ks : List (Kept M)) → Fits ks ps → kept_and ks (kept_alone m ps x) ≡ ks
  pub some : (test : C → Slot S → Bool) → some_alone m test ps x ≡ false

no_passes : {S T C M : Type 0} (m : Meaning S T C M) (x : Slot S) → IsUnmarked m [] x
no_passes {T = T} {C = C} {M = M} m x = record { stays = refl; kept = by; some = λ test. refl } where
  by : (ks : List (Kept M)) → Fits {T = T} {C = C} ks [] → kept_and ks [] ≡ ks
  by [] fits = refl
  by (k ∷ ks) fits = absurd fits

one_pass_more : {S T C M : Type 0} (m : Meaning S T C M) (x : Slot S) (p : Pass T C) (ps : List (Pass T C)) → m.marks p.target x ≡ false → IsUnmarked m ps x → IsUnmarked m (p ∷ ps) x
one_pass_more {M = M} m x p ps here others = record {
  stays = ap (slot_after m ps) (unmarked_slot m p x here) ∙ others.stays;
  kept = by;
  some = λ test. rw (unmarked_slot m p x here, unmarked_test m test p x here) (others.some test);
} where
  by : (ks : List (Kept M)) → Fits ks (p ∷ ps) → kept_and ks (kept_alone m (p ∷ ps) x) ≡ ks
  by [] fits = absurd fits
  by (k ∷ ks) fits = rw (unmarked_slot m p x here, unmarked_kept m p x k fits.0 here) (ap (λ l. k ∷ l) (others.kept ks fits.1))

pub none_marks : {S T C M : Type 0} (m : Meaning S T C M) (x : Slot S) (ps : List (Pass T C)) → ((i : ℕ) (d : Pass T C) → i < length ps → m.marks (get_or ps i d).target x ≡ false) → IsUnmarked m ps x
none_marks m x [] none = no_passes m x
none_marks m x (p ∷ ps) none = one_pass_more m x p ps (none 0 p (omega arith)) (none_marks m x ps (λ i d l. none (suc i) d (omega (arith, l))))

pub unmarked_passed : {S T C M : Type 0} (m : Meaning S T C M) (changes fails : C → Slot S → Bool) (ps : List (Pass T C)) (x : Slot S)
    → ((i : ℕ) (d : Pass T C) → i < length ps → m.marks (get_or ps i d).target x ≡ false) → IsPassedBy m changes fails ps x
unmarked_passed {S = S} {C = C} m changes fails ps x none =
    let all : IsUnmarked m ps x = none_marks m x ps none in
    let same : (test : C → Slot S → Bool) (before : Bool) → before ≡ (before || some_alone m test ps x) = λ test before. sym (ap (λ (b : Bool). before || b) (all.some test) ∙ or_nothing before) in
    record {
      stays = all.stays;
      left = λ slots ks some_changed some_failed is.
          left_more m changes fails ps slots x ks ks some_changed some_changed some_failed some_failed
          (sym (all.kept ks (rw is.kept (kept_fits m ps slots)))) (same changes some_changed) (same fails some_failed) is;
    }

-- no pass may mark what has the key, so none marks it
pub unmarked : (mark may : Bool) → (mark ≡ true → may ≡ true) → may ≡ false → mark ≡ false
unmarked true may h = λ no. sym (h refl) ∙ no
unmarked false may h = λ no. refl

pub passed_by : {S T C M : Type 0} (m : Meaning S T C M) (changes fails : C → Slot S → Bool) (asked : T → Option (List ℕ)) (ps : List (Pass T C)) (x : Slot S) (key : Key) (r : Option ℕ)
    → IsFirstFrom (λ pass. may_mark key (asked pass.target)) ps 0 r → is_some r ≡ false → IsKeyOf m asked x key → IsPassedBy m changes fails ps x
passed_by m changes fails asked ps x key None first h is =
    unmarked_passed m changes fails ps x (λ i d l. unmarked _ _ (is (get_or ps i d).target) (first i d (omega arith) l))
passed_by m changes fails asked ps x key (Some i) first h is = absurd cc
