-- A slot that one pass of a script alone marks.
use Rattle.std.proofs.Common.{◌≡◌, ◌≢◌, ℕ, zero, suc, ◌+◌, ◌<◌, Bool, true, false, cond, ◌||◌, List, [], ◌∷◌, length, get_or, filter, Option, Some, None, set, refl, ◌∙◌, ap, sym, arith}
use Rattle.std.proofs.Math.Nat.{suc_inj}
use Rattle.bz_passes.specs.Passes.{Slot, Meaning, Pass, marked}
use Rattle.bz_passes.specs.Exchange.{Kept, Fits, kept_alone, kept_and, logs_and, pass_alone, pass_and, slot_after, slot_after_pass, some_of_commands_alone}
use Rattle.bz_passes.specs.OnePass.{IsOnlyAt, IsOnlyFor, and_at}
use Rattle.bz_passes.specs.declared.index.Key.{Key}
use Rattle.bz_passes.specs.Asked.{IsFirstFrom, may_mark, passes_for}
use Rattle.bz_passes.proofs.PassedBy.{IsUnmarked, none_marks, or_nothing, unmarked}
use Rattle.bz_passes.proofs.Skips.{unmarked_kept, unmarked_slot, unmarked_test}

-- the first pass, where none after it marks what it leaves
first_only : {S T C M : Type 0} (m : Meaning S T C M) (x : Slot S) (p : Pass T C) (ps : List (Pass T C)) → IsUnmarked m ps (slot_after_pass m p x) → IsOnlyAt m (p ∷ ps) x 0 p
first_only {M = M} m x p ps others = record {
  after = others.stays;
  kept = by;
  some = λ test. ap (λ b. some_of_commands_alone m test p.commands (marked m p.target x) || b) (others.some test) ∙ or_nothing _;
} where
  by : (ks : List (Kept M)) → Fits ks (p ∷ ps) → kept_and ks (kept_alone m (p ∷ ps) x) ≡ and_at 0 (pass_alone m p x) ks
  by [] fits = absurd fits
  by (k ∷ ks) fits = ap (λ l. pass_and k (pass_alone m p x) ∷ l) (others.kept ks fits.1)

-- a pass before it that does not mark the slot
later_only : {S T C M : Type 0} (m : Meaning S T C M) (x : Slot S) (q p : Pass T C) (ps : List (Pass T C)) (at : ℕ) → m.marks q.target x ≡ false → IsOnlyAt m ps x at p → IsOnlyAt m (q ∷ ps) x (suc at) p
later_only {M = M} m x q p ps at other only = record {
  after = ap (slot_after m ps) (unmarked_slot m q x other) ∙ only.after;
  kept = by;
  some = λ test. rw (unmarked_slot m q x other, unmarked_test m test q x other) (only.some test);
} where
  by : (ks : List (Kept M)) → Fits ks (q ∷ ps) → kept_and ks (kept_alone m (q ∷ ps) x) ≡ and_at (suc at) (pass_alone m p x) ks
  by [] fits = absurd fits
  by (k ∷ ks) fits = rw (unmarked_slot m q x other, unmarked_kept m q x k fits.0 other) (ap (λ l. k ∷ l) (only.kept ks fits.1))

-- the pass at a position, where none before it marks the slot, and none after it what it leaves
pub only_marks : {S T C M : Type 0} (m : Meaning S T C M) (x : Slot S) (ps : List (Pass T C)) (at : ℕ) (p : Pass T C) → at < length ps → p ≡ get_or ps at p
    → ((i : ℕ) (d : Pass T C) → i < at → m.marks (get_or ps i d).target x ≡ false)
    → ((i : ℕ) (d : Pass T C) → at < i → i < length ps → m.marks (get_or ps i d).target (slot_after_pass m p x) ≡ false) → IsOnlyAt m ps x at p
only_marks m x [] at p within is before after = absurd (omega (arith, within))
only_marks m x (q ∷ ps) zero p within is before after =
    rw is (first_only m x q ps (none_marks m (slot_after_pass m q x) ps (λ i d l. rw is at (after (suc i) d (omega arith) (omega (arith, l))))))
only_marks m x (q ∷ ps) (suc at) p within is before after =
    later_only m x q p ps at (before 0 p (omega arith)) (only_marks m x ps at p (omega (arith, within)) is (λ i d l. before (suc i) d (omega (arith, l))) (λ i d l k. after (suc i) d (omega (arith, l)) (omega (arith, k))))

-- the first pass that may mark what has a key, where none after it may
pub only_for : {S T C M : Type 0} (m : Meaning S T C M) (asked : T → Option (List ℕ)) (ps : List (Pass T C)) (key : Key) (at : ℕ) → IsFirstFrom (λ pass. may_mark key (asked pass.target)) ps 0 (Some at)
    → IsFirstFrom (λ pass. may_mark key (asked pass.target)) ps (at + 1) None → IsOnlyFor m asked ps key at
only_for m asked ps key at first none x p is before after =
    only_marks m x ps at p first.1 is (λ i d l. unmarked _ _ (before (get_or ps i d).target) (first.3 i d (omega arith) l))
    (λ i d l k. unmarked _ _ (after (omega (arith, l, k)) (get_or ps i d).target) (none i d (omega (arith, l)) k))

-- the pass of a script that has one alone
pub only_of_one : {S T C M : Type 0} (m : Meaning S T C M) (asked : T → Option (List ℕ)) (ps : List (Pass T C)) (key : Key) → length ps ≡ 1 → IsOnlyFor m asked ps key 0
only_of_one m asked ps key one x p is before after =
    only_marks m x ps 0 p (omega (arith, one)) is (λ i d l. absurd (omega (arith, l))) (λ i d l k. absurd (omega (arith, one, l, k)))

-- how many elements pass a test: none, one or more, or two or more
filtered_none : {X : Type 0} (test : X → Bool) (xs : List X) → ((i : ℕ) (d : X) → i < length xs → test (get_or xs i d) ≡ false) → length (filter test xs) ≡ 0
filtered_none test [] none = refl
filtered_none test (x ∷ xs) none = rw (none 0 x (omega arith)) (filtered_none test xs (λ i d l. none (suc i) d (omega (arith, l))))

filtered_one : {X : Type 0} (test : X → Bool) (xs : List X) (i : ℕ) → i < length xs → ((d : X) → test (get_or xs i d) ≡ true) → 0 < length (filter test xs)
filtered_one test [] i within met = absurd (omega (arith, within))
filtered_one test (x ∷ xs) zero within met = rw (met x) (omega arith)
filtered_one test (x ∷ xs) (suc i) within met = elim (test x) as (λ b. 0 < length (cond b (x ∷ filter test xs) (filter test xs)))
    [ true ↦ omega arith | false ↦ filtered_one test xs i (omega (arith, within)) (λ d. met d) ]

filtered_two : {X : Type 0} (test : X → Bool) (xs : List X) (i j : ℕ) → i < j → j < length xs → ((d : X) → test (get_or xs i d) ≡ true) → ((d : X) → test (get_or xs j d) ≡ true) → 1 < length (filter test xs)
filtered_two test [] i j later within met also = absurd (omega (arith, within))
filtered_two test (x ∷ xs) i zero later within met also = absurd (omega (arith, later))
filtered_two test (x ∷ xs) zero (suc j) later within met also = let one = filtered_one test xs j (omega (arith, within)) (λ d. also d) in rw (met x) (omega (arith, one))
filtered_two test (x ∷ xs) (suc i) (suc j) later within met also =
    let two = filtered_two test xs i j (omega (arith, later)) (omega (arith, within)) (λ d. met d) (λ d. also d) in
    elim (test x) as (λ b. 1 < length (cond b (x ∷ filter test xs) (filter test xs))) [ true ↦ omega (arith, two) | false ↦ two ]

-- so it is not one
pub not_one_of_none : {T C : Type 0} (asked : T → Option (List ℕ)) (ps : List (Pass T C)) (key : Key) → IsFirstFrom (λ pass. may_mark key (asked pass.target)) ps 0 None → length (passes_for asked key ps) ≢ 1
not_one_of_none asked ps key none one = absurd (omega (arith, one, filtered_none (λ pass. may_mark key (asked pass.target)) ps (λ i d l. none i d (omega arith) l)))

pub not_one_of_two : {T C : Type 0} (asked : T → Option (List ℕ)) (ps : List (Pass T C)) (key : Key) (at next : ℕ) → IsFirstFrom (λ pass. may_mark key (asked pass.target)) ps 0 (Some at)
    → IsFirstFrom (λ pass. may_mark key (asked pass.target)) ps (at + 1) (Some next) → length (passes_for asked key ps) ≢ 1
not_one_of_two asked ps key at next first second one =
    absurd (omega (arith, one, filtered_two (λ pass. may_mark key (asked pass.target)) ps at next (omega (arith, second.0)) second.1 first.2 second.2))

-- what the pass at a position told is put to what is kept of it
pub put_at : {M : Type 0} (ks : List (Kept M)) (at : ℕ) (e k more : Kept M) → at < length ks → e ≡ get_or ks at e → k ≡ pass_and e more → set ks at k ≡ and_at at more ks
put_at [] at e k more within is made = absurd (omega (arith, within))
put_at (x ∷ ks) zero e k more within is made = ap (λ z. z ∷ ks) (made ∙ ap (λ z. pass_and z more) is)
put_at (x ∷ ks) (suc at) e k more within is made = ap (λ l. x ∷ l) (put_at ks at e k more (omega (arith, within)) is made)

-- there is a place for what the pass at a position tells
pub fits_at : {T C M : Type 0} (ks : List (Kept M)) (ps : List (Pass T C)) (at : ℕ) (p : Pass T C) → at < length ps → p ≡ get_or ps at p → Fits ks ps
    → (at < length ks) × ((e : Kept M) → length (get_or ks at e).logs ≡ length p.commands)
fits_at ks [] at p within is fits = absurd (omega (arith, within))
fits_at [] (q ∷ ps) at p within is fits = absurd fits
fits_at (k ∷ ks) (q ∷ ps) zero p within is fits = (omega arith, λ e. fits.0 ∙ ap (λ (p : Pass _ _). length p.commands) (sym is))
fits_at (k ∷ ks) (q ∷ ps) (suc at) p within is fits = let rest = fits_at ks ps at p (omega (arith, within)) is fits.1 in (omega (arith, rest.0), rest.1)

-- and it stays
both_logs : {M : Type 0} (xs ys : List (List M)) → length xs ≡ length ys → length (logs_and xs ys) ≡ length xs
both_logs [] ys same = refl
both_logs (x ∷ xs) [] same = absurd (omega (arith, same))
both_logs (x ∷ xs) (y ∷ ys) same = ap suc (both_logs xs ys (suc_inj same))

pub fits_and : {T C M : Type 0} (ks : List (Kept M)) (ps : List (Pass T C)) (at : ℕ) (p : Pass T C) (more : Kept M) → p ≡ get_or ps at p → length more.logs ≡ length p.commands → Fits ks ps → Fits (and_at at more ks) ps
fits_and [] ps at p more is size fits = fits
fits_and (k ∷ ks) [] at p more is size fits = absurd fits
fits_and (k ∷ ks) (q ∷ ps) zero p more is size fits =
    (both_logs k.logs more.logs (fits.0 ∙ ap (λ (p : Pass _ _). length p.commands) (sym is) ∙ sym size) ∙ fits.0, fits.1)
fits_and (k ∷ ks) (q ∷ ps) (suc at) p more is size fits = (fits.0, fits_and ks ps at p more is size fits.1)
