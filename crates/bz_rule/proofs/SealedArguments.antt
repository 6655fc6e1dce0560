-- Arguments of which some are sealed: what is seen of them, and edits that leave what is sealed.
use Rattle.std.proofs.Common.{◌≡◌, ℕ, suc, ◌+◌, zero, List, [], ◌∷◌, ◌++◌, length, Bool, true, false, ◌||◌, if◌then◌else◌, Option, Some, None, is_some, find, filter, not, refl, ap, sym, ◌∙◌, subst, append_assoc}
use Rattle.std.specs.List.{flat_map, list_any}
use Rattle.std.proofs.lemmas.Bool.{or_parts}
use Rattle.bz_tree.specs.Tree.{Segment}
use Rattle.bz_attribute.specs.Rules.{first_named, is_named}
use Rattle.bz_attribute.specs.Effects.{edit_first, has}
use Rattle.bz_attribute.proofs.Locals.{has_first}
use Rattle.bz_attribute.specs.RowPlaces.{IsLocal, LooksAt}
use Rattle.bz_rule.specs.Sealed.{AreSealed, Covers, all_done, same, sealed}
use Rattle.bz_token.specs.Common.{map_or}

-- what passes the test is no sealed argument
pub record Misses (asks : Segment → Bool) (p : Segment → Bool) : Type 0 where
  pub none : (a : Segment) → asks a ≡ false → p a ≡ false

pub misses : (asks : Segment → Bool) (name : List ℕ) → Covers asks (is_named name) → Misses asks (is_named name)
misses asks name h = record { none = h }

-- the same arguments before both, and after both
before_both : {like : List Segment → Segment → Type 0} {asks : Segment → Bool} {count : ℕ} {xs ys : List Segment} (zs : List Segment) → AreSealed like asks count xs ys → AreSealed like asks count (zs ++ xs) (zs ++ ys)
before_both [] h = h
before_both (z ∷ zs) h = same z (before_both zs h)

none_sealed : {like : List Segment → Segment → Type 0} {asks : Segment → Bool} (zs : List Segment) → AreSealed like asks zero zs zs
none_sealed [] = all_done
none_sealed (z ∷ zs) = same z (none_sealed zs)

after_both : {like : List Segment → Segment → Type 0} {asks : Segment → Bool} (count : ℕ) (xs ys zs : List Segment) → AreSealed like asks count xs ys → AreSealed like asks count (xs ++ zs) (ys ++ zs)
after_both _ _ _ zs all_done = none_sealed zs
after_both _ _ _ zs (same a rest) = same a (after_both _ _ _ zs rest)
after_both {like} {asks} _ _ _ zs (sealed {count} {args} {others} {run} {a} {t} stands rest) =
    subst (λ (xs : List Segment). AreSealed like asks (suc (length run + count)) (a ∷ xs) (t ∷ (others ++ zs))) (sym (append_assoc run args zs)) (sealed stands (after_both _ _ _ zs rest))

-- no argument of a run passes
run_passed : {asks : Segment → Bool} {p : Segment → Bool} → Misses asks p → (run args : List Segment) → list_any asks run ≡ false → find p (run ++ args) ≡ find p args
run_passed m [] args h = refl
run_passed {asks} {p} m (a ∷ run) args h =
    let both = or_parts (asks a) (list_any asks run) h in
    let passed : p a ≡ false = m.none a both.0 in
    rw passed (run_passed m run args both.1)

run_stays : {asks : Segment → Bool} {p : Segment → Bool} → Misses asks p → (f : Segment → List Segment) (run args : List Segment) → list_any asks run ≡ false → edit_first p f (run ++ args) ≡ run ++ edit_first p f args
run_stays m f [] args h = refl
run_stays {asks} {p} m f (a ∷ run) args h =
    let both = or_parts (asks a) (list_any asks run) h in
    let passed : p a ≡ false = m.none a both.0 in
    rw passed (ap (λ (xs : List Segment). a ∷ xs) (run_stays m f run args both.1))

run_kept : {asks : Segment → Bool} {p : Segment → Bool} → Misses asks p → (run args : List Segment) → list_any asks run ≡ false
    → filter (λ a. not (p a)) (run ++ args) ≡ run ++ filter (λ a. not (p a)) args
run_kept m [] args h = refl
run_kept {asks} {p} m (a ∷ run) args h =
    let both = or_parts (asks a) (list_any asks run) h in
    let passed : p a ≡ false = m.none a both.0 in
    rw passed (ap (λ (xs : List Segment). a ∷ xs) (run_kept m run args both.1))

-- the first argument that passes
first_found : {like : List Segment → Segment → Type 0} {asks : Segment → Bool} {p : Segment → Bool} → Misses asks p → (count : ℕ) (xs ys : List Segment) → AreSealed like asks count xs ys → find p xs ≡ find p ys
first_found m _ _ _ all_done = refl
first_found {p} m _ _ _ (same a rest) = ap (λ (o : Option Segment). if p a then Some a else o) (first_found m _ _ _ rest)
first_found {p} m _ _ _ (sealed {args} {run} {a} {t} stands rest) =
    let sealed_passed : p t ≡ false = m.none t stands.unnamed in
    run_passed m (a ∷ run) args stands.unasked ∙ first_found m _ _ _ rest ∙ sym (rw sealed_passed refl)

first_edited : {like : List Segment → Segment → Type 0} {asks : Segment → Bool} {p : Segment → Bool} → Misses asks p → (f : Segment → List Segment) (count : ℕ) (xs ys : List Segment) → AreSealed like asks count xs ys
    → AreSealed like asks count (edit_first p f xs) (edit_first p f ys)
first_edited m f _ _ _ all_done = all_done
first_edited {like} {asks} {p} m f _ _ _ (same {count} {args} {others} a rest) =
    elim (p a) as (λ b. AreSealed like asks count (if b then f a ++ args else a ∷ edit_first p f args) (if b then f a ++ others else a ∷ edit_first p f others))
    [ true ↦ before_both (f a) rest | false ↦ same a (first_edited m f _ _ _ rest) ]
first_edited {like} {asks} {p} m f _ _ _ (sealed {count} {args} {others} {run} {a} {t} stands rest) =
    let sealed_passed : p t ≡ false = m.none t stands.unnamed in
    subst (λ (xs : List Segment). AreSealed like asks (suc (length run + count)) xs (edit_first p f (t ∷ others))) (sym (run_stays m f (a ∷ run) args stands.unasked))
    (rw sealed_passed (sealed stands (first_edited m f _ _ _ rest)))

left_out : {like : List Segment → Segment → Type 0} {asks : Segment → Bool} {p : Segment → Bool} → Misses asks p → (count : ℕ) (xs ys : List Segment) → AreSealed like asks count xs ys
    → AreSealed like asks count (filter (λ a. not (p a)) xs) (filter (λ a. not (p a)) ys)
left_out m _ _ _ all_done = all_done
left_out {like} {asks} {p} m _ _ _ (same {count} {args} {others} a rest) =
    elim (p a) as (λ b. AreSealed like asks count (if not b then a ∷ filter (λ x. not (p x)) args else filter (λ x. not (p x)) args) (if not b then a ∷ filter (λ x. not (p x)) others else filter (λ x. not (p x)) others))
    [ true ↦ left_out m _ _ _ rest | false ↦ same a (left_out m _ _ _ rest) ]
left_out {like} {asks} {p} m _ _ _ (sealed {count} {args} {others} {run} {a} {t} stands rest) =
    let sealed_passed : p t ≡ false = m.none t stands.unnamed in
    subst (λ (xs : List Segment). AreSealed like asks (suc (length run + count)) xs (filter (λ x. not (p x)) (t ∷ others))) (sym (run_kept m (a ∷ run) args stands.unasked))
    (rw sealed_passed (sealed stands (left_out m _ _ _ rest)))

-- What is seen of arguments is the same, whatever is sealed.
pub record Overlooks (like : List Segment → Segment → Type 0) (asks : Segment → Bool) {A : Type 0} (f : List Segment → A) : Type 0 where
  pub seen : (count : ℕ) (xs ys : List Segment) → AreSealed like asks count xs ys → f xs ≡ f ys

-- An edit leaves sealed what is sealed.
pub record LeavesSealed (like : List Segment → Segment → Type 0) (asks : Segment → Bool) (f : List Segment → List Segment) : Type 0 where
  pub left : (count : ℕ) (xs ys : List Segment) → AreSealed like asks count xs ys → AreSealed like asks count (f xs) (f ys)

pub overlooks_by : {like : List Segment → Segment → Type 0} {asks : Segment → Bool} {A B : Type 0} {f : List Segment → A} → Overlooks like asks f → (g : A → B) → Overlooks like asks (λ args. g (f args))
overlooks_by h g = record { seen = λ count xs ys are. ap g (h.seen count xs ys are) }

pub first_overlooks : (like : List Segment → Segment → Type 0) (asks : Segment → Bool) (name : List ℕ) → Covers asks (is_named name) → Overlooks like asks (first_named name)
first_overlooks like asks name h = record { seen = first_found (misses asks name h) }

pub has_overlooks : (like : List Segment → Segment → Type 0) (asks : Segment → Bool) (name : List ℕ) → Covers asks (is_named name) → Overlooks like asks (has name)
has_overlooks like asks name h = record { seen = λ count xs ys are. has_first name xs ∙ ap is_some ((first_overlooks like asks name h).seen count xs ys are) ∙ sym (has_first name ys) }

pub all_left : (like : List Segment → Segment → Type 0) (asks : Segment → Bool) → LeavesSealed like asks (λ args. args)
all_left like asks = record { left = λ count xs ys are. are }

pub first_left : (like : List Segment → Segment → Type 0) (asks : Segment → Bool) (name : List ℕ) → Covers asks (is_named name) → (f : Segment → List Segment) → LeavesSealed like asks (edit_first (is_named name) f)
first_left like asks name h f = record { left = first_edited (misses asks name h) f }

pub others_left : (like : List Segment → Segment → Type 0) (asks p : Segment → Bool) → Covers asks p → LeavesSealed like asks (filter (λ a. not (p a)))
others_left like asks p h = record { left = left_out (record { none = h }) }

pub more_left : (like : List Segment → Segment → Type 0) (asks : Segment → Bool) (new : List Segment) → LeavesSealed like asks (λ args. args ++ new)
more_left like asks new = record { left = λ count xs ys are. after_both count xs ys new are }

pub twice_left : {like : List Segment → Segment → Type 0} {asks : Segment → Bool} {f g : List Segment → List Segment} → LeavesSealed like asks f → LeavesSealed like asks g → LeavesSealed like asks (λ args. f (g args))
twice_left {g} f_leaves g_leaves = record { left = λ count xs ys are. f_leaves.left count (g xs) (g ys) (g_leaves.left count xs ys are) }

-- an edit by what is seen
pub seen_left : {like : List Segment → Segment → Type 0} {asks : Segment → Bool} {A : Type 0} {look : List Segment → A} → Overlooks like asks look → (f : A → List Segment → List Segment) → ((x : A) → LeavesSealed like asks (f x))
    → LeavesSealed like asks (λ args. f (look args) args)
seen_left {like} {asks} {A} {look} overlooks f leaves = record {
  left = λ count xs ys are.
      subst (λ (x : A). AreSealed like asks count (f (look xs) xs) (f x ys)) (overlooks.seen count xs ys are) ((leaves (look xs)).left count xs ys are);
}

-- one of two edits, by a test
pub either_left : {like : List Segment → Segment → Type 0} {asks : Segment → Bool} {test : List Segment → Bool} {f g : List Segment → List Segment} → Overlooks like asks test → LeavesSealed like asks f → LeavesSealed like asks g
    → LeavesSealed like asks (λ args. if test args then f args else g args)
either_left {like} {asks} {f} {g} overlooks f_leaves g_leaves =
    seen_left overlooks (λ b args. if b then f args else g args) (λ b. elim b as (λ z. LeavesSealed like asks (λ args. if z then f args else g args)) [ true ↦ f_leaves | false ↦ g_leaves ])

-- What looks at the first argument of one of the names alone sees none of the sealed.
pub local_overlooks : (like : List Segment → Segment → Type 0) (asks : Segment → Bool) {A : Type 0} (name : List ℕ) (f : List Segment → A) → Covers asks (is_named name) → LooksAt name f → Overlooks like asks f
local_overlooks like asks name f h is = record {
  seen = λ count xs ys are. by xs ∙ (overlooks_by (first_overlooks like asks name h) (map_or (f []) (λ a. f (a ∷ [])))).seen count xs ys are ∙ sym (by ys);
}
  where
    by : (args : List Segment) → f args ≡ map_or (f []) (λ a. f (a ∷ [])) (first_named name args)
    by args =
        elim (first_named name args) as (λ o. first_named name args ≡ o → f args ≡ map_or (f []) (λ a. f (a ∷ [])) o)
        [ None ↦ λ e. is.absent args (has_first name args ∙ ap is_some e) | Some a ↦ λ e. is.there args a e ] refl

pub local_leaves : (like : List Segment → Segment → Type 0) (asks : Segment → Bool) (name : List ℕ) (f : List Segment → List Segment) → Covers asks (is_named name) → IsLocal name f → LeavesSealed like asks f
local_leaves like asks name f h is =
    let made : LeavesSealed like asks (λ args. edit (first_named name args) args) =
    seen_left (first_overlooks like asks name h) edit (λ o. elim o as (λ z. LeavesSealed like asks (edit z)) [ None ↦ more_left like asks (f []) | Some a ↦ first_left like asks name h (λ x. f (a ∷ [])) ]) in
    record { left = λ count xs ys are. rw (by xs, by ys) (made.left count xs ys are) }
  where
    edit : Option Segment → List Segment → List Segment
    edit None args = args ++ f []
    edit (Some a) args = edit_first (is_named name) (λ x. f (a ∷ [])) args

    by : (args : List Segment) → f args ≡ edit (first_named name args) args
    by args =
        elim (first_named name args) as (λ o. first_named name args ≡ o → f args ≡ edit o args)
        [ None ↦ λ e. is.absent args (has_first name args ∙ ap is_some e) | Some a ↦ λ e. is.there args a e ] refl

-- an edit of each argument that is asked for
run_same : {asks : Segment → Bool} (f : Segment → List Segment) → ((a : Segment) → asks a ≡ false → f a ≡ a ∷ []) → (run args : List Segment) → list_any asks run ≡ false → flat_map f (run ++ args) ≡ run ++ flat_map f args
run_same f stays [] args h = refl
run_same {asks} f stays (a ∷ run) args h =
    let both = or_parts (asks a) (list_any asks run) h in
    λ i. stays a both.0 i ++ run_same f stays run args both.1 i

each_edited : {like : List Segment → Segment → Type 0} {asks : Segment → Bool} (f : Segment → List Segment) → ((a : Segment) → asks a ≡ false → f a ≡ a ∷ []) → (count : ℕ) (xs ys : List Segment) → AreSealed like asks count xs ys
    → AreSealed like asks count (flat_map f xs) (flat_map f ys)
each_edited f stays _ _ _ all_done = all_done
each_edited f stays _ _ _ (same a rest) = before_both (f a) (each_edited f stays _ _ _ rest)
each_edited {like} {asks} f stays _ _ _ (sealed {count} {args} {others} {run} {a} {t} stands rest) =
    subst (λ (xs : List Segment). AreSealed like asks (suc (length run + count)) xs (flat_map f (t ∷ others))) (sym (run_same f stays (a ∷ run) args stands.unasked))
    (subst (λ (ys : List Segment). AreSealed like asks (suc (length run + count)) (a ∷ (run ++ flat_map f args)) (ys ++ flat_map f others)) (sym (stays t stands.unnamed)) (sealed stands (each_edited f stays _ _ _ rest)))

pub each_left : (like : List Segment → Segment → Type 0) (asks : Segment → Bool) (f : Segment → List Segment) → ((a : Segment) → asks a ≡ false → f a ≡ a ∷ []) → LeavesSealed like asks (flat_map f)
each_left like asks f stays = record { left = each_edited f stays }

-- whether one is found
run_missed : {asks : Segment → Bool} {p : Segment → Bool} → Misses asks p → (run args : List Segment) → list_any asks run ≡ false → list_any p (run ++ args) ≡ list_any p args
run_missed m [] args h = refl
run_missed {asks} {p} m (a ∷ run) args h =
    let both = or_parts (asks a) (list_any asks run) h in
    let passed : p a ≡ false = m.none a both.0 in
    rw passed (run_missed m run args both.1)

one_found : {like : List Segment → Segment → Type 0} {asks : Segment → Bool} {p : Segment → Bool} → Misses asks p → (count : ℕ) (xs ys : List Segment) → AreSealed like asks count xs ys → list_any p xs ≡ list_any p ys
one_found m _ _ _ all_done = refl
one_found {p} m _ _ _ (same a rest) = ap (λ (b : Bool). p a || b) (one_found m _ _ _ rest)
one_found {p} m _ _ _ (sealed {args} {run} {a} {t} stands rest) =
    let sealed_passed : p t ≡ false = m.none t stands.unnamed in
    run_missed m (a ∷ run) args stands.unasked ∙ one_found m _ _ _ rest ∙ sym (rw sealed_passed refl)

pub any_overlooks : (like : List Segment → Segment → Type 0) (asks : Segment → Bool) (p : Segment → Bool) → Covers asks p → Overlooks like asks (list_any p)
any_overlooks like asks p h = record { seen = one_found (record { none = h }) }
