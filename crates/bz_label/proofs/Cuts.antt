-- A text in parts.
use Rattle.std.proofs.Common.{◌≡◌, ℕ, zero, suc, ◌+◌, ◌<◌, ◌&&◌, not, List, [], ◌∷◌, length, drop, Bool, true, false, refl, arith, inl, inr}
use Rattle.std.specs.Prelude.{bytes_eq}
use Rattle.std.specs.List.{list_all, slice_split, onto_first, position_or_len}
use Rattle.std.proofs.lemmas.Bool.{cases_Bool, and_parts, or_parts, not-true}
use Rattle.std.proofs.lemmas.List.Splits.{length-slice_split}
use Rattle.std.specs.Prelude.{◌||◌, nat_eq, codes, Some, None, Ok, Err}
use Rattle.std.specs.List.{starts_with}
use Rattle.bz_label.specs.Labels.{last_part, is_part, parts_of, path_of, package_of, is_slash, is_colon, is_plain, is_target, is_path}
use Rattle.bz_label.specs.declared.labels.LabelFault.{LabelFault}

onto_one : {X : Type 0} (p : X → Bool) (x : X) (xs : List X) → p x ≡ false → slice_split p xs ≡ xs ∷ [] → slice_split p (x ∷ xs) ≡ (x ∷ xs) ∷ []
onto_one p x xs h e = rw (h, e) refl

pub uncut : {X : Type 0} (p : X → Bool) (xs : List X) → position_or_len p xs ≡ length xs → slice_split p xs ≡ xs ∷ []
uncut p [] h = refl
uncut p (x ∷ xs) h = elim (cases_Bool (p x)) [
  | inl is ↦ let none : 0 ≡ suc (length xs) = rw is at h in absurd (omega arith)
  | inr other ↦
      let more : 1 + position_or_len p xs ≡ suc (length xs) = rw other at h in
      onto_one p x xs other (uncut p xs (omega arith))
]

-- no element of the list passes
pub none_passes : {X : Type 0} (p : X → Bool) (xs : List X) → position_or_len p xs ≡ length xs → list_all (λ x. not (p x)) xs ≡ true
none_passes p [] h = refl
none_passes p (x ∷ xs) h = elim (cases_Bool (p x)) [
  | inl is ↦ let none : 0 ≡ suc (length xs) = rw is at h in absurd (omega arith)
  | inr other ↦
      let more : 1 + position_or_len p xs ≡ suc (length xs) = rw other at h in
      rw other (none_passes p xs (omega arith))
]

pub all_drop : {X : Type 0} (q : X → Bool) (n : ℕ) (xs : List X) → list_all q xs ≡ true → list_all q (drop n xs) ≡ true
all_drop q zero xs h = h
all_drop q (suc n) [] h = refl
all_drop q (suc n) (x ∷ xs) h = all_drop q n xs (and_parts (q x) (list_all q xs) h).1

all_both : {X : Type 0} (q r : X → Bool) (xs : List X) → list_all q xs ≡ true → list_all r xs ≡ true → list_all (λ x. q x && r x) xs ≡ true
all_both q r [] h k = refl
all_both q r (x ∷ xs) h k =
    let a = and_parts (q x) (list_all q xs) h in
    let b = and_parts (r x) (list_all r xs) k in
    rw (a.0, b.0) (all_both q r xs a.1 b.1)

pub last_cons : (y : List ℕ) (l : List (List ℕ)) → 0 < length l → last_part (y ∷ l) ≡ last_part l
last_cons y [] h = absurd (omega arith)
last_cons y (z ∷ zs) h = refl

pub some_part : (p : ℕ → Bool) (xs : List ℕ) → 0 < length (slice_split p xs)
some_part p xs = omega (arith, length-slice_split p xs)

last_onto : (q : ℕ → Bool) (x : ℕ) (l : List (List ℕ)) → q x ≡ true → list_all q (last_part l) ≡ true → list_all q (last_part (onto_first x l)) ≡ true
last_onto q x [] a b = rw a refl
last_onto q x (part ∷ []) a b = rw a b
last_onto q x (part ∷ z ∷ zs) a b = b

pub last_all : (q p : ℕ → Bool) (xs : List ℕ) → list_all q xs ≡ true → list_all q (last_part (slice_split p xs)) ≡ true
last_all q p [] h = refl
last_all q p (x ∷ xs) h =
    let a = and_parts (q x) (list_all q xs) h in
    elim (cases_Bool (p x)) [
      | inl is ↦ rw (is, last_cons [] (slice_split p xs) (some_part p xs)) (last_all q p xs a.1)
      | inr other ↦ rw other (last_onto q x (slice_split p xs) a.0 (last_all q p xs a.1))
    ]

pub last_passes : (r : List ℕ → Bool) (l : List (List ℕ)) → 0 < length l → list_all r l ≡ true → r (last_part l) ≡ true
last_passes r [] some h = absurd (omega arith)
last_passes r (x ∷ []) some h = (and_parts (r x) true h).0
last_passes r (x ∷ y ∷ ys) some h = last_passes r (y ∷ ys) (omega arith) (and_parts (r x) (list_all r (y ∷ ys)) h).1

part_some : (part : List ℕ) → is_part part ≡ true → bytes_eq part [] ≡ false
part_some part h = (or_parts (bytes_eq part []) _ (not-true _ h)).0

-- the path of a package that was read
abbrev path_read : List ℕ → List ℕ → Type 0
path_read text path = (is_path path ≡ true) × (path_of text ≡ path)

path_is : (text path : List ℕ) → package_of text ≡ Ok (Some path) → path_read text path
path_is text path h = elim (cases_Bool (bytes_eq text (codes "-"))) [
  | inl is ↦ let differ : Ok None ≡ Ok (Some path) = rw is at h in absurd (cc)
  | inr other ↦ elim (cases_Bool (is_path (path_of text))) [
    | inl good ↦ let same : Ok (Some (path_of text)) ≡ Ok (Some path) = rw (other, good) at h in let e : path_of text ≡ path = cc in (rw (← e) good, e)
    | inr bad ↦ let differ : Err LabelFault.BadPackage ≡ Ok (Some path) = rw (other, bad) at h in absurd (cc)
  ]
]

path_all : (q : ℕ → Bool) (text : List ℕ) → list_all q text ≡ true → list_all q (path_of text) ≡ true
path_all q text h = elim (cases_Bool (starts_with nat_eq text (codes "//"))) [
  | inl is ↦ rw is (all_drop q 2 text h)
  | inr other ↦ rw other h
]

-- the last part of a path is a name
pub named_target : (text path : List ℕ) → list_all (λ b. not (is_colon b)) text ≡ true → package_of text ≡ Ok (Some path) → bytes_eq path [] ≡ false → is_target (last_part (parts_of path)) ≡ true
named_target text path colons h some =
    let read = path_is text path h in
    let checks = and_parts (list_all is_plain path && not (starts_with nat_eq path (codes "@"))) (bytes_eq path [] || list_all is_part (parts_of path)) read.0 in
    let plain = (and_parts (list_all is_plain path) (not (starts_with nat_eq path (codes "@"))) checks.0).0 in
    let parts : list_all is_part (parts_of path) ≡ true = rw some at checks.1 in
    let no_colon : list_all (λ b. not (is_colon b)) path ≡ true = rw (read.1) at (path_all (λ b. not (is_colon b)) text colons) in
    let last = last_part (parts_of path) in
    rw (part_some last (last_passes is_part (parts_of path) (some_part is_slash path) parts))
    (all_both is_plain (λ b. not (is_colon b)) last (last_all is_plain is_slash path plain) (last_all (λ b. not (is_colon b)) is_slash path no_colon))
