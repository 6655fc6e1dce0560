-- Texts that are the same label have one end.
use Rattle.std.proofs.Common.{◌≡◌, ℕ, ◌≤◌, ◌&&◌, ◌||◌, not, List, [], ◌∷◌, ◌++◌, length, Bool, true, false, if◌then◌else◌, refl, sym, ap, ◌∙◌, arith, inl, inr, append_assoc}
use Rattle.std.specs.Prelude.{bytes_eq, codes, nat_eq, None, Some}
use Rattle.std.specs.List.{list_any, slice_split, onto_first, starts_with}
use Rattle.std.proofs.lemmas.Bool.{cases_Bool, or_parts, false≢true}
use Rattle.std.proofs.lemmas.Slice.Eq.{bytes_eq-Decides}
use Rattle.bz_label.specs.Endings.{ending, is_mark}
use Rattle.bz_label.specs.Labels.{Package, in_package, is_colon, is_slash, last_part, parts_of}
use Rattle.bz_label.specs.Same.{completed, is_local, same, with_name}
use Rattle.bz_label.proofs.Cuts.{last_cons, some_part}

-- where no mark is, all of it is the end
unmarked : (bs : List ℕ) → list_any is_mark bs ≡ false → ending bs ≡ bs
unmarked [] none = refl
unmarked (b ∷ bs) none = let both = or_parts (is_mark b) (list_any is_mark bs) none in rw (both.1, both.0) refl

after_mark : (m : ℕ) (bs : List ℕ) → is_mark m ≡ true → ending (m ∷ bs) ≡ ending bs
after_mark m bs is = elim (cases_Bool (list_any is_mark bs)) [ inl some ↦ rw some refl | inr none ↦ rw (none, is) (sym (unmarked bs none)) ]

some_after : (xs ys : List ℕ) → list_any is_mark ys ≡ true → list_any is_mark (xs ++ ys) ≡ true
some_after [] ys some = some
some_after (x ∷ xs) ys some = ap (λ b. is_mark x || b) (some_after xs ys some) ∙ by (is_mark x)
  where
    by : (b : Bool) → (b || true) ≡ true
    by true = refl
    by false = refl

before_marks : (xs ys : List ℕ) → list_any is_mark ys ≡ true → ending (xs ++ ys) ≡ ending ys
before_marks [] ys some = refl
before_marks (x ∷ xs) ys some = rw (some_after xs ys some) (before_marks xs ys some)

before_mark : (xs : List ℕ) (m : ℕ) (bs : List ℕ) → is_mark m ≡ true → ending (xs ++ m ∷ bs) ≡ ending bs
before_mark xs m bs is = before_marks xs (m ∷ bs) (ap (λ b. b || list_any is_mark bs) is) ∙ after_mark m bs is

-- without a colon it is the last part of a path
parted : (p : ℕ → Bool) (xs : List ℕ) → list_any p xs ≡ true → 2 ≤ length (slice_split p xs)
parted p [] some = absurd (false≢true some)
parted p (x ∷ xs) some = elim (cases_Bool (p x)) [
  | inl is ↦ rw is (omega (arith, some_part p xs))
  | inr other ↦ rw other (longer (slice_split p xs) (parted p xs (sym (ap (λ b. b || list_any p xs) other) ∙ some)))
]
  where
    longer : (l : List (List ℕ)) → 2 ≤ length l → 2 ≤ length (onto_first x l)
    longer [] many = absurd (omega arith)
    longer (y ∷ ys) many = many

whole : (p : ℕ → Bool) (xs : List ℕ) → list_any p xs ≡ false → slice_split p xs ≡ xs ∷ []
whole p [] none = refl
whole p (x ∷ xs) none = let both = or_parts (p x) (list_any p xs) none in rw (both.0, whole p xs both.1) refl

onto_many : (x : ℕ) (l : List (List ℕ)) → 2 ≤ length l → last_part (onto_first x l) ≡ last_part l
onto_many x [] many = absurd (omega arith)
onto_many x (y ∷ []) many = absurd (omega arith)
onto_many x (y ∷ z ∷ zs) many = refl

only_slashes : (xs : List ℕ) → list_any is_colon xs ≡ false → list_any is_mark xs ≡ list_any is_slash xs
only_slashes [] none = refl
only_slashes (x ∷ xs) none = let both = or_parts (is_colon x) (list_any is_colon xs) none in rw both.0 (ap (λ b. is_slash x || b) (only_slashes xs both.1))

last_is_ending : (xs : List ℕ) → list_any is_colon xs ≡ false → last_part (parts_of xs) ≡ ending xs
last_is_ending [] none = refl
last_is_ending (x ∷ xs) none =
    let both = or_parts (is_colon x) (list_any is_colon xs) none in
    let marks = only_slashes xs both.1 in
    let more = last_is_ending xs both.1 in
    elim (cases_Bool (is_slash x)) [
      | inl is ↦
          let mark : is_mark x ≡ true = rw both.0 is in
          let cut : last_part (parts_of (x ∷ xs)) ≡ ending xs = rw is (last_cons [] (parts_of xs) (some_part is_slash xs) ∙ more) in
          cut ∙ sym (after_mark x xs mark)
      | inr other ↦
          elim (cases_Bool (list_any is_slash xs)) [
            | inl some ↦
                let marked : ending (x ∷ xs) ≡ ending xs = rw (marks ∙ some) refl in
                let cut : last_part (parts_of (x ∷ xs)) ≡ ending xs = rw other (onto_many x (parts_of xs) (parted is_slash xs some) ∙ more) in
                cut ∙ sym marked
            | inr alone ↦
                let all : last_part (parts_of (x ∷ xs)) ≡ x ∷ xs = rw (other, whole is_slash xs alone) refl in
                all ∙ sym (unmarked (x ∷ xs) (only_slashes (x ∷ xs) none ∙ ap (λ b. is_slash x || b) alone ∙ ap (λ b. b || false) other))
          ]
    ]

-- a label in full ends as the text does

named_ending : (text : List ℕ) → ending (with_name text) ≡ ending text
named_ending text = by (starts_with nat_eq text (codes "//")) (list_any is_colon text) refl (bytes_eq (last_part (parts_of text)) [])
  where
    name : List ℕ
    name = last_part (parts_of text)

    bare : list_any is_colon text ≡ false → ending name ≡ ending text
    bare none = ap ending (last_is_ending text none) ∙ once text
      where
        once : (xs : List ℕ) → ending (ending xs) ≡ ending xs
        once [] = refl
        once (x ∷ xs) = elim (cases_Bool (list_any is_mark xs)) [
          | inl some ↦ rw some (once xs)
          | inr alone ↦ elim (cases_Bool (is_mark x)) [ inl is ↦ rw (alone, is) (unmarked xs alone) | inr other ↦ rw (alone, other) (rw (alone, other) refl) ]
        ]

    by : (a c : Bool) → list_any is_colon text ≡ c → (e : Bool) → ending (if a && not c then (if e then text else text ++ 58 ∷ name) else text) ≡ ending text
    by false c is e = refl
    by true true is e = refl
    by true false is true = refl
    by true false is false = before_mark text 58 name refl ∙ bare is

begins_with : (m : ℕ) (xs : List ℕ) → starts_with nat_eq xs (m ∷ []) ≡ true → (ys : List ℕ) × (xs ≡ m ∷ ys)
begins_with m [] is = absurd (false≢true is)
begins_with m (x ∷ xs) is = (xs, sym (ap (λ (l : List ℕ). l ++ xs) ((bytes_eq-Decides (m ∷ []) (x ∷ [])).0 is)))

pub completed_ending : (home : Package) (text : List ℕ) → ending (completed home text) ≡ ending text
completed_ending home text = named_ending (if starts_with nat_eq target (codes ":") then in_package home target else target) ∙ put ∙ local (is_local text)
  where
    target : List ℕ
    target = if is_local text then 58 ∷ text else text

    local : (b : Bool) → ending (if b then 58 ∷ text else text) ≡ ending text
    local true = after_mark 58 text refl
    local false = refl

    in_home : (home : Package) → starts_with nat_eq target (codes ":") ≡ true → ending (in_package home target) ≡ ending target
    in_home None is = refl
    in_home (Some path) is =
        let after = begins_with 58 target is in
        ap (λ (t : List ℕ). ending (codes "//" ++ (path ++ t))) after.1 ∙ ap ending (sym (append_assoc (codes "//") path (58 ∷ after.0))) ∙ before_mark (codes "//" ++ path) 58 after.0 refl
        ∙ sym (ap ending after.1 ∙ after_mark 58 after.0 refl)

    put : ending (if starts_with nat_eq target (codes ":") then in_package home target else target) ≡ ending target
    put = elim (cases_Bool (starts_with nat_eq target (codes ":"))) [ inl is ↦ rw is (in_home home is) | inr other ↦ rw other refl ]

pub same_ending : (home : Package) (a b : List ℕ) → same home a b ≡ true → ending a ≡ ending b
same_ending home a b is = sym (completed_ending home a) ∙ ap ending ((bytes_eq-Decides (completed home a) (completed home b)).0 is) ∙ completed_ending home b

-- cut at its last colon, and that at its last slash

some_mark : (ys : List ℕ) → list_any is_colon ys ≡ true → list_any is_mark ys ≡ true
some_mark [] some = absurd (false≢true some)
some_mark (y ∷ ys) some = by (is_colon y) (is_slash y) (some_mark ys) some
  where
    by : (a b : Bool) → (list_any is_colon ys ≡ true → list_any is_mark ys ≡ true) → (a || list_any is_colon ys) ≡ true → ((a || b) || list_any is_mark ys) ≡ true
    by true b more some = refl
    by false true more some = refl
    by false false more some = more some

once_cut : (xs : List ℕ) → (list_any is_colon (last_part (slice_split is_colon xs)) ≡ false) × (ending (last_part (slice_split is_colon xs)) ≡ ending xs)
once_cut [] = (refl, refl)
once_cut (x ∷ xs) =
    let more = once_cut xs in
    elim (cases_Bool (is_colon x)) [
      | inl is ↦
          let last : last_part (slice_split is_colon (x ∷ xs)) ≡ last_part (slice_split is_colon xs) = rw is (last_cons [] (slice_split is_colon xs) (some_part is_colon xs)) in
          let mark : is_mark x ≡ true = ap (λ b. b || is_slash x) is in
          (ap (list_any is_colon) last ∙ more.0, ap ending last ∙ more.1 ∙ sym (after_mark x xs mark))
      | inr other ↦
          elim (cases_Bool (list_any is_colon xs)) [
            | inl some ↦
                let last : last_part (slice_split is_colon (x ∷ xs)) ≡ last_part (slice_split is_colon xs) = rw other (onto_many x (slice_split is_colon xs) (parted is_colon xs some)) in
                let marked : ending (x ∷ xs) ≡ ending xs = rw (some_mark xs some) refl in
                (ap (list_any is_colon) last ∙ more.0, ap ending last ∙ more.1 ∙ sym marked)
            | inr alone ↦
                let all : last_part (slice_split is_colon (x ∷ xs)) ≡ x ∷ xs = rw (other, whole is_colon xs alone) refl in
                (ap (list_any is_colon) all ∙ ap (λ b. b || list_any is_colon xs) other ∙ alone, ap ending all)
          ]
    ]

pub ending_cut : (xs : List ℕ) → last_part (slice_split is_slash (last_part (slice_split is_colon xs))) ≡ ending xs
ending_cut xs = let once = once_cut xs in last_is_ending (last_part (slice_split is_colon xs)) once.0 ∙ once.1
