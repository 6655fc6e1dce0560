-- Facts on what stands before and after the last element that passes a test.
use Rattle.std.proofs.Common.{◌≡◌, ℕ, ◌+◌, ◌-◌, Bool, true, false, not, List, [], ◌∷◌, ◌++◌, reverse, length, take, drop, All, refl, sym, ap, subst, ◌∙◌, append_assoc, append-nil, length-append, take_at, drop_at, zero-add, arith}
use Rattle.std.specs.List.{list_any, prefix_len, suffix_len, before_last, after_last}
use Rattle.std.proofs.lemmas.Bool.{cond-true, cond-false, not-false, not_from_true, or_parts}
use Rattle.std.proofs.lemmas.List.{length_push, length-reverse, reverse-append}
use Rattle.std.proofs.lemmas.List.Elements.{All-nil, All-cons, All-head, All-tail, All-append}

All-reverse : {X : Type 0} (P : X → Type 0) (xs : List X) → All P xs → All P (reverse xs)
All-reverse P [] h = h
All-reverse P (x ∷ xs) h =
    subst (All P) (sym (reverse-append (x ∷ []) xs))
    (All-append P (reverse xs) (x ∷ []) (All-reverse P xs (All-tail P x xs h)) (All-cons P x [] (All-head P x xs h) (All-nil P)))

module _ {X : Type 0} (p : X → Bool) where
  prefix_len-append : (xs ys : List X) → All (λ x. p x ≡ true) xs → prefix_len p (xs ++ ys) ≡ length xs + prefix_len p ys
  prefix_len-append [] ys h = sym (zero-add _)
  prefix_len-append (x ∷ xs) ys h =
      let more = prefix_len-append xs ys (All-tail (λ y. p y ≡ true) x xs h) in
      cond-true (p x) _ 0 (All-head (λ y. p y ≡ true) x xs h) ∙ omega arith

  suffix_len_all : (xs : List X) → All (λ x. p x ≡ true) xs → suffix_len p xs ≡ length xs
  suffix_len_all xs h =
      let all = prefix_len-append (reverse xs) [] (All-reverse (λ x. p x ≡ true) xs h) in
      ap (prefix_len p) (sym (append-nil (reverse xs))) ∙ all ∙ omega (arith, length-reverse xs)

  suffix_len_at : (xs : List X) (y : X) (ys : List X) → p y ≡ false → All (λ x. p x ≡ true) ys → suffix_len p (xs ++ y ∷ ys) ≡ length ys
  suffix_len_at xs y ys stop h =
      let turned : reverse (xs ++ y ∷ ys) ≡ reverse ys ++ (y ∷ reverse xs) =
      reverse-append xs (y ∷ ys) ∙ ap (λ zs. zs ++ reverse xs) (reverse-append (y ∷ []) ys) ∙ append_assoc (reverse ys) (y ∷ []) (reverse xs) in
      let none : prefix_len p (y ∷ reverse xs) ≡ 0 = cond-false (p y) _ 0 stop in
      ap (prefix_len p) turned ∙ prefix_len-append (reverse ys) _ (All-reverse (λ x. p x ≡ true) ys h) ∙ omega (arith, length-reverse ys)

module _ {X : Type 0} (p : X → Bool) where
  none_all : (xs : List X) → list_any p xs ≡ false → All (λ x. not (p x) ≡ true) xs
  none_all [] h = All-nil (λ x. not (p x) ≡ true)
  none_all (x ∷ xs) h =
      let parts = or_parts (p x) (list_any p xs) h in
      All-cons (λ y. not (p y) ≡ true) x xs (ap not parts.0) (none_all xs parts.1)

  pub before_last_none : (xs : List X) → list_any p xs ≡ false → before_last p xs ≡ []
  before_last_none xs h =
      let none : length xs - suffix_len (λ x. not (p x)) xs - 1 ≡ 0 = omega (arith, suffix_len_all (λ x. not (p x)) xs (none_all xs h)) in
      ap (λ n. take n xs) none

  pub after_last_none : (xs : List X) → list_any p xs ≡ false → after_last p xs ≡ xs
  after_last_none xs h =
      let none : length xs - suffix_len (λ x. not (p x)) xs ≡ 0 = omega (arith, suffix_len_all (λ x. not (p x)) xs (none_all xs h)) in
      ap (λ n. drop n xs) none

  pub before_last_at : (xs : List X) (y : X) (ys : List X) → p y ≡ true → list_any p ys ≡ false → before_last p (xs ++ y ∷ ys) ≡ xs
  before_last_at xs y ys here h =
      take_at xs (y ∷ ys) _ (omega (arith, suffix_len_at (λ x. not (p x)) xs y ys (not_from_true _ here) (none_all ys h), length-append xs (y ∷ ys)))

  pub after_last_at : (xs : List X) (y : X) (ys : List X) → p y ≡ true → list_any p ys ≡ false → after_last p (xs ++ y ∷ ys) ≡ ys
  after_last_at xs y ys here h =
      let n = length (xs ++ y ∷ ys) - suffix_len (λ x. not (p x)) (xs ++ y ∷ ys) in
      ap (drop n) (sym (append_assoc xs (y ∷ []) ys))
      ∙ drop_at (xs ++ y ∷ []) ys n (omega (arith, suffix_len_at (λ x. not (p x)) xs y ys (not_from_true _ here) (none_all ys h), length-append xs (y ∷ ys), length_push xs y))
