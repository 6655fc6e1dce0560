-- The longest operator at a place, from its first three bytes.
use Rattle.std.proofs.Common.{◌≡◌, ℕ, zero, suc, ◌<◌, ◌≤◌, ◌&&◌, List, [], ◌∷◌, ◌++◌, length, take, drop, get_or, Bool, true, false, not, refl, ap, subst, ◌∙◌, arith}
use Rattle.std.specs.Prelude.{nat_le, nat_lt}
use Rattle.std.specs.List.{list_all}
use Rattle.std.proofs.Math.Seq.{take-nil}
use Rattle.std.proofs.lemmas.Bool.{and_parts, false≢true, false_from_ne_true}
use Rattle.std.proofs.lemmas.Bool.Decides.{nat_tests}
use Rattle.bz_token.specs.declared.token.Kind.TheVariants.{Operator}
use Rattle.bz_token.specs.Lexical.{operators, is_operator_text}
use Rattle.bz_token.specs.Ends.{stops_at}
use Rattle.bz_token.proofs.Classes.{one_of}
use Rattle.bz_token.proofs.Ends.{operator_steps}

-- each byte of an operator is ASCII, and neither 0 nor a newline
abbrev pub is_operator_byte : ℕ → Bool
is_operator_byte b = nat_lt 10 b && nat_lt b 128

pub operator_bytes : (text : List ℕ) → is_operator_text text ≡ true → list_all is_operator_byte text ≡ true
unfolding operators
operator_bytes text is = one_of (λ s. list_all is_operator_byte s) operators text refl is

no_empty_operator : is_operator_text [] ≡ false
unfolding operators
no_empty_operator = refl

-- four bytes are no operator
no_long_operator : (a b c d : ℕ) (more : List ℕ) → is_operator_text (a ∷ b ∷ c ∷ d ∷ more) ≡ false
no_long_operator a b c d more = false_from_ne_true _ (λ is. too_long (length more) (and_parts (is_operator_text (a ∷ b ∷ [])) (nat_le (length (a ∷ b ∷ c ∷ d ∷ more)) 3) (operator_steps (a ∷ b ∷ c ∷ d ∷ more) is)).1)
  where
    too_long : (x : ℕ) → nat_le (suc (suc (suc (suc x)))) 3 ≡ true → ⊥
    too_long x h = grind (arith, nat_tests)

-- a 0 is in no operator
no_zero : (front more : List ℕ) → is_operator_text (front ++ 0 ∷ more) ≡ true → ⊥
no_zero front more is = has_zero front (operator_bytes (front ++ 0 ∷ more) is)
  where
    has_zero : (xs : List ℕ) → list_all is_operator_byte (xs ++ 0 ∷ more) ≡ true → ⊥
    has_zero [] h = false≢true h
    has_zero (x ∷ xs) h = has_zero xs (and_parts (is_operator_byte x) (list_all is_operator_byte (xs ++ 0 ∷ more)) h).1

-- the length r is that of the operator in three bytes
pub record IsOperatorLength (a b c r : ℕ) : Type 0 where
  pub at_most : r ≤ 3
  pub operator : 0 < r → is_operator_text (take r (a ∷ b ∷ c ∷ [])) ≡ true
  pub longer_1 : r < 1 → is_operator_text (a ∷ []) ≡ false
  pub longer_2 : r < 2 → is_operator_text (a ∷ b ∷ []) ≡ false
  pub longer_3 : r < 3 → is_operator_text (a ∷ b ∷ c ∷ []) ≡ false

-- the same in the bytes here
pub record IsOperatorAt (bytes : List ℕ) (r : ℕ) : Type 0 where
  pub in_range : r ≤ length bytes
  pub operator : 0 < r → is_operator_text (take r bytes) ≡ true
  pub stops : 0 < r → stops_at Operator (take r bytes) (drop r bytes) ≡ true
  pub none : r ≡ 0 → (n : ℕ) → is_operator_text (take n bytes) ≡ false

take_none : (n : ℕ) → is_operator_text (take n []) ≡ false
take_none n = rw take-nil no_empty_operator

at_one : (a : ℕ) → is_operator_text (a ∷ []) ≡ false → (n : ℕ) → is_operator_text (take n (a ∷ [])) ≡ false
at_one a one zero = no_empty_operator
at_one a one (suc n) = ap (λ xs. is_operator_text (a ∷ xs)) (take-nil n) ∙ one

at_two : (a b : ℕ) → is_operator_text (a ∷ []) ≡ false → is_operator_text (a ∷ b ∷ []) ≡ false → (n : ℕ) → is_operator_text (take n (a ∷ b ∷ [])) ≡ false
at_two a b one two zero = no_empty_operator
at_two a b one two (suc zero) = one
at_two a b one two (suc (suc n)) = ap (λ xs. is_operator_text (a ∷ b ∷ xs)) (take-nil n) ∙ two

at_more : (a b c : ℕ) (bs : List ℕ) → is_operator_text (a ∷ []) ≡ false → is_operator_text (a ∷ b ∷ []) ≡ false → is_operator_text (a ∷ b ∷ c ∷ []) ≡ false → (n : ℕ) → is_operator_text (take n (a ∷ b ∷ c ∷ bs)) ≡ false
at_more a b c bs one two three zero = no_empty_operator
at_more a b c bs one two three (suc zero) = one
at_more a b c bs one two three (suc (suc zero)) = two
at_more a b c bs one two three (suc (suc (suc zero))) = three
at_more a b c [] one two three (suc (suc (suc (suc n)))) = three
at_more a b c (d ∷ bs) one two three (suc (suc (suc (suc n)))) = no_long_operator a b c d (take n bs)

pub operator_at : (bytes : List ℕ) (r : ℕ) → IsOperatorLength (get_or bytes 0 0) (get_or bytes 1 0) (get_or bytes 2 0) r → IsOperatorAt bytes r
operator_at [] zero s = record { in_range = omega arith; operator = λ h. absurd (omega arith); stops = λ h. absurd (omega arith); none = λ e n. take_none n }
operator_at [] (suc r) s = absurd (first r (s.operator (omega arith)))
  where
    first : (r : ℕ) → is_operator_text (take (suc r) (0 ∷ 0 ∷ 0 ∷ [])) ≡ true → ⊥
    first r is = no_zero [] (take r (0 ∷ 0 ∷ [])) is
operator_at (a ∷ []) zero s = record { in_range = omega arith; operator = λ h. absurd (omega arith); stops = λ h. absurd (omega arith); none = λ e n. at_one a (s.longer_1 (omega arith)) n }
operator_at (a ∷ []) (suc zero) s = record { in_range = omega arith; operator = λ h. s.operator h; stops = λ h. refl; none = λ e n. absurd (omega arith) }
operator_at (a ∷ []) (suc (suc r)) s = absurd (no_zero (a ∷ []) (take r (0 ∷ [])) (s.operator (omega arith)))
operator_at (a ∷ b ∷ []) zero s = record { in_range = omega arith; operator = λ h. absurd (omega arith); stops = λ h. absurd (omega arith); none = λ e n. at_two a b (s.longer_1 (omega arith)) (s.longer_2 (omega arith)) n }
operator_at (a ∷ b ∷ []) (suc zero) s = record { in_range = omega arith; operator = λ h. s.operator h; stops = λ h. ap not (s.longer_2 (omega arith)); none = λ e n. absurd (omega arith) }
operator_at (a ∷ b ∷ []) (suc (suc zero)) s = record { in_range = omega arith; operator = λ h. s.operator h; stops = λ h. refl; none = λ e n. absurd (omega arith) }
operator_at (a ∷ b ∷ []) (suc (suc (suc r))) s = absurd (no_zero (a ∷ b ∷ []) (take r []) (s.operator (omega arith)))
operator_at (a ∷ b ∷ c ∷ bs) zero s = record {
  in_range = omega arith;
  operator = λ h. absurd (omega arith);
  stops = λ h. absurd (omega arith);
  none = λ e n. at_more a b c bs (s.longer_1 (omega arith)) (s.longer_2 (omega arith)) (s.longer_3 (omega arith)) n;
}
operator_at (a ∷ b ∷ c ∷ bs) (suc zero) s = record { in_range = omega arith; operator = λ h. s.operator h; stops = λ h. ap not (s.longer_2 (omega arith)); none = λ e n. absurd (omega arith) }
operator_at (a ∷ b ∷ c ∷ bs) (suc (suc zero)) s = record { in_range = omega arith; operator = λ h. s.operator h; stops = λ h. ap not (s.longer_3 (omega arith)); none = λ e n. absurd (omega arith) }
operator_at (a ∷ b ∷ c ∷ []) (suc (suc (suc zero))) s = record { in_range = omega arith; operator = λ h. s.operator h; stops = λ h. refl; none = λ e n. absurd (omega arith) }
operator_at (a ∷ b ∷ c ∷ d ∷ bs) (suc (suc (suc zero))) s = record { in_range = omega arith; operator = λ h. s.operator h; stops = λ h. ap not (no_long_operator a b c d []); none = λ e n. absurd (omega arith) }
operator_at (a ∷ b ∷ c ∷ bs) (suc (suc (suc (suc r)))) s = absurd (omega (arith, s.at_most))

pub operator_from : (bytes : List ℕ) (a b c r : ℕ) → a ≡ get_or bytes 0 0 → b ≡ get_or bytes 1 0 → c ≡ get_or bytes 2 0 → IsOperatorLength a b c r → IsOperatorAt bytes r
operator_from bytes a b c r first second third s =
    operator_at bytes r (subst (λ x. IsOperatorLength x (get_or bytes 1 0) (get_or bytes 2 0) r) first
    (subst (λ x. IsOperatorLength a x (get_or bytes 2 0) r) second (subst (λ x. IsOperatorLength a b x r) third s)))
