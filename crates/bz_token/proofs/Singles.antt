-- Operators that no byte makes longer.
use Rattle.std.proofs.Common.{◌≡◌, ℕ, ◌<◌, ◌==◌, List, [], ◌∷◌, length, get_or, true, false, refl, subst, sym, arith, inl, inr}
use Rattle.std.specs.List.{list_any}
use Rattle.std.proofs.lemmas.Bool.{or_cases, eqb-true, false≢true}
use Rattle.std.proofs.lemmas.Bool.Decides.{nat_tests}
use Rattle.bz_token.specs.declared.token.Kind.TheVariants.{Operator}
use Rattle.bz_token.specs.Lexical.{operators, is_operator_text}
use Rattle.bz_token.specs.private.Scans.{IsScanned}
use Rattle.bz_token.specs.private.Tables.{is_single}
use Rattle.bz_token.proofs.Operators.{IsOperatorLength, operator_from}
use Rattle.bz_token.proofs.Scanning.{operator_scanned}

abbrev AreSingle : ℕ → ℕ → List ℕ → Type 0
AreSingle b c [] = Unit {0}
AreSingle b c (x ∷ xs) = IsOperatorLength x b c 1 × AreSingle b c xs

among : (a b c : ℕ) (xs : List ℕ) → AreSingle b c xs → list_any (λ x. a == x) xs ≡ true → IsOperatorLength a b c 1
among a b c [] all is = absurd (false≢true is)
among a b c (x ∷ xs) all is = elim (or_cases (a == x) (list_any (λ y. a == y) xs) is) [
  | inl same ↦ subst (λ y. IsOperatorLength y b c 1) (sym (eqb-true a x same)) all.0
  | inr later ↦ among a b c xs all.1 later
]

abbrev singles : List ℕ
singles = 40 ∷ 41 ∷ 91 ∷ 93 ∷ 123 ∷ 125 ∷ 126 ∷ 46 ∷ 44 ∷ 59 ∷ 58 ∷ []

all_single : (b c : ℕ) → AreSingle b c singles
unfolding operators
all_single b c = (
  one 40 refl refl refl,
  (
    one 41 refl refl refl,
    (
      one 91 refl refl refl,
      (
        one 93 refl refl refl,
        (
          one 123 refl refl refl,
          (
            one 125 refl refl refl,
            (one 126 refl refl refl, (one 46 refl refl refl, (one 44 refl refl refl, (one 59 refl refl refl, (one 58 refl refl refl, tt))))),
          ),
        ),
      ),
    ),
  ),
)
  where
    one : (a : ℕ) → is_operator_text (a ∷ []) ≡ true → is_operator_text (a ∷ b ∷ []) ≡ false → is_operator_text (a ∷ b ∷ c ∷ []) ≡ false → IsOperatorLength a b c 1
    one a operator two three = record { at_most = omega arith; operator = λ h. operator; longer_1 = λ h. absurd (omega (arith, h)); longer_2 = λ h. two; longer_3 = λ h. three }

listed : (a : ℕ) → is_single a ≡ true → list_any (λ x. a == x) singles ≡ true
listed a is = grind (arith, nat_tests)

pub single_scanned : (bytes : List ℕ) → 0 < length bytes → is_single (get_or bytes 0 0) ≡ true → IsScanned bytes (record { kind = Operator; len = 1; has_newline = false })
single_scanned bytes some is =
    let a = get_or bytes 0 0 in
    let b = get_or bytes 1 0 in
    let c = get_or bytes 2 0 in
    let at = operator_from bytes a b c 1 refl refl refl (among a b c singles (all_single b c) (listed a is)) in
    operator_scanned bytes 1 (omega arith) at.in_range (at.operator (omega arith)) (at.stops (omega arith))
