-- Tokens and the brackets that are open where they stand.
use Rattle.std.proofs.Common.{◌≡◌, ℕ, zero, suc, ◌<◌, ◌≤◌, ◌==◌, ◌&&◌, ◌||◌, List, [], ◌∷◌, ◌++◌, length, take, get_or, Bool, true, false, not, refl, sym, ap, subst, ◌∙◌, arith, inl, inr}
use Rattle.std.proofs.lemmas.Bool.{cases_Bool, or_cases, false≢true, eqb-true, and_from, or_parts}
use Rattle.bz_token.proofs.Units.{begins_is}
use Rattle.bz_token.specs.declared.token.Kind.{Kind}
use Rattle.bz_token.specs.declared.token.Kind.TheVariants.{Identifier, Keyword, Integer, String, Operator, Newline, Comment, Kept}
use Rattle.bz_token.specs.Lexical.{operators, is_operator_text, is_text}
use Rattle.bz_token.specs.Brackets.{is_inside, is_opening_bracket, is_closing_bracket, is_line, bracket_fits, fits, open_after_token}
use Rattle.bz_token.specs.Reading.{begins_gap}
use Rattle.bz_token.proofs.Classes.{mark, class_of, can_start, text_class, one_of, same_bytes}
use Rattle.bz_token.proofs.Scanning.{marks}
use Rattle.bz_token.specs.Pieces.{is_white}
use Rattle.bz_token.specs.private.Gaps.{continues}

abbrev pub is_bracket_byte : ℕ → Bool
is_bracket_byte b = is_opening_bracket b || is_closing_bracket b

-- a bracket is an operator of its own
abbrev stands_alone : List ℕ → Bool
stands_alone [] = true
stands_alone (b ∷ []) = true
stands_alone (b ∷ c ∷ bs) = not (is_bracket_byte b)

operator_alone : (text : List ℕ) → is_operator_text text ≡ true → stands_alone text ≡ true
unfolding operators
operator_alone text is = one_of stands_alone operators text refl is

opening_class : (b : ℕ) → is_opening_bracket b ≡ true → class_of b ≡ mark
opening_class b h =
    elim (or_cases (b == 40 || b == 91) (b == 123) h) [
      | inr third ↦ let same : b ≡ 123 = eqb-true b 123 third in rw same refl
      | inl two ↦ elim (or_cases (b == 40) (b == 91) two) [
        | inl first ↦ let same : b ≡ 40 = eqb-true b 40 first in rw same refl
        | inr second ↦ let same : b ≡ 91 = eqb-true b 91 second in rw same refl
      ]
    ]

closing_class : (b : ℕ) → is_closing_bracket b ≡ true → class_of b ≡ mark
closing_class b h =
    elim (or_cases (b == 41 || b == 93) (b == 125) h) [
      | inr third ↦ let same : b ≡ 125 = eqb-true b 125 third in rw same refl
      | inl two ↦ elim (or_cases (b == 41) (b == 93) two) [
        | inl first ↦ let same : b ≡ 41 = eqb-true b 41 first in rw same refl
        | inr second ↦ let same : b ≡ 93 = eqb-true b 93 second in rw same refl
      ]
    ]

pub bracket_class : (b : ℕ) → is_bracket_byte b ≡ true → class_of b ≡ mark
bracket_class b h = elim (or_cases (is_opening_bracket b) (is_closing_bracket b) h) [
  | inl opens ↦ opening_class b opens
  | inr closes ↦ closing_class b closes
]

-- a longer text begins with no bracket
pub no_bracket : (kind : Kind) (b c : ℕ) (bs : List ℕ) → is_text kind (b ∷ c ∷ bs) ≡ true → is_bracket_byte b ≡ false
no_bracket kind b c bs is = elim (cases_Bool (is_bracket_byte b)) [
  | inr miss ↦ miss
  | inl hit ↦
      let operator : kind ≡ Operator = marks kind (ap (can_start kind) (sym (bracket_class b hit)) ∙ text_class kind b (c ∷ bs) is) in
      absurd (false≢true (sym (ap not hit) ∙ operator_alone (b ∷ c ∷ bs) (subst (λ k. is_text k (b ∷ c ∷ bs) ≡ true) operator is)))
]

-- the open brackets after a token are those after its first byte
pub open_after_first_byte : (kind : Kind) (opened : List ℕ) (b : ℕ) (bs : List ℕ) → is_text kind (b ∷ bs) ≡ true → open_after_token opened (b ∷ []) ≡ open_after_token opened (b ∷ bs)
open_after_first_byte kind opened b [] is = refl
open_after_first_byte kind opened b (c ∷ bs) is =
    let none = or_parts (is_opening_bracket b) (is_closing_bracket b) (no_bracket kind b c bs is) in
    plain none.0 none.1
  where
    plain : is_opening_bracket b ≡ false → is_closing_bracket b ≡ false → open_after_token opened (b ∷ []) ≡ opened
    plain o c = rw (o, c) refl

-- no newline is a token within brackets, since it is white space there
pub fits_first : (depth : ℕ) (kind : Kind) (opened : List ℕ) (b : ℕ) (bs following : List ℕ) → is_text kind (b ∷ bs) ≡ true → begins_gap (is_inside opened) (b ∷ bs ++ following) ≡ false → bracket_fits depth opened b ≡ true → fits depth opened kind (b ∷ bs) ≡ true
fits_first depth kind opened b (c ∷ bs) following is gap fit = refl
fits_first depth kind opened b [] following is gap fit = and_from _ _ (outside kind is) fit
  where
    newline : (opened : List ℕ) → b ≡ 10 → is_white (is_inside opened) b ≡ false → not (is_inside opened) ≡ true
    newline [] same none = refl
    newline (a ∷ opened) same none = absurd (false≢true (sym none ∙ rw same refl))

    outside : (kind : Kind) → is_text kind (b ∷ []) ≡ true → not (is_line kind && is_inside opened) ≡ true
    outside Newline is = newline opened (first_same (same_bytes (b ∷ []) (10 ∷ []) is)) (or_parts (is_white (is_inside opened) b) (continues (b ∷ following)) (sym (begins_is (is_inside opened) (b ∷ following)) ∙ gap)).0
      where
        first_same : b ∷ [] ≡ 10 ∷ [] → b ≡ 10
        first_same e = cc
    outside Identifier is = refl
    outside Keyword is = refl
    outside Integer is = refl
    outside String is = refl
    outside Operator is = refl
    outside Comment is = refl
    outside Kept is = refl

-- the same of the front of some bytes
pub token_fits : (depth : ℕ) (kind : Kind) (opened after text following : List ℕ) (n : ℕ) → 0 < n → n ≤ length after → text ≡ take n after → after ≡ text ++ following → is_text kind text ≡ true → begins_gap (is_inside opened) after ≡ false
    → bracket_fits depth opened (get_or after 0 0) ≡ true → (fits depth opened kind text ≡ true) × (open_after_token opened (get_or after 0 0 ∷ []) ≡ open_after_token opened text)
token_fits depth kind opened after [] following n some within front split is gap fit = absurd (nothing after n some within front)
  where
    nothing : (after : List ℕ) (n : ℕ) → 0 < n → n ≤ length after → [] ≡ take n after → ⊥
    nothing [] n some within front = omega arith
    nothing (a ∷ after) zero some within front = omega arith
    nothing (a ∷ after) (suc n) some within front = cc
token_fits depth kind opened after (b ∷ bs) following n some within front split is gap fit =
    let first : get_or after 0 0 ≡ b = ap (λ xs. get_or xs 0 0) split in (
      fits_first depth kind opened b bs following is (ap (begins_gap (is_inside opened)) (sym split) ∙ gap) (ap (bracket_fits depth opened) (sym first) ∙ fit),
      ap (λ x0. open_after_token opened (x0 ∷ [])) first ∙ open_after_first_byte kind opened b bs is,
    )
