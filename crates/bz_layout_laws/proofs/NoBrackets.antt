-- Tokens that are no brackets leave the open brackets as they are.
use Rattle.std.proofs.Common.{◌≡◌, ℕ, ◌==◌, ◌||◌, List, [], ◌∷◌, Bool, true, false, not, refl, sym, ap, ◌∙◌, inl, inr}
use Rattle.std.proofs.lemmas.Bool.{cases_Bool, or_cases, false≢true, eqb-true}
use Rattle.bz_token.specs.declared.token.Kind.{Kind}
use Rattle.bz_token.specs.declared.token.Kind.TheVariants.{Operator, Newline, Comment}
use Rattle.bz_token.specs.Lexical.{is_text}
use Rattle.bz_token.specs.Brackets.{is_opening_bracket, is_closing_bracket, is_line, fits, open_after_token}
use Rattle.bz_token.proofs.Classes.{mark, can_start, text_class}
use Rattle.bz_token.proofs.Fitting.{is_bracket_byte, bracket_class}
use Rattle.bz_tree.specs.Kinds.{kind_mark, operator_mark}
use Rattle.bz_layout_laws.specs.Legible.{is_leaf_mark}

-- not a single bracket
abbrev pub is_free : List ℕ → Bool
is_free [] = true
is_free (b ∷ []) = not (is_bracket_byte b)
is_free (b ∷ c ∷ bs) = true

or_none : (x y : Bool) → not (x || y) ≡ true → (x ≡ false) × (y ≡ false)
or_none true y h = absurd (false≢true h)
or_none false true h = absurd (false≢true h)
or_none false false h = (refl, refl)

pub free_fits : (depth : ℕ) (opened : List ℕ) (kind : Kind) (text : List ℕ) → is_free text ≡ true → is_line kind ≡ false → fits depth opened kind text ≡ true
free_fits depth opened kind [] free line = refl
free_fits depth opened kind (b ∷ []) free line =
    let none = or_none (is_opening_bracket b) (is_closing_bracket b) free in
    let opens = none.0 in
    let closes = none.1 in
    rw (line, opens, closes) refl
free_fits depth opened kind (b ∷ c ∷ bs) free line = refl

pub free_open : (opened : List ℕ) (text : List ℕ) → is_free text ≡ true → open_after_token opened text ≡ opened
free_open opened [] free = refl
free_open opened (b ∷ []) free =
    let none = or_none (is_opening_bracket b) (is_closing_bracket b) free in
    let opens = none.0 in
    let closes = none.1 in
    rw (opens, closes) refl
free_open opened (b ∷ c ∷ bs) free = refl

abbrev pub is_operator_kind : Kind → Bool
is_operator_kind Operator = true
is_operator_kind _ = false

pub mark_starts : (kind : Kind) → is_operator_kind kind ≡ false → can_start kind mark ≡ true → ⊥
mark_starts Operator none h = false≢true (sym none)
mark_starts _ none h = false≢true h

-- only operators are brackets
pub other_free : (kind : Kind) (text : List ℕ) → is_operator_kind kind ≡ false → is_text kind text ≡ true → is_free text ≡ true
other_free kind [] none is = refl
other_free kind (b ∷ []) none is = elim (cases_Bool (is_bracket_byte b)) [
  | inr miss ↦ rw miss refl
  | inl hit ↦ absurd (mark_starts kind none (ap (can_start kind) (sym (bracket_class b hit)) ∙ text_class kind b [] is))
]
other_free kind (b ∷ c ∷ bs) none is = refl

bracket_mark : (b : ℕ) → is_bracket_byte b ≡ true → is_leaf_mark (operator_mark (b ∷ [])) ≡ false
bracket_mark b h = elim (or_cases (is_opening_bracket b) (is_closing_bracket b) h) [
  | inl opens ↦ elim (or_cases (b == 40 || b == 91) (b == 123) opens) [
    | inr is ↦ at 123 is refl
    | inl two ↦ elim (or_cases (b == 40) (b == 91) two) [ inl is ↦ at 40 is refl | inr is ↦ at 91 is refl ]
  ]
  | inr closes ↦ elim (or_cases (b == 41 || b == 93) (b == 125) closes) [
    | inr is ↦ at 125 is refl
    | inl two ↦ elim (or_cases (b == 41) (b == 93) two) [ inl is ↦ at 41 is refl | inr is ↦ at 93 is refl ]
  ]
]
  where
    at : (c : ℕ) → (b == c) ≡ true → is_leaf_mark (operator_mark (c ∷ [])) ≡ false → is_leaf_mark (operator_mark (b ∷ [])) ≡ false
    at c is h = ap (λ x. is_leaf_mark (operator_mark (x ∷ []))) (eqb-true b c is) ∙ h

pub operator_free : (text : List ℕ) → is_leaf_mark (operator_mark text) ≡ true → is_free text ≡ true
operator_free [] h = refl
operator_free (b ∷ []) h = elim (cases_Bool (is_bracket_byte b)) [
  | inr miss ↦ rw miss refl
  | inl hit ↦ absurd (false≢true (sym (bracket_mark b hit) ∙ h))
]
operator_free (b ∷ c ∷ bs) h = refl

-- the token of a leaf
pub leaf_free : (kind : Kind) (text : List ℕ) → is_text kind text ≡ true → is_leaf_mark (kind_mark kind text) ≡ true → is_free text ≡ true
leaf_free Operator text is leaf = operator_free text leaf
leaf_free Newline text is leaf = absurd (false≢true leaf)
leaf_free Comment text is leaf = absurd (false≢true leaf)
leaf_free kind text is leaf = other_free kind text refl is

pub leaf_line : (kind : Kind) (text : List ℕ) → is_leaf_mark (kind_mark kind text) ≡ true → is_line kind ≡ false
leaf_line Newline text leaf = absurd (false≢true leaf)
leaf_line _ text leaf = refl
