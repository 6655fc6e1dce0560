-- The literal that is written for a value has this value.
use Rattle.std.proofs.Common.{◌≡◌, ℕ, ◌==◌, List, [], ◌∷◌, ◌++◌, false, Some, nat_eq, refl, sym, ◌∙◌, arith, inl, inr, append_assoc, eqb-true}
use Rattle.std.specs.List.{flat_map, starts_with}
use Rattle.std.proofs.lemmas.Bool.{cases_Bool, eqb-false, ne_eqb}
use Rattle.bz_label.specs.Values.{written, quoted, escape_value, value_of}
use Rattle.bz_label.specs.private.ValueSteps.{opening, opened_value, first_len, inner_value}
use Rattle.bz_label.proofs.ValueForms.{opened_other}
use Rattle.bz_label.proofs.Literals.{step, one_alone}

escape_len : (x : ℕ) (r : List ℕ) → x == 13 ≡ false → first_len (92 ∷ x ∷ r) ≡ 2
escape_len x [] h = refl
escape_len x (d ∷ r) h = rw h refl

escape_read : (x k : ℕ) (r v : List ℕ) → x == 13 ≡ false → escape_value x ≡ Some k → inner_value false (34 ∷ []) r ≡ Some v → inner_value false (34 ∷ []) (92 ∷ x ∷ r) ≡ Some (k ∷ v)
escape_read x k r v h m rest =
    step false (34 ∷ []) (92 ∷ x ∷ r) (omega arith) refl ∙ rw (escape_len x r h, m, rest) refl

byte_read : (b : ℕ) (r v : List ℕ) → b == 92 ≡ false → b == 34 ≡ false → b == 10 ≡ false → b == 13 ≡ false → inner_value false (34 ∷ []) r ≡ Some v → inner_value false (34 ∷ []) (b ∷ r) ≡ Some (b ∷ v)
byte_read b r v back quote line return rest =
    step false (34 ∷ []) (b ∷ r) (omega arith) (rw (ne_eqb 34 b (λ e. eqb-false b 34 quote (sym e))) refl)
    ∙ rw (one_alone b r back return, back, line, return, rest) refl

unit_read : (b : ℕ) (r v : List ℕ) → inner_value false (34 ∷ []) r ≡ Some v → inner_value false (34 ∷ []) (written b ++ r) ≡ Some (b ∷ v)
unit_read b r v rest = elim (cases_Bool (b == 92)) [
  | inl is ↦ let e : b ≡ 92 = eqb-true b 92 is in rw e (escape_read 92 92 r v refl refl rest)
  | inr back ↦ elim (cases_Bool (b == 34)) [
    | inl is ↦ let e : b ≡ 34 = eqb-true b 34 is in rw e (escape_read 34 34 r v refl refl rest)
    | inr quote ↦ elim (cases_Bool (b == 10)) [
      | inl is ↦ let e : b ≡ 10 = eqb-true b 10 is in rw e (escape_read 110 10 r v refl refl rest)
      | inr line ↦ elim (cases_Bool (b == 13)) [
        | inl is ↦ let e : b ≡ 13 = eqb-true b 13 is in rw e (escape_read 114 13 r v refl refl rest)
        | inr return ↦ elim (cases_Bool (b == 9)) [
          | inl is ↦ let e : b ≡ 9 = eqb-true b 9 is in rw e (escape_read 116 9 r v refl refl rest)
          | inr tab ↦ rw (back, quote, line, return, tab) (byte_read b r v back quote line return rest)
        ]
      ]
    ]
  ]
]

inner_read : (v : List ℕ) → inner_value false (34 ∷ []) (flat_map written v ++ 34 ∷ []) ≡ Some v
inner_read [] = refl
inner_read (b ∷ v) = rw (append_assoc (written b) (flat_map written v) (34 ∷ [])) (unit_read b (flat_map written v ++ 34 ∷ []) v (inner_read v))

-- one quote opens the literal
first_written : (b : ℕ) (r : List ℕ) → starts_with nat_eq (written b ++ r) (34 ∷ 34 ∷ []) ≡ false
first_written b r = elim (cases_Bool (b == 92)) [
  | inl is ↦ rw is refl
  | inr back ↦ elim (cases_Bool (b == 34)) [
    | inl is ↦ rw (back, is) refl
    | inr quote ↦ elim (cases_Bool (b == 10)) [
      | inl is ↦ rw (back, quote, is) refl
      | inr line ↦ elim (cases_Bool (b == 13)) [
        | inl is ↦ rw (back, quote, line, is) refl
        | inr return ↦ elim (cases_Bool (b == 9)) [
          | inl is ↦ rw (back, quote, line, return, is) refl
          | inr tab ↦ rw (back, quote, line, return, tab, ne_eqb 34 b (λ e. eqb-false b 34 quote (sym e))) refl
        ]
      ]
    ]
  ]
]

one_quote : (v : List ℕ) → opening (quoted v) ≡ 34 ∷ []
one_quote [] = refl
one_quote (b ∷ v) = rw (append_assoc (written b) (flat_map written v) (34 ∷ []), first_written b (flat_map written v ++ 34 ∷ [])) refl

pub quoted_value : (v : List ℕ) → value_of (quoted v) ≡ Some v
quoted_value v = sym (opened_other (quoted v) refl) ∙ inside v
  where
    inside : (v : List ℕ) → opened_value false (quoted v) ≡ Some v
    inside v = rw (one_quote v) (inner_read v)
