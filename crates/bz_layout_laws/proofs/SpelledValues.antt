-- A string that is spelled anew has the value that it had.
use Rattle.std.proofs.Common.{◌≡◌, ℕ, ◌==◌, ◌&&◌, List, [], ◌∷◌, ◌++◌, true, false, Option, None, refl, sym, ap, ◌∙◌, inl, inr, arith, eqb-true}
use Rattle.std.specs.Prelude.{option_and_then, option_map}
use Rattle.std.specs.List.{list_all}
use Rattle.std.proofs.lemmas.Bool.{cases_Bool, and_parts, eqb-false, ne_eqb}
use Rattle.bz_token.specs.declared.token.Kind.{Kind}
use Rattle.bz_token.specs.declared.token.Kind.TheVariants.{String}
use Rattle.bz_label.specs.Values.{value_of}
use Rattle.bz_label.specs.Literals.{value_at}
use Rattle.bz_label.specs.private.ValueSteps.{opening, opened_value, first_len, inner_value, value_in}
use Rattle.bz_label.proofs.ValueForms.{opened_other}
use Rattle.bz_label.proofs.Literals.{step}
use Rattle.bz_layout.specs.Respell.{is_plain, content, is_single, respell}
use Rattle.bz_layout_laws.proofs.Respelled.{within, plain_byte, single_parts}

-- a byte before a value, if there are both
abbrev and_then : Option ℕ → Option (List ℕ) → Option (List ℕ)
and_then b value = option_and_then (λ b. option_map (λ bs. b ∷ bs) value) b

-- the value of content and the quote that closes it
abbrev closed_value : ℕ → List ℕ → Option (List ℕ)
closed_value q inner = inner_value false (q ∷ []) (inner ++ q ∷ [])

after_byte : (q b : ℕ) (bs : List ℕ) → q == b ≡ false → first_len (b ∷ (bs ++ q ∷ [])) ≡ 1 → closed_value q (b ∷ bs) ≡ and_then (value_in false true (b ∷ [])) (closed_value q bs)
after_byte q b bs other one = step false (q ∷ []) (b ∷ (bs ++ q ∷ [])) (omega arith) (rw other refl) ∙ rw one refl

-- a carriage return and a newline are one
pair_len : (bs : List ℕ) → first_len (13 ∷ 10 ∷ bs) ≡ 2
pair_len [] = refl
pair_len (b ∷ bs) = refl

after_pair : (q : ℕ) (bs : List ℕ) → q == 13 ≡ false → closed_value q (13 ∷ 10 ∷ bs) ≡ and_then None (closed_value q bs)
after_pair q bs other = step false (q ∷ []) (13 ∷ 10 ∷ (bs ++ q ∷ [])) (omega arith) (rw other refl) ∙ rw (pair_len (bs ++ q ∷ [])) refl

byte_len : (b c : ℕ) (bs : List ℕ) → b == 92 ≡ false → b == 13 && c == 10 ≡ false → first_len (b ∷ c ∷ bs) ≡ 1
byte_len b c [] h k = rw (h, k) refl
byte_len b c (d ∷ bs) h k = rw (h, k) refl

turned : (b c : ℕ) → b == c ≡ false → c == b ≡ false
turned b c h = ne_eqb c b (λ e. eqb-false b c h (sym e))

no_pair : (b : ℕ) → (b == 13 && false) ≡ false
no_pair b = elim (b == 13) as (λ s. (s && false) ≡ false) [ true ↦ refl | false ↦ refl ]

same_closed : (inner : List ℕ) → list_all is_plain inner ≡ true → closed_value 34 inner ≡ closed_value 39 inner
same_closed [] plain = refl
same_closed (b ∷ []) plain =
    let none = plain_byte b (and_parts (is_plain b) true plain).0 in
    after_byte 34 b [] (turned b 34 none.0) (byte_len b 34 [] none.2 (no_pair b)) ∙ sym (after_byte 39 b [] (turned b 39 none.1) (byte_len b 39 [] none.2 (no_pair b)))
same_closed (b ∷ c ∷ bs) plain =
    let p = and_parts (is_plain b) (list_all is_plain (c ∷ bs)) plain in
    let none = plain_byte b p.0 in
    let rest = and_parts (is_plain c) (list_all is_plain bs) p.1 in
    elim (cases_Bool (b == 13 && c == 10)) [
      | inl pair ↦
          let parts = and_parts (b == 13) (c == 10) pair in
          let e : b ≡ 13 = eqb-true b 13 parts.0 in
          let f : c ≡ 10 = eqb-true c 10 parts.1 in
          rw (e, f) (after_pair 34 bs refl ∙ ap (and_then None) (same_closed bs rest.1) ∙ sym (after_pair 39 bs refl))
      | inr one ↦
          after_byte 34 b (c ∷ bs) (turned b 34 none.0) (byte_len b c (bs ++ 34 ∷ []) none.2 one)
          ∙ ap (and_then (value_in false true (b ∷ []))) (same_closed (c ∷ bs) p.1)
          ∙ sym (after_byte 39 b (c ∷ bs) (turned b 39 none.1) (byte_len b c (bs ++ 39 ∷ []) none.2 one))
    ]

-- one quote opens a string of plain content
opening_double : (inner : List ℕ) → list_all is_plain inner ≡ true → opening (within 34 inner) ≡ 34 ∷ []
opening_double [] plain = refl
opening_double (b ∷ bs) plain = let none = plain_byte b (and_parts (is_plain b) (list_all is_plain bs) plain).0 in rw (turned b 34 none.0) refl

opening_single : (inner : List ℕ) → list_all is_plain inner ≡ true → opening (within 39 inner) ≡ 39 ∷ []
opening_single [] plain = refl
opening_single (b ∷ bs) plain = let none = plain_byte b (and_parts (is_plain b) (list_all is_plain bs) plain).0 in rw (turned b 39 none.1) refl

value_double : (inner : List ℕ) → list_all is_plain inner ≡ true → value_of (within 34 inner) ≡ closed_value 34 inner
value_double inner plain = sym (opened_other (within 34 inner) refl) ∙ opened inner plain
  where
    opened : (inner : List ℕ) → list_all is_plain inner ≡ true → opened_value false (within 34 inner) ≡ closed_value 34 inner
    opened inner plain = rw (opening_double inner plain) refl

value_single : (inner : List ℕ) → list_all is_plain inner ≡ true → value_of (within 39 inner) ≡ closed_value 39 inner
value_single inner plain = sym (opened_other (within 39 inner) refl) ∙ opened inner plain
  where
    opened : (inner : List ℕ) → list_all is_plain inner ≡ true → opened_value false (within 39 inner) ≡ closed_value 39 inner
    opened inner plain = rw (opening_single inner plain) refl

string_value : (text : List ℕ) → value_of (respell String text) ≡ value_of text
string_value text = elim (cases_Bool (is_single text)) [
  | inr miss ↦ rw miss refl
  | inl hit ↦
      let p = single_parts text hit in
      let inner = content text in
      rw hit (value_double inner p.1 ∙ same_closed inner p.1 ∙ sym (value_single inner p.1) ∙ ap value_of (sym p.0))
]

pub respelled_value : (kind : Kind) (text : List ℕ) → value_at kind (respell kind text) ≡ value_at kind text
respelled_value String text = string_value text
respelled_value _ text = refl
