-- A text in double quotes in which each byte stands for itself is a string, and has its inside as its value.
use Rattle.std.proofs.Common.{take, drop, take-append-drop, append_assoc, ◌≡◌, ℕ, ◌==◌, ◌&&◌, List, [], ◌∷◌, ◌++◌, true, false, not, refl, sym, ap, ◌∙◌}
use Rattle.std.specs.Prelude.{Some}
use Rattle.std.specs.List.{list_all, flat_map, prefix_len}
use Rattle.std.proofs.lemmas.Bool.{and_parts, not-true}
use Rattle.bz_token.specs.declared.scan_string.Escape.TheVariants.{Unescaped}
use Rattle.bz_token.specs.Strings.{is_string, opening}
use Rattle.bz_token.specs.private.Closing.{closes, is_closed}
use Rattle.bz_token.specs.private.Scans.{is_plain}
use Rattle.bz_token.proofs.PlainStrings.{short, passed}
use Rattle.bz_token.proofs.Scanning.{all_front}
use Rattle.bz_token.proofs.StringUnits.{closes_units}
use Rattle.bz_label.specs.Values.{written, value_of}
use Rattle.bz_label.proofs.ReadBack.{quoted_value}
use Rattle.bz_canonical.specs.private.Fronts.{IsQuotedFront, is_simple}

-- plain bytes leave a string open
plain_goes : (bs more : List ℕ) → list_all (is_plain 34) bs ≡ true → closes (short 34) 0 Unescaped (bs ++ more) ≡ closes (short 34) 0 Unescaped more
plain_goes [] more plain = refl
plain_goes (b ∷ bs) more plain =
    let p = and_parts (is_plain 34 b) (list_all (is_plain 34) bs) plain in
    passed 34 b (bs ++ more) p.0 ∙ plain_goes bs more p.1

opens : (inner : List ℕ) → list_all (is_plain 34) inner ≡ true → opening (34 ∷ (inner ++ 34 ∷ [])) ≡ Some (record { prefix = 0; quotes = short 34 })
opens [] plain = refl
opens (c ∷ cs) plain =
    let p = and_parts (is_plain 34 c) (list_all (is_plain 34) cs) plain in
    let q = and_parts (not (c == 34) && not (c == 10)) (not (c == 92)) p.0 in
    let other = not-true _ (and_parts (not (c == 34)) (not (c == 10)) q.0).0 in
    rw other refl

plain_string : (inner : List ℕ) → list_all (is_plain 34) inner ≡ true → is_string (34 ∷ (inner ++ 34 ∷ [])) ≡ true
plain_string inner plain =
    ap (λ o. is_closed o (34 ∷ (inner ++ 34 ∷ []))) (opens inner plain) ∙ sym (closes_units (short 34) (inner ++ 34 ∷ []) refl) ∙ plain_goes inner (34 ∷ []) plain

simple_byte : (b : ℕ) → is_simple b ≡ true → ((b == 34) ≡ false) × ((b == 92) ≡ false) × ((b == 10) ≡ false) × ((b == 13) ≡ false) × ((b == 9) ≡ false)
simple_byte b h =
    let p = and_parts _ (not (b == 9)) h in
    let q = and_parts _ (not (b == 13)) p.0 in
    let r = and_parts _ (not (b == 10)) q.0 in
    let t = and_parts (not (b == 34)) (not (b == 92)) r.0 in
    (not-true _ t.0, not-true _ t.1, not-true _ r.1, not-true _ q.1, not-true _ p.1)

simple_plain : (bs : List ℕ) → list_all is_simple bs ≡ true → list_all (is_plain 34) bs ≡ true
simple_plain [] h = refl
simple_plain (b ∷ bs) h =
    let p = and_parts (is_simple b) (list_all is_simple bs) h in
    let none = simple_byte b p.0 in
    rw (none.0, none.1, none.2, simple_plain bs p.1) refl

simple_written : (bs : List ℕ) → list_all is_simple bs ≡ true → flat_map written bs ≡ bs
simple_written [] h = refl
simple_written (b ∷ bs) h =
    let p = and_parts (is_simple b) (list_all is_simple bs) h in
    let none = simple_byte b p.0 in
    rw (none.0, none.1, none.2, none.3, none.4, simple_written bs p.1) refl

pub quoted_front : (text inside rest : List ℕ) (n : ℕ) → text ≡ 34 ∷ inside → n ≡ prefix_len is_simple inside → drop n inside ≡ 34 ∷ rest → IsQuotedFront text (take n inside) rest
quoted_front text inside rest n starts len ends =
    let simple = ap (λ k. list_all is_simple (take k inside)) len ∙ all_front is_simple inside in
    record {
      front = starts ∙ ap (λ xs. 34 ∷ xs) (sym (take-append-drop n inside) ∙ ap (λ xs. take n inside ++ xs) ends ∙ sym (append_assoc (take n inside) (34 ∷ []) rest));
      is = plain_string (take n inside) (simple_plain (take n inside) simple);
      value = ap (λ xs. value_of (34 ∷ (xs ++ 34 ∷ []))) (sym (simple_written (take n inside) simple)) ∙ quoted_value (take n inside);
    }
