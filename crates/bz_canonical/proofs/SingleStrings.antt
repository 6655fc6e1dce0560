-- A text in single quotes that double quotes would leave as it is is a string, and is written in double quotes.
use Rattle.std.proofs.Common.{take, drop, take-append-drop, append_assoc, ◌≡◌, ℕ, ◌==◌, ◌&&◌, List, [], ◌∷◌, ◌++◌, true, not, refl, sym, ap, ◌∙◌, bytes_eq, rules}
use Rattle.std.specs.Prelude.{Some, if◌then◌else◌}
use Rattle.std.specs.List.{list_all, prefix_len}
use Rattle.std.proofs.lemmas.Bool.{and_parts, not-true}
use Rattle.std.proofs.lemmas.Slice.Eq.{bytes_eq-Decides}
use Rattle.bz_token.specs.declared.scan_string.Escape.TheVariants.{Unescaped}
use Rattle.bz_token.specs.declared.token.Kind.TheVariants.{String}
use Rattle.bz_token.specs.Strings.{is_string, opening}
use Rattle.bz_token.specs.private.Closing.{closes, is_closed}
use Rattle.bz_token.specs.private.Scans.{is_plain as is_plain_in}
use Rattle.bz_token.proofs.PlainStrings.{short, passed}
use Rattle.bz_token.proofs.Scanning.{all_front}
use Rattle.bz_token.proofs.StringUnits.{closes_units}
use Rattle.bz_layout.specs.Respell.{content, is_plain, respell}
use Rattle.bz_canonical.specs.private.Strings.{IsSingleFront, is_plain_inside}
use Rattle.bz_canonical.proofs.Taken.{taken}

-- plain bytes leave a string open
plain_goes : (bs more : List ℕ) → list_all (is_plain_in 39) bs ≡ true → closes (short 39) 0 Unescaped (bs ++ more) ≡ closes (short 39) 0 Unescaped more
plain_goes [] more plain = refl
plain_goes (b ∷ bs) more plain =
    let p = and_parts (is_plain_in 39 b) (list_all (is_plain_in 39) bs) plain in
    passed 39 b (bs ++ more) p.0 ∙ plain_goes bs more p.1

opens : (inner : List ℕ) → list_all (is_plain_in 39) inner ≡ true → opening (39 ∷ (inner ++ 39 ∷ [])) ≡ Some (record { prefix = 0; quotes = short 39 })
opens [] plain = refl
opens (c ∷ cs) plain =
    let p = and_parts (is_plain_in 39 c) (list_all (is_plain_in 39) cs) plain in
    let q = and_parts (not (c == 39) && not (c == 10)) (not (c == 92)) p.0 in
    let other = not-true _ (and_parts (not (c == 39)) (not (c == 10)) q.0).0 in
    rw other refl

plain_string : (inner : List ℕ) → list_all (is_plain_in 39) inner ≡ true → is_string (39 ∷ (inner ++ 39 ∷ [])) ≡ true
plain_string inner plain =
    ap (λ o. is_closed o (39 ∷ (inner ++ 39 ∷ []))) (opens inner plain) ∙ sym (closes_units (short 39) (inner ++ 39 ∷ []) refl) ∙ plain_goes inner (39 ∷ []) plain

inside_byte : (b : ℕ) → is_plain_inside b ≡ true → (is_plain_in 39 b ≡ true) × (is_plain b ≡ true)
inside_byte b h =
    let p = and_parts (is_plain b) (not (b == 10)) h in
    let q = and_parts (not (b == 34) && not (b == 39)) (not (b == 92)) p.0 in
    let r = and_parts (not (b == 34)) (not (b == 39)) q.0 in
    (rw (r.1, p.1, q.1) refl, p.0)

inside_plain : (bs : List ℕ) → list_all is_plain_inside bs ≡ true → (list_all (is_plain_in 39) bs ≡ true) × (list_all is_plain bs ≡ true)
inside_plain [] h = (refl, refl)
inside_plain (b ∷ bs) h =
    let p = and_parts (is_plain_inside b) (list_all is_plain_inside bs) h in
    let one = inside_byte b p.0 in
    let others = inside_plain bs p.1 in
    (rw (one.0, others.0) refl, rw (one.1, others.1) refl)

pub bytes_same : (xs : List ℕ) → bytes_eq xs xs ≡ true
bytes_same xs = search (rules, bytes_eq-Decides)

respelled : (inner : List ℕ) → list_all is_plain inner ≡ true → respell String (39 ∷ (inner ++ 39 ∷ [])) ≡ 34 ∷ (inner ++ 34 ∷ [])
respelled inner plain =
    by (content (39 ∷ (inner ++ 39 ∷ []))) (ap (drop 1) (taken (39 ∷ (inner ++ 39 ∷ [])) (39 ∷ inner) (39 ∷ []) refl))
  where
    by : (c : List ℕ) → c ≡ inner → (if bytes_eq (39 ∷ (inner ++ 39 ∷ [])) (39 ∷ (c ++ 39 ∷ [])) && list_all is_plain c then 34 ∷ (c ++ 34 ∷ []) else 39 ∷ (inner ++ 39 ∷ [])) ≡ 34 ∷ (inner ++ 34 ∷ [])
    by c is = rw (is, bytes_same (39 ∷ (inner ++ 39 ∷ [])), plain) refl

pub single_front : (text inside rest : List ℕ) (n : ℕ) → text ≡ 39 ∷ inside → n ≡ prefix_len is_plain_inside inside → drop n inside ≡ 39 ∷ rest → IsSingleFront text (take n inside) rest
single_front text inside rest n starts len ends =
    let plain = inside_plain (take n inside) (ap (λ k. list_all is_plain_inside (take k inside)) len ∙ all_front is_plain_inside inside) in
    record {
      front = starts ∙ ap (λ xs. 39 ∷ xs) (sym (take-append-drop n inside) ∙ ap (λ xs. take n inside ++ xs) ends ∙ sym (append_assoc (take n inside) (39 ∷ []) rest));
      is = plain_string (take n inside) plain.0;
      spells = respelled (take n inside) plain.1;
    }
