-- A literal read unit by unit.
use Rattle.std.proofs.Common.{◌≡◌, ℕ, ◌-◌, ◌<◌, ◌==◌, ◌&&◌, ◌||◌, not, List, [], ◌∷◌, ◌++◌, length, take, drop, get_or, Bool, true, false, Option, Some, None, nat_eq, refl, sym, ap, ap₂, ◌∙◌, arith, inl, inr, append_assoc, eqb-true, option_and_then}
use Rattle.std.specs.Prelude.{if◌then◌else◌, option_map, bytes_eq, codes}
use Rattle.std.specs.List.{starts_with, fold, list_all, concat}
use Rattle.std.proofs.lemmas.Bool.{cases_Bool, and_parts, or_parts, eq-eqb, ne_eqb, false_from_ne_true}
use Rattle.std.proofs.lemmas.List.{take_all, take_at, get_or_at, length-append}
use Rattle.std.proofs.Math.Bool.{and_assoc}
use Rattle.std.proofs.lemmas.Slice.Eq.{bytes_eq-Decides}
use Rattle.bz_token.specs.Groups.{grouped_from}
use Rattle.bz_token.proofs.CutStrings.{grouped_joins, grouped_apart}
use Rattle.bz_label.specs.Literals.{is_plain, IsQuoted, IsPlain}
use Rattle.bz_label.specs.private.ValueSteps.{takes, units, content, is_newline, unit_value, values, plain_too, first_len, is_value, inner_value, value_in, taken}

-- nothing more joins a group
apart : (g xs : List ℕ) → ((x : ℕ) → takes g x ≡ false) → grouped_from takes g xs ≡ g ∷ units xs
apart g [] h = refl
apart g (x ∷ xs) h = grouped_apart takes g x xs (h x)

-- the next byte does not join a group
apart_at : (g : List ℕ) (x : ℕ) (xs : List ℕ) → takes g x ≡ false → grouped_from takes g (x ∷ xs) ≡ g ∷ units (x ∷ xs)
apart_at g x xs h = grouped_apart takes g x xs h

joins_at : (g : List ℕ) (x : ℕ) (xs : List ℕ) → takes g x ≡ true → grouped_from takes g (x ∷ xs) ≡ grouped_from takes (g ++ x ∷ []) xs
joins_at g x xs h = grouped_joins takes g x xs h

-- an escape of two bytes takes no third
escape_apart : (c d : ℕ) → c == 13 && d == 10 ≡ false → takes (92 ∷ c ∷ []) d ≡ false
escape_apart c d h = elim (cases_Bool (c == 13)) [
  | inl is ↦ rw is (rw is at h)
  | inr other ↦ rw other refl
]

byte_apart : (b c : ℕ) → b == 92 ≡ false → b == 13 && c == 10 ≡ false → takes (b ∷ []) c ≡ false
byte_apart b c h k = elim (cases_Bool (b == 13)) [
  | inl is ↦ rw (h, is) (rw is at k)
  | inr other ↦ rw (h, other) refl
]

abbrev IsFirst : List ℕ → Type 0
IsFirst bs = units bs ≡ take (first_len bs) bs ∷ units (drop (first_len bs) bs)

escape_first : (c d : ℕ) (bs : List ℕ) → IsFirst (92 ∷ c ∷ d ∷ bs)
escape_first c d bs = elim (cases_Bool (c == 13 && d == 10)) [
  | inl is ↦
      let parts = and_parts (c == 13) (d == 10) is in
      let e : c ≡ 13 = eqb-true c 13 parts.0 in
      let f : d ≡ 10 = eqb-true d 10 parts.1 in
      rw (e, f) (apart (92 ∷ 13 ∷ 10 ∷ []) bs (λ x. refl))
  | inr other ↦ rw other (apart_at (92 ∷ c ∷ []) d bs (escape_apart c d other))
]

pair_first : (b c : ℕ) → b == 92 || b == 13 && c == 10 ≡ true → takes (b ∷ []) c ≡ true
pair_first b c h = elim (cases_Bool (b == 92)) [
  | inl is ↦ rw is refl
  | inr other ↦
      let both : b == 13 && c == 10 ≡ true = rw other at h in
      let parts = and_parts (b == 13) (c == 10) both in
      rw (other, parts.0, parts.1) refl
]

pub units_first : (b : ℕ) (bs : List ℕ) → IsFirst (b ∷ bs)
units_first b [] = refl
units_first b (c ∷ []) = elim (cases_Bool (b == 92 || b == 13 && c == 10)) [
  | inl is ↦ rw is (joins_at (b ∷ []) c [] (pair_first b c is))
  | inr other ↦ let parts = or_parts (b == 92) (b == 13 && c == 10) other in rw other (apart_at (b ∷ []) c [] (byte_apart b c parts.0 parts.1))
]
units_first b (c ∷ d ∷ bs) = elim (cases_Bool (b == 92)) [
  | inl is ↦ let e : b ≡ 92 = eqb-true b 92 is in rw e (escape_first c d bs)
  | inr other ↦ elim (cases_Bool (b == 13 && c == 10)) [
    | inl pair ↦
        let parts = and_parts (b == 13) (c == 10) pair in
        let e : b ≡ 13 = eqb-true b 13 parts.0 in
        let f : c ≡ 10 = eqb-true c 10 parts.1 in
        rw (e, f) refl
    | inr single ↦ rw (other, single) (apart_at (b ∷ []) c (d ∷ bs) (byte_apart b c other single))
  ]
]

grouped_joined : (g xs : List ℕ) → concat (grouped_from takes g xs) ≡ g ++ xs
grouped_joined g [] = refl
grouped_joined g (x ∷ xs) = elim (cases_Bool (takes g x)) [
  | inl is ↦ rw (joins_at g x xs is) (grouped_joined (g ++ x ∷ []) xs ∙ append_assoc g (x ∷ []) xs)
  | inr other ↦ rw (apart_at g x xs other) (ap (λ (ys : List ℕ). g ++ ys) (grouped_joined (x ∷ []) xs))
]

pub units_joined : (bs : List ℕ) → concat (units bs) ≡ bs
units_joined [] = refl
units_joined (b ∷ bs) = grouped_joined (b ∷ []) bs

-- the content of what begins with the unit u, with the bytes in place of the joined units
abbrev content_at : List ℕ → List ℕ → List ℕ → Option (List (List ℕ)) → Option (List (List ℕ))
content_at quotes bytes u rest =
    if starts_with nat_eq bytes quotes then (if bytes_eq bytes quotes then Some [] else None)
    else (if length quotes == 1 && is_newline u then None else option_map (λ inner. u ∷ inner) rest)

content_of : (quotes bytes u : List ℕ) (us : List (List ℕ)) → concat (u ∷ us) ≡ bytes → content quotes (u ∷ us) ≡ content_at quotes bytes u (content quotes us)
content_of quotes bytes u us e = rw (← e) refl

content_first : (quotes : List ℕ) (b : ℕ) (bs : List ℕ) → content quotes (units (b ∷ bs)) ≡ content_at quotes (b ∷ bs) (take (first_len (b ∷ bs)) (b ∷ bs)) (content quotes (units (drop (first_len (b ∷ bs)) (b ∷ bs))))
content_first quotes b bs =
    ap (content quotes) (units_first b bs)
    ∙ content_of quotes (b ∷ bs) (take (first_len (b ∷ bs)) (b ∷ bs)) (units (drop (first_len (b ∷ bs)) (b ∷ bs))) (ap concat (sym (units_first b bs)) ∙ units_joined (b ∷ bs))

values_more : (raw : Bool) (u : List ℕ) (o : Option (List (List ℕ))) → option_and_then (values raw) (option_map (λ inner. u ∷ inner) o) ≡ option_and_then (λ b. option_map (λ bs. b ∷ bs) (option_and_then (values raw) o)) (unit_value raw u)
values_more raw u None = elim (unit_value raw u) as (λ v. None ≡ option_and_then (λ b. option_map (λ bs. b ∷ bs) None) v) [ None ↦ refl | Some b ↦ refl ]
values_more raw u (Some us) = refl

-- a step over the first unit
pub step : (raw : Bool) (quotes rest : List ℕ) → 0 < length rest → starts_with nat_eq rest quotes ≡ false
    → inner_value raw quotes rest ≡ option_and_then (λ b. option_map (λ bs. b ∷ bs) (inner_value raw quotes (drop (first_len rest) rest))) (value_in raw (length quotes == 1) (take (first_len rest) rest))
step raw quotes [] some h = absurd (omega arith)
step raw quotes (b ∷ bs) some h =
    let u : List ℕ = take (first_len (b ∷ bs)) (b ∷ bs) in
    let us : List (List ℕ) = units (drop (first_len (b ∷ bs)) (b ∷ bs)) in
    let open_ : content quotes (units (b ∷ bs)) ≡ (if length quotes == 1 && is_newline u then None else option_map (λ inner. u ∷ inner) (content quotes us)) = content_first quotes b bs ∙ rw h refl in
    ap (λ x0. option_and_then (values raw) x0) open_
    ∙ elim (cases_Bool (length quotes == 1 && is_newline u)) [
      | inl is ↦ rw is refl
      | inr other ↦ rw other (values_more raw u (content quotes us))
    ]

starts_itself : (rest quotes : List ℕ) → bytes_eq rest quotes ≡ true → starts_with nat_eq rest quotes ≡ true
starts_itself rest quotes h =
    let e : rest ≡ quotes = (bytes_eq-Decides rest quotes).0 h in
    let all : take (length quotes) quotes ≡ quotes = take_all (length quotes) quotes (omega arith) in
    rw (e, all) ((bytes_eq-Decides quotes quotes).1 refl)

abbrev pub ended_at : List ℕ → List ℕ → Option (List ℕ)
ended_at quotes rest = if not (length rest == 0) && bytes_eq rest quotes then Some [] else None

-- at the closing quotes
pub shut : (raw : Bool) (quotes rest : List ℕ) → starts_with nat_eq rest quotes ≡ true → inner_value raw quotes rest ≡ ended_at quotes rest
shut raw quotes [] h = refl
shut raw quotes (b ∷ bs) h =
    let here : content quotes (units (b ∷ bs)) ≡ (if bytes_eq (b ∷ bs) quotes then Some [] else None) = content_first quotes b bs ∙ rw h refl in
    let more : length (b ∷ bs) == 0 ≡ false = ne_eqb (length (b ∷ bs)) 0 (λ e. omega arith) in
    ap (λ x0. option_and_then (values raw) x0) here
    ∙ elim (cases_Bool (bytes_eq (b ∷ bs) quotes)) [
      | inl is ↦ rw (is, more) refl
      | inr other ↦ rw (other, more) refl
    ]

-- where the first unit has no value
pub faulty : (raw : Bool) (quotes rest : List ℕ) → starts_with nat_eq rest quotes ≡ false → taken raw (length quotes == 1) rest ≡ None → inner_value raw quotes rest ≡ ended_at quotes rest
faulty raw quotes [] h none = refl
faulty raw quotes (b ∷ bs) h none =
    let differ : bytes_eq (b ∷ bs) quotes ≡ false = false_from_ne_true (bytes_eq (b ∷ bs) quotes) (λ k. let clash : true ≡ false = sym (starts_itself (b ∷ bs) quotes k) ∙ h in cc) in
    let more : length (b ∷ bs) == 0 ≡ false = ne_eqb (length (b ∷ bs)) 0 (λ e. omega arith) in
    step raw quotes (b ∷ bs) (omega arith) h
    ∙ nothing (value_in raw (length quotes == 1) (take (first_len (b ∷ bs)) (b ∷ bs))) (drop (first_len (b ∷ bs)) (b ∷ bs)) (inner_value raw quotes (drop (first_len (b ∷ bs)) (b ∷ bs))) none
    ∙ rw (differ, more) refl
  where
    nothing : (x : Option ℕ) (rest : List ℕ) (o : Option (List ℕ)) → option_map {U = ℕ × List ℕ} (λ b. (b, rest)) x ≡ None → option_and_then (λ b. option_map (λ bs. b ∷ bs) o) x ≡ None
    nothing None rest o e = refl
    nothing (Some b) rest o e = absurd (cc)

-- what the first unit that was taken is
pub taken_is : (raw short : Bool) (rest after : List ℕ) (b : ℕ) → taken raw short rest ≡ Some (b, after) → (value_in raw short (take (first_len rest) rest) ≡ Some b) × (drop (first_len rest) rest ≡ after)
taken_is raw short rest after b h = parts (value_in raw short (take (first_len rest) rest)) (drop (first_len rest) rest) h
  where
    parts : (x : Option ℕ) (rest : List ℕ) → option_map {U = ℕ × List ℕ} (λ c. (c, rest)) x ≡ Some (b, after) → (x ≡ Some b) × (rest ≡ after)
    parts None rest e = absurd (cc)
    parts (Some c) rest e = let same : (c, rest) ≡ (b, after) = cc in (ap (λ (p : ℕ × List ℕ). Some p.0) same, ap (λ (p : ℕ × List ℕ). p.1) same)

pub past : (raw : Bool) (quotes rest after : List ℕ) (b : ℕ) → starts_with nat_eq rest quotes ≡ false → 0 < length rest → taken raw (length quotes == 1) rest ≡ Some (b, after) → inner_value raw quotes rest ≡ option_map (λ bs. b ∷ bs) (inner_value raw quotes after)
past raw quotes rest after b h some e =
    let is = taken_is raw (length quotes == 1) rest after b e in
    step raw quotes rest some h
    ∙ ap₂ (λ (x : Option ℕ) (bs : List ℕ). option_and_then (λ b. option_map (λ bs. b ∷ bs) (inner_value raw quotes bs)) x) is.0 is.1

pub is_value-iff : (v : List ℕ) (o : Option (List ℕ)) → (is_value v o ≡ true → o ≡ Some v) × (o ≡ Some v → is_value v o ≡ true)
is_value-iff v None = ((λ h. cc), (λ h. cc))
is_value-iff v (Some w) = ((λ h. ap (λ (x : List ℕ). Some x) (sym ((bytes_eq-Decides v w).0 h))), (λ h. (bytes_eq-Decides v w).1 (cc)))

off : (b : Bool) → not b ≡ true → b ≡ false
off true h = sym h
off false h = refl

pub one_alone : (b : ℕ) (bs : List ℕ) → b == 92 ≡ false → b == 13 ≡ false → first_len (b ∷ bs) ≡ 1
one_alone b [] h k = refl
one_alone b (c ∷ []) h k = rw (h, k) refl
one_alone b (c ∷ d ∷ bs) h k = rw (h, k) refl

-- a byte that stands for itself is the first of the value
pub plain_first : (raw : Bool) (q b : ℕ) (bs : List ℕ) → is_plain q b ≡ true → inner_value raw (q ∷ []) (b ∷ bs) ≡ option_map (λ bs. b ∷ bs) (inner_value raw (q ∷ []) bs)
plain_first raw q b bs h =
    let quote = and_parts (not (q == b)) (not (b == 92) && (not (b == 13) && not (b == 10))) h in
    let escape = and_parts (not (b == 92)) (not (b == 13) && not (b == 10)) quote.1 in
    let ends = and_parts (not (b == 13)) (not (b == 10)) escape.1 in
    let no_quote : q == b ≡ false = off (q == b) quote.0 in
    let no_escape : b == 92 ≡ false = off (b == 92) escape.0 in
    let no_return : b == 13 ≡ false = off (b == 13) ends.0 in
    let no_newline : b == 10 ≡ false = off (b == 10) ends.1 in
    step raw (q ∷ []) (b ∷ bs) (omega arith) (rw no_quote refl) ∙ rw (one_alone b bs no_escape no_return, no_newline, no_escape, no_return) refl

pub plain_all : (q : ℕ) (plain : Bool) (bs : List ℕ) → fold (plain_too q) plain bs ≡ (plain && list_all (is_plain q) bs)
plain_all q true [] = refl
plain_all q false [] = refl
plain_all q plain (b ∷ bs) = plain_all q (plain && is_plain q b) bs ∙ and_assoc plain (is_plain q b) (list_all (is_plain q) bs)

-- bytes that stand for themselves up to the closing quote are the value
pub plain_value : (raw : Bool) (q : ℕ) (value : List ℕ) → list_all (is_plain q) value ≡ true → inner_value raw (q ∷ []) (value ++ q ∷ []) ≡ Some value
plain_value raw q [] h =
    let shut_ : starts_with nat_eq (q ∷ []) (q ∷ []) ≡ true = rw (eq-eqb q) refl in
    shut raw (q ∷ []) (q ∷ []) shut_ ∙ rw (eq-eqb q) refl
plain_value raw q (b ∷ bs) h =
    let both = and_parts (is_plain q b) (list_all (is_plain q) bs) h in
    plain_first raw q b (bs ++ q ∷ []) both.0 ∙ ap (option_map (λ bs. b ∷ bs)) (plain_value raw q bs both.1)

-- the closing quote of a plain value and what stands before it are no two quotes
not_twice : (q : ℕ) (value : List ℕ) → list_all (is_plain q) value ≡ true → starts_with nat_eq (value ++ q ∷ []) (q ∷ q ∷ []) ≡ false
not_twice q [] h = rw (eq-eqb q) refl
not_twice q (b ∷ bs) h =
    let both = and_parts (is_plain q b) (list_all (is_plain q) bs) h in
    rw (off (q == b) (and_parts (not (q == b)) (not (b == 92) && (not (b == 13) && not (b == 10))) both.0).0) refl

whole : (q : ℕ) (bs : List ℕ) → take (length (q ∷ bs) - 1) bs ≡ bs
whole q bs = take_all (length (q ∷ bs) - 1) bs (omega arith)

-- a plain literal is opened by one quote
pub opened_plain : (literal value : List ℕ) (triple : Bool) (n : ℕ) → IsQuoted literal value
    → triple ≡ starts_with nat_eq (take (length literal - 1) (drop 1 literal)) (get_or literal 0 0 ∷ get_or literal 0 0 ∷ []) → (triple ≡ false → n ≡ 1)
    → (quote : ℕ) × (take n literal ≡ quote ∷ []) × (take (length literal - n) (drop n literal) ≡ value ++ quote ∷ []) × (list_all (is_plain quote) value ≡ true)
opened_plain literal value triple n (q, _, plain, e) is single =
    let text : literal ≡ q ∷ (value ++ q ∷ []) = e in
    let no : triple ≡ false = rw (text, whole q (value ++ q ∷ [])) at is ∙ not_twice q value plain in
    let one : n ≡ 1 = single no in
    (q, rw (one, text) refl, rw (one, text) (whole q (value ++ q ∷ [])), plain)

-- a plain text without its prefix
pub quoted_after : (text literal value : List ℕ) → bytes_eq (take 1 text) (codes "r") ≡ true → literal ≡ drop 1 text → IsPlain text value → IsQuoted literal value
quoted_after text literal value is e (inl (q, quote, _, starts)) =
    let first : q == 114 && true ≡ true = rw starts at is in
    let letter : q ≡ 114 = eqb-true q 114 (and_parts (q == 114) true first).0 in
    let clash : false ≡ true = rw letter at quote in
    absurd (cc)
quoted_after text literal value is e (inr (bs, starts, quoted)) = rw (e ∙ ap (drop 1) starts) quoted

-- a plain text that has none
pub quoted_here : (text value : List ℕ) → bytes_eq (take 1 text) (codes "r") ≡ false → IsPlain text value → IsQuoted text value
quoted_here text value is (inl quoted) = quoted
quoted_here text value is (inr (bs, starts, quoted)) = let clash : true ≡ false = rw starts at is in absurd (cc)

-- what a plain value and its closing quote are
pub plain_left : (value quotes rest : List ℕ) (q : ℕ) → quotes ≡ q ∷ [] → rest ≡ value ++ q ∷ [] → list_all (is_plain q) value ≡ true
    → (get_or rest (length rest - 1) 0 ≡ get_or quotes 0 0) × (fold (plain_too (get_or quotes 0 0)) true (take (length rest - 1) rest) ≡ true)
plain_left value quotes rest q e f plain =
    let last : length value ≡ length (value ++ q ∷ []) - 1 = omega (arith, length-append value (q ∷ [])) in
    rw (e, f) (get_or_at value q [] 0 _ last, ap (fold (plain_too q) true) (take_at value (q ∷ []) _ last) ∙ plain_all q true value ∙ plain)
