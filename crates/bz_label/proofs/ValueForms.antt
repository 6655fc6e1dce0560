-- The value of a literal, read unit by unit, is that of the definition.
use Rattle.std.proofs.Common.{◌≡◌, ℕ, zero, suc, ◌-◌, ◌≤◌, ◌<◌, ◌==◌, ◌&&◌, ◌||◌, not, List, [], ◌∷◌, length, take, drop, replicate, Bool, true, false, Option, Some, None, nat_eq, refl, sym, ap, ap₂, subst, ◌∙◌, ◌++◌, arith, inl, inr, eqb-true, option_and_then}
use Rattle.std.specs.Prelude.{if◌then◌else◌, option_map, bytes_eq, codes}
use Rattle.std.specs.List.{starts_with}
use Rattle.std.proofs.lemmas.Bool.{cases_Bool, and_parts, eqb-false, ne_eqb, false≢true}
use Rattle.std.proofs.lemmas.Bool.Decides.{nat_tests}
use Rattle.bz_token.specs.declared.scan_string.Opening.{Opening}
use Rattle.bz_token.specs.declared.scan_string.Quotes.{Quotes}
use Rattle.bz_token.specs.Common.{first_of, map_or}
use Rattle.bz_token.specs.Groups.{grouped_from}
use Rattle.bz_token.specs.Strings.{is_byte, is_quote, are_two, opens_after, opening, quote_count, escape_takes, inside, units, but_last, has_closing, has_break, has_no_earlier_end, is_string}
use Rattle.bz_token.proofs.CutStrings.{grouped_joins, grouped_apart}
use Rattle.bz_token.proofs.Openings.{opens_r, opens_rb, opens_b, opens_br, opens_plain}
use Rattle.bz_token.proofs.Units.{FirstUnit, byte, feed, return_feed, alone, return_alone, return_other, other, first_unit}
use Rattle.bz_label.specs.Values.{content, unit_value, values, value_after, value_of}
use Rattle.bz_label.specs.private.ValueSteps.{first_len, is_newline, unit_value as old_value, inner_value, value_in, opened_value}
use Rattle.bz_label.proofs.Literals.{step, shut, ended_at}

abbrev of : ℕ → Bool → Quotes
of q l = record { byte = q; long = l }

-- closing quotes stand first among these units
abbrev starts : ℕ → Bool → List (List ℕ) → Bool
starts q l us = starts_with bytes_eq us (replicate (quote_count l) (q ∷ []))

abbrev closed : ℕ → Bool → List (List ℕ) → Bool
closed q l us = has_closing (of q l) us && not (has_closing (of q l) (but_last us) || has_break (of q l) (but_last us))

-- the units before the closing quotes, one by one
abbrev until : ℕ → Bool → List (List ℕ) → Option (List (List ℕ))
until q l [] = None
until q l (u ∷ us) =
    if starts q l (u ∷ us) then (if length (u ∷ us) == quote_count l then Some [] else None)
    else (if not l && is_byte 10 u then None else option_map (λ inner. u ∷ inner) (until q l us))

abbrev before_closing : Bool → ℕ → List (List ℕ) → Option (List (List ℕ))
before_closing c row us = if c then Some (take (length us - row) us) else None

-- one unit more before the same quotes
one_more : (c : Bool) (row : ℕ) (u : List ℕ) (us : List (List ℕ)) → row ≤ length us → before_closing c row (u ∷ us) ≡ option_map (λ inner. u ∷ inner) (before_closing c row us)
one_more false row u us fits = refl
one_more true row u us fits =
    let n : length (u ∷ us) - row ≡ suc (length us - row) = omega (arith, fits) in ap (λ k. Some (take k (u ∷ us))) n

or_true : (x : Bool) → (x || true) ≡ true
or_true true = refl
or_true false = refl

and_false : (x : Bool) → (x && false) ≡ false
and_false true = refl
and_false false = refl

until_short : (q : ℕ) (us : List (List ℕ)) → before_closing (closed q false us) 1 us ≡ until q false us
until_short q [] = refl
until_short q (u ∷ []) = elim (cases_Bool (bytes_eq (q ∷ []) u)) [
  | inl is ↦ rw is refl
  | inr differs ↦ elim (cases_Bool (is_byte 10 u)) [ inl line ↦ rw (differs, line) refl | inr no_line ↦ rw (differs, no_line) refl ]
]
until_short q (u ∷ v ∷ us) = elim (cases_Bool (bytes_eq (q ∷ []) u)) [
  | inl is ↦ rw (is, ne_eqb (length (u ∷ v ∷ us)) 1 (λ e. omega (arith, e))) refl
  | inr differs ↦ elim (cases_Bool (is_byte 10 u)) [
    | inl line ↦ rw (differs, line, or_true (has_closing (of q false) (but_last (v ∷ us))), and_false (has_closing (of q false) (v ∷ us))) refl
    | inr no_line ↦ rw (differs, no_line) (one_more (closed q false (v ∷ us)) 1 u (v ∷ us) (omega arith) ∙ ap (option_map (λ inner. u ∷ inner)) (until_short q (v ∷ us)))
  ]
]

-- three quotes stand in no two units
few : (q : ℕ) (u v : List ℕ) → (starts q true (u ∷ v ∷ []) ≡ false) × (starts q true (u ∷ []) ≡ false)
few q u v = (ap (λ t. bytes_eq (q ∷ []) u && t) (and_false (bytes_eq (q ∷ []) v)) ∙ and_false (bytes_eq (q ∷ []) u), and_false (bytes_eq (q ∷ []) u))

none_of_two : (q : ℕ) (u v : List ℕ) → has_closing (of q true) (u ∷ v ∷ []) ≡ false
none_of_two q u v = ap₂ (λ s t. s || (t || false)) (few q u v).0 (few q v u).1

until_none : (q : ℕ) (u v : List ℕ) → until q true (u ∷ v ∷ []) ≡ None
until_none q u v = rw ((few q u v).0, (few q v u).1) refl

until_long : (q : ℕ) (us : List (List ℕ)) → before_closing (closed q true us) 3 us ≡ until q true us
until_long q [] = refl
until_long q (u ∷ []) = rw (few q u u).1 refl
until_long q (u ∷ v ∷ []) = rw (none_of_two q u v) (sym (until_none q u v))
until_long q (u ∷ v ∷ w ∷ []) = elim (cases_Bool (starts q true (u ∷ v ∷ w ∷ []))) [
  | inl is ↦ rw (is, none_of_two q u v) refl
  | inr differs ↦ rw (differs, none_of_two q v w, until_none q v w) refl
]
until_long q (u ∷ v ∷ w ∷ x ∷ xs) = elim (cases_Bool (starts q true (u ∷ v ∷ w ∷ x ∷ xs))) [
  | inl is ↦ rw (is, ne_eqb (length (u ∷ v ∷ w ∷ x ∷ xs)) 3 (λ e. omega (arith, e))) refl
  | inr differs ↦ rw differs (one_more (closed q true (v ∷ w ∷ x ∷ xs)) 3 u (v ∷ w ∷ x ∷ xs) (omega arith) ∙ ap (option_map (λ inner. u ∷ inner)) (until_long q (v ∷ w ∷ x ∷ xs)))
]

until_is : (q : ℕ) (l : Bool) (us : List (List ℕ)) → before_closing (closed q l us) (quote_count l) us ≡ until q l us
until_is q false us = until_short q us
until_is q true us = until_long q us

-- a quote is no backslash
quote_plain : (q : ℕ) → is_quote q ≡ true → (q == 92) ≡ false
quote_plain q h = grind (arith, nat_tests)

quote_line : (q : ℕ) → is_quote q ≡ true → (q == 10) ≡ false
quote_line q h = grind (arith, nat_tests)

quote_is : (q : ℕ) → is_quote q ≡ true → (q == q) ≡ true
quote_is q h = grind (arith, nat_tests)

one_unit : (b : ℕ) (bs : List ℕ) → (b == 92) ≡ false → units (b ∷ bs) ≡ (b ∷ []) ∷ units bs
one_unit b [] plain = refl
one_unit b (c ∷ cs) plain = grouped_apart escape_takes (b ∷ []) c cs (rw plain refl)

some_units : (g xs : List ℕ) → 0 < length (grouped_from escape_takes g xs)
some_units g [] = omega arith
some_units g (x ∷ xs) = elim (cases_Bool (escape_takes g x)) [
  | inl is ↦ rw (grouped_joins escape_takes g x xs is) (some_units (g ++ x ∷ []) xs)
  | inr differs ↦ rw (grouped_apart escape_takes g x xs differs) (omega arith)
]

-- Quotes in a row are as many units.
abbrev SameRow : ℕ → ℕ → List ℕ → Type 0
SameRow q k bs = starts_with nat_eq bs (replicate k q) ≡ starts_with bytes_eq (units bs) (replicate k (q ∷ []))

and_true : (x : Bool) → x ≡ (x && true)
and_true true = refl
and_true false = refl

slash_row : (q k : ℕ) (xs : List ℕ) → (q == 92) ≡ false → starts_with nat_eq (92 ∷ xs) (replicate (suc k) q) ≡ false
slash_row q k xs plain = ap (λ t. t && starts_with nat_eq xs (replicate k q)) plain

slash_unit : (q k : ℕ) (v : List ℕ) (us : List (List ℕ)) → (q == 92) ≡ false → starts_with bytes_eq ((92 ∷ v) ∷ us) (replicate (suc k) (q ∷ [])) ≡ false
slash_unit q k v us plain = ap (λ t. (t && bytes_eq [] v) && starts_with bytes_eq us (replicate k (q ∷ []))) plain

row_slash : (q k : ℕ) (text xs v : List ℕ) (us : List (List ℕ)) → (q == 92) ≡ false → text ≡ 92 ∷ xs → units text ≡ (92 ∷ v) ∷ us → SameRow q (suc k) text
row_slash q k text xs v us plain is are =
    ap (λ (t : List ℕ). starts_with nat_eq t (replicate (suc k) q)) is ∙ slash_row q k xs plain
    ∙ sym (ap (λ (t : List (List ℕ)). starts_with bytes_eq t (replicate (suc k) (q ∷ []))) are ∙ slash_unit q k v us plain)

rows_by : (q k : ℕ) (text : List ℕ) → (q == 92) ≡ false → ((bs : List ℕ) → SameRow q k bs) → FirstUnit text → SameRow q (suc k) text
rows_by q k text plain more (byte b bs is single are) =
    ap (λ (t : List ℕ). starts_with nat_eq t (replicate (suc k) q)) is ∙ ap₂ (λ s t. s && t) (and_true (q == b)) (more bs)
    ∙ sym (ap (λ (t : List (List ℕ)). starts_with bytes_eq t (replicate (suc k) (q ∷ []))) are)
rows_by q k text plain more (feed bs is are) = row_slash q k text (10 ∷ bs) (10 ∷ []) (units bs) plain is are
rows_by q k text plain more (return_feed bs is are) = row_slash q k text (13 ∷ 10 ∷ bs) (13 ∷ 10 ∷ []) (units bs) plain is are
rows_by q k text plain more (alone is) = row_slash q k text [] [] [] plain is (ap units is)
rows_by q k text plain more (return_alone is) = row_slash q k text (13 ∷ []) (13 ∷ []) [] plain is (ap units is)
rows_by q k text plain more (return_other d ds is no_line are) = row_slash q k text (13 ∷ d ∷ ds) (13 ∷ []) (units (d ∷ ds)) plain is are
rows_by q k text plain more (other c cs is no_line no_return are) = row_slash q k text (c ∷ cs) (c ∷ []) (units cs) plain is are

rows : (q k : ℕ) (bs : List ℕ) → (q == 92) ≡ false → SameRow q k bs
rows q zero bs plain = refl
rows q (suc k) [] plain = refl
rows q (suc k) (b ∷ bs) plain = rows_by q k (b ∷ bs) plain (λ ys. rows q k ys plain) (first_unit b bs)

-- The value inside.
abbrev worth : Bool → Option (List (List ℕ)) → Option (List ℕ)
worth raw o = option_and_then (values raw) o

abbrev onto : Option ℕ → Option (List ℕ) → Option (List ℕ)
onto v o = option_and_then (λ b. option_map (λ bs. b ∷ bs) o) v

abbrev Same : Bool → ℕ → Bool → List ℕ → Type 0
Same raw q l bs = inner_value raw (replicate (quote_count l) q) bs ≡ worth raw (until q l (units bs))

valued : (raw : Bool) (u : List ℕ) (v : Option ℕ) (o : Option (List (List ℕ))) → is_byte 13 u ≡ false → unit_value raw u ≡ v → worth raw (option_map (λ inner. u ∷ inner) o) ≡ onto v (worth raw o)
valued raw u None None never is = refl
valued raw u (Some x) None never is = refl
valued raw u v (Some us) never is =
    ap (λ t. if t && map_or false (is_byte 10) (first_of us) then values raw us else onto (unit_value raw u) (values raw us)) never ∙ ap (λ w. onto w (values raw us)) is

until_next : (q : ℕ) (l : Bool) (u : List ℕ) (us : List (List ℕ)) → starts q l (u ∷ us) ≡ false → (not l && is_byte 10 u) ≡ false → until q l (u ∷ us) ≡ option_map (λ inner. u ∷ inner) (until q l us)
until_next q l u us never no_line =
    ap (λ t. if t then (if length (u ∷ us) == quote_count l then Some [] else None) else (if not l && is_byte 10 u then None else option_map (λ inner. u ∷ inner) (until q l us))) never
    ∙ ap (λ t. if t then None else option_map (λ inner. u ∷ inner) (until q l us)) no_line

-- a step over so many bytes
stepped : (raw : Bool) (q : ℕ) (l : Bool) (text tail : List ℕ) (k : ℕ) (v : Option ℕ) → 0 < length text → starts_with nat_eq text (replicate (quote_count l) q) ≡ false → first_len text ≡ k → drop k text ≡ tail
    → value_in raw (length (replicate (quote_count l) q) == 1) (take k text) ≡ v → inner_value raw (replicate (quote_count l) q) text ≡ onto v (inner_value raw (replicate (quote_count l) q) tail)
stepped raw q l text tail k v some never len rest is =
    step raw (replicate (quote_count l) q) text some never
    ∙ ap₂ (λ (x : Option ℕ) (ys : List ℕ). onto x (inner_value raw (replicate (quote_count l) q) ys))
    (ap (λ n. value_in raw (length (replicate (quote_count l) q) == 1) (take n text)) len ∙ is)
    (ap (λ n. drop n text) len ∙ rest)

no_newline_in : (raw short : Bool) (u : List ℕ) → is_newline u ≡ false → value_in raw short u ≡ old_value raw u
no_newline_in raw short u never = ap (λ t. if short && t then None else old_value raw u) never ∙ ap (λ t. if t then None else old_value raw u) (and_false short)

-- a unit that is an escape
through : (raw : Bool) (q : ℕ) (l : Bool) (text tail v : List ℕ) (k : ℕ) → is_quote q ≡ true → 0 < length text → starts_with nat_eq text (replicate (quote_count l) q) ≡ false → first_len text ≡ k → take k text ≡ 92 ∷ v → drop k text ≡ tail
    → units text ≡ (92 ∷ v) ∷ units tail → is_newline (92 ∷ v) ≡ false → old_value raw (92 ∷ v) ≡ unit_value raw (92 ∷ v) → Same raw q l tail → Same raw q l text
through raw q l text tail v k quote some never len front rest are no_line same again =
    stepped raw q l text tail k (unit_value raw (92 ∷ v)) some never len rest
    (ap (value_in raw (length (replicate (quote_count l) q) == 1)) front ∙ no_newline_in raw (length (replicate (quote_count l) q) == 1) (92 ∷ v) no_line ∙ same)
    ∙ ap (onto (unit_value raw (92 ∷ v))) again
    ∙ sym (ap (λ us. worth raw (until q l us)) are ∙ ap (worth raw) (until_next q l (92 ∷ v) (units tail) (sym (rows q (quote_count l) text (quote_plain q quote) ∙ ap (starts q l) are) ∙ never) (and_false (not l)))
    ∙ valued raw (92 ∷ v) (unit_value raw (92 ∷ v)) (until q l (units tail)) refl refl)

-- a carriage return that no newline follows
shape : (q : ℕ) (l : Bool) (u : List ℕ) (s t w : Bool) (o : Option (List (List ℕ))) (inner : List (List ℕ)) → (if s then (if t then Some [] else None) else (if w then None else option_map (λ us. u ∷ us) o)) ≡ Some inner → is_byte 10 u ≡ false → map_or false (is_byte 10) (first_of inner) ≡ false
shape q l u true true w o inner h never = ap (λ (us : List (List ℕ)). map_or false (is_byte 10) (first_of us)) (sym (some_is [] inner h))
  where
    some_is : (x y : List (List ℕ)) → Some x ≡ Some y → x ≡ y
    some_is x y e = cc
shape q l u true false w o inner h never = absurd (cc)
shape q l u false t true o inner h never = absurd (cc)
shape q l u false t false None inner h never = absurd (cc)
shape q l u false t false (Some us) inner h never = ap (λ (us : List (List ℕ)). map_or false (is_byte 10) (first_of us)) (sym (some_is (u ∷ us) inner h)) ∙ never
  where
    some_is : (x y : List (List ℕ)) → Some x ≡ Some y → x ≡ y
    some_is x y e = cc

front : (q : ℕ) (l : Bool) (u : List ℕ) (us inner : List (List ℕ)) → until q l (u ∷ us) ≡ Some inner → is_byte 10 u ≡ false → map_or false (is_byte 10) (first_of inner) ≡ false
front q l u us inner h never = shape q l u (starts q l (u ∷ us)) (length (u ∷ us) == quote_count l) (not l && is_byte 10 u) (until q l us) inner h never

same_first : (b c : ℕ) (bs cs : List ℕ) → b ∷ bs ≡ c ∷ cs → b ≡ c
same_first b c bs cs e = cc

not_feed : (q : ℕ) (l : Bool) (c : ℕ) (cs : List ℕ) (inner : List (List ℕ)) → (c == 10) ≡ false → FirstUnit (c ∷ cs) → until q l (units (c ∷ cs)) ≡ Some inner → map_or false (is_byte 10) (first_of inner) ≡ false
not_feed q l c cs inner never (byte b bs is plain are) h =
    front q l (b ∷ []) (units bs) inner (sym (ap (until q l) are) ∙ h) (ap (λ t. t && true) (sym (ap (λ z. z == 10) (same_first c b cs bs is)) ∙ never))
not_feed q l c cs inner never (feed bs is are) h = front q l (92 ∷ 10 ∷ []) (units bs) inner (sym (ap (until q l) are) ∙ h) refl
not_feed q l c cs inner never (return_feed bs is are) h = front q l (92 ∷ 13 ∷ 10 ∷ []) (units bs) inner (sym (ap (until q l) are) ∙ h) refl
not_feed q l c cs inner never (alone is) h = front q l (92 ∷ []) [] inner (sym (ap (λ (t : List ℕ). until q l (units t)) is) ∙ h) refl
not_feed q l c cs inner never (return_alone is) h = front q l (92 ∷ 13 ∷ []) [] inner (sym (ap (λ (t : List ℕ). until q l (units t)) is) ∙ h) refl
not_feed q l c cs inner never (return_other d ds is no_line are) h = front q l (92 ∷ 13 ∷ []) (units (d ∷ ds)) inner (sym (ap (until q l) are) ∙ h) refl
not_feed q l c cs inner never (other d ds is no_line no_return are) h = front q l (92 ∷ d ∷ []) (units ds) inner (sym (ap (until q l) are) ∙ h) refl

byte_valued : (raw : Bool) (b : ℕ) (o : Option (List (List ℕ))) → ((inner : List (List ℕ)) → o ≡ Some inner → (is_byte 13 (b ∷ []) && map_or false (is_byte 10) (first_of inner)) ≡ false) → worth raw (option_map (λ inner. (b ∷ []) ∷ inner) o) ≡ onto (Some b) (worth raw o)
byte_valued raw b None never = refl
byte_valued raw b (Some us) never = ap (λ t. if t then values raw us else onto (Some b) (values raw us)) (never us refl)

-- one byte
single : (raw : Bool) (q : ℕ) (l : Bool) (b : ℕ) (bs : List ℕ) → is_quote q ≡ true → (b == 92) ≡ false → starts_with nat_eq (b ∷ bs) (replicate (quote_count l) q) ≡ false → first_len (b ∷ bs) ≡ 1
    → ((inner : List (List ℕ)) → until q l (units bs) ≡ Some inner → (is_byte 13 (b ∷ []) && map_or false (is_byte 10) (first_of inner)) ≡ false) → Same raw q l bs → Same raw q l (b ∷ bs)
single raw q l b bs quote plain never len no_feed again = elim (cases_Bool (not l && b == 10)) [
  | inl ends ↦
      let line = and_parts (not l) (b == 10) ends in
      stepped raw q l (b ∷ bs) bs 1 None (omega arith) never len refl (broken l line.0 line.1)
      ∙ sym (ap (λ us. worth raw (until q l us)) are ∙ ap (worth raw) (broken_at line.0 line.1))
  | inr goes ↦
      stepped raw q l (b ∷ bs) bs 1 (Some b) (omega arith) never len refl (worth_of l goes)
      ∙ ap (onto (Some b)) again
      ∙ sym (ap (λ us. worth raw (until q l us)) are ∙ ap (worth raw) (until_next q l (b ∷ []) (units bs) apart (kept l goes)) ∙ byte_valued raw b (until q l (units bs)) no_feed)
]
  where
    are : units (b ∷ bs) ≡ (b ∷ []) ∷ units bs
    are = one_unit b bs plain

    apart : starts q l ((b ∷ []) ∷ units bs) ≡ false
    apart = sym (rows q (quote_count l) (b ∷ bs) (quote_plain q quote) ∙ ap (starts q l) are) ∙ never

    broken_at : not l ≡ true → (b == 10) ≡ true → until q l ((b ∷ []) ∷ units bs) ≡ None
    broken_at short line =
        ap (λ t. if t then (if length ((b ∷ []) ∷ units bs) == quote_count l then Some [] else None) else (if not l && is_byte 10 (b ∷ []) then None else option_map (λ inner. (b ∷ []) ∷ inner) (until q l (units bs)))) apart
        ∙ ap₂ (λ s t. if s && (t && true) then None else option_map (λ inner. (b ∷ []) ∷ inner) (until q l (units bs))) short line

    kept : (l : Bool) → (not l && b == 10) ≡ false → (not l && is_byte 10 (b ∷ [])) ≡ false
    kept true goes = refl
    kept false goes = ap (λ t. t && true) goes

    broken : (l : Bool) → not l ≡ true → (b == 10) ≡ true → value_in raw (length (replicate (quote_count l) q) == 1) (b ∷ []) ≡ None
    broken true short line = absurd (false≢true short)
    broken false short line = rw line refl

    worth_of : (l : Bool) → (not l && b == 10) ≡ false → value_in raw (length (replicate (quote_count l) q) == 1) (b ∷ []) ≡ Some b
    worth_of true goes = rw plain refl
    worth_of false goes = rw (goes, and_false (b == 13), plain) refl

-- a carriage return and a newline
pair : (raw : Bool) (q : ℕ) (l : Bool) (cs : List ℕ) → is_quote q ≡ true → starts_with nat_eq (13 ∷ 10 ∷ cs) (replicate (quote_count l) q) ≡ false → Same raw q l cs → Same raw q l (13 ∷ 10 ∷ cs)
pair raw q l cs quote never again =
    stepped raw q l (13 ∷ 10 ∷ cs) cs 2 (found l) (omega arith) never (two cs) refl (in_both l)
    ∙ ap (onto (found l)) again
    ∙ sym (ap (λ us. worth raw (until q l us)) are ∙ ap (worth raw) (until_next q l (13 ∷ []) ((10 ∷ []) ∷ units cs) apart (and_false (not l))) ∙ last l)
  where
    found : Bool → Option ℕ
    found l = if l then Some 10 else None

    two : (cs : List ℕ) → first_len (13 ∷ 10 ∷ cs) ≡ 2
    two [] = refl
    two (c ∷ cs) = refl

    in_both : (l : Bool) → value_in raw (length (replicate (quote_count l) q) == 1) (13 ∷ 10 ∷ []) ≡ found l
    in_both true = refl
    in_both false = refl

    are : units (13 ∷ 10 ∷ cs) ≡ (13 ∷ []) ∷ (10 ∷ []) ∷ units cs
    are = one_unit 13 (10 ∷ cs) refl ∙ ap (λ us. (13 ∷ []) ∷ us) (one_unit 10 cs refl)

    apart : starts q l ((13 ∷ []) ∷ (10 ∷ []) ∷ units cs) ≡ false
    apart = sym (rows q (quote_count l) (13 ∷ 10 ∷ cs) (quote_plain q quote) ∙ ap (starts q l) are) ∙ never

    no_quotes : (l : Bool) → starts q l ((10 ∷ []) ∷ units cs) ≡ false
    no_quotes true = ap (λ t. (t && true) && starts_with bytes_eq (units cs) ((q ∷ []) ∷ (q ∷ []) ∷ [])) (quote_line q quote)
    no_quotes false = ap (λ t. (t && true) && true) (quote_line q quote)

    fed : (o : Option (List (List ℕ))) → worth raw (option_map (λ inner. (13 ∷ []) ∷ inner) (option_map (λ inner. (10 ∷ []) ∷ inner) o)) ≡ onto (Some 10) (worth raw o)
    fed None = refl
    fed (Some us) = refl

    last : (l : Bool) → worth raw (option_map (λ inner. (13 ∷ []) ∷ inner) (until q l ((10 ∷ []) ∷ units cs))) ≡ onto (found l) (worth raw (until q l (units cs)))
    last true = ap (λ o. worth raw (option_map (λ inner. (13 ∷ []) ∷ inner) o)) (until_next q true (10 ∷ []) (units cs) (no_quotes true) refl) ∙ fed (until q true (units cs))
    last false =
        ap (λ t. worth raw (option_map (λ inner. (13 ∷ []) ∷ inner) (if t then (if length ((10 ∷ []) ∷ units cs) == 1 then Some [] else None) else None))) (no_quotes false)

-- an escape
two_bytes : (cs : List ℕ) (c : ℕ) → (c == 13) ≡ false → first_len (92 ∷ c ∷ cs) ≡ 2
two_bytes [] c never = refl
two_bytes (d ∷ ds) c never = rw never refl

escape : (raw : Bool) (q : ℕ) (l : Bool) (n : ℕ) (text xs : List ℕ) → is_quote q ≡ true → ((ys : List ℕ) → length ys ≤ n → Same raw q l ys) → length text ≤ suc n → text ≡ 92 ∷ xs → starts_with nat_eq text (replicate (quote_count l) q) ≡ false → FirstUnit text → Same raw q l text
escape raw q l n text xs quote again fits begins never (byte b bs is plain are) =
    absurd (false≢true (sym plain ∙ ap (λ z. z == 92) (sym (same_first 92 b xs bs (sym begins ∙ is)))))
escape raw q l n text xs quote again fits begins never (feed bs is are) =
    through raw q l text bs (10 ∷ []) 2 quote (omega (arith, ap length is)) never (ap first_len is ∙ two_bytes bs 10 refl) (ap (take 2) is) (ap (drop 2) is) are refl refl (again bs (omega (arith, ap length is, fits)))
escape raw q l n text xs quote again fits begins never (return_feed bs is are) =
    through raw q l text bs (13 ∷ 10 ∷ []) 3 quote (omega (arith, ap length is)) never (ap first_len is) (ap (take 3) is) (ap (drop 3) is) are refl refl (again bs (omega (arith, ap length is, fits)))
escape raw q l n text xs quote again fits begins never (alone is) =
    stepped raw q l text [] 1 None (omega (arith, ap length is)) never (ap first_len is) (ap (drop 1) is)
    (ap (λ (t : List ℕ). value_in raw (length (replicate (quote_count l) q) == 1) (take 1 t)) is ∙ no_newline_in raw (length (replicate (quote_count l) q) == 1) (92 ∷ []) refl)
    ∙ sym (ap (λ (t : List ℕ). worth raw (until q l (units t))) is
    ∙ ap (worth raw) (until_next q l (92 ∷ []) [] (sym (rows q (quote_count l) text (quote_plain q quote) ∙ ap (λ (t : List ℕ). starts q l (units t)) is) ∙ never) (and_false (not l))))
escape raw q l n text xs quote again fits begins never (return_alone is) =
    through raw q l text [] (13 ∷ []) 2 quote (omega (arith, ap length is)) never (ap first_len is) (ap (take 2) is) (ap (drop 2) is) (ap units is) refl refl (again [] (omega arith))
escape raw q l n text xs quote again fits begins never (return_other d ds is no_line are) =
    through raw q l text (d ∷ ds) (13 ∷ []) 2 quote (omega (arith, ap length is)) never (ap first_len is ∙ len) (ap (take 2) is) (ap (drop 2) is) are refl refl (again (d ∷ ds) (omega (arith, ap length is, fits)))
  where
    len : first_len (92 ∷ 13 ∷ d ∷ ds) ≡ 2
    len = rw no_line refl
escape raw q l n text xs quote again fits begins never (other c cs is no_line no_return are) =
    through raw q l text cs (c ∷ []) 2 quote (omega (arith, ap length is)) never (ap first_len is ∙ two_bytes cs c no_return) (ap (take 2) is) (ap (drop 2) is) are refl refl (again cs (omega (arith, ap length is, fits)))

-- any other byte
plain_byte : (raw : Bool) (q : ℕ) (l : Bool) (n b : ℕ) (bs : List ℕ) → is_quote q ≡ true → ((ys : List ℕ) → length ys ≤ n → Same raw q l ys) → length (b ∷ bs) ≤ suc n → (b == 92) ≡ false → starts_with nat_eq (b ∷ bs) (replicate (quote_count l) q) ≡ false → Same raw q l (b ∷ bs)
plain_byte raw q l n b [] quote again fits plain never = single raw q l b [] quote plain never refl (λ inner h. absurd (cc)) (again [] (omega arith))
plain_byte raw q l n b (c ∷ cs) quote again fits plain never = elim (cases_Bool (b == 13 && c == 10)) [
  | inl both ↦
      let parts = and_parts (b == 13) (c == 10) both in
      let e : 13 ≡ b = sym (eqb-true b 13 parts.0) in
      let f : 10 ≡ c = sym (eqb-true c 10 parts.1) in
      subst (λ x. Same raw q l (x ∷ c ∷ cs)) e (subst (λ y. Same raw q l (13 ∷ y ∷ cs)) f
      (pair raw q l cs quote (ap₂ (λ x y. starts_with nat_eq (x ∷ y ∷ cs) (replicate (quote_count l) q)) e f ∙ never) (again cs (omega (arith, fits)))))
  | inr apart ↦ single raw q l b (c ∷ cs) quote plain never (len cs apart) (feeds apart) (again (c ∷ cs) (omega (arith, fits)))
]
  where
    len : (cs : List ℕ) → (b == 13 && c == 10) ≡ false → first_len (b ∷ c ∷ cs) ≡ 1
    len [] apart = rw (plain, apart) refl
    len (d ∷ ds) apart = rw (plain, apart) refl

    feeds : (b == 13 && c == 10) ≡ false → (inner : List (List ℕ)) → until q l (units (c ∷ cs)) ≡ Some inner → (is_byte 13 (b ∷ []) && map_or false (is_byte 10) (first_of inner)) ≡ false
    feeds apart inner h = elim (cases_Bool (b == 13)) [
      | inl return ↦
          let no_line : (c == 10) ≡ false = sym (ap (λ t. t && c == 10) return) ∙ apart in
          ap (λ t. is_byte 13 (b ∷ []) && t) (not_feed q l c cs inner no_line (first_unit c cs) h) ∙ and_false (is_byte 13 (b ∷ []))
      | inr other_byte ↦ ap (λ t. (t && true) && map_or false (is_byte 10) (first_of inner)) other_byte
    ]

-- at quotes
one_quote : (raw : Bool) (q : ℕ) (bs : List ℕ) → is_quote q ≡ true → ended_at (q ∷ []) (q ∷ bs) ≡ worth raw (until q false (units (q ∷ bs)))
one_quote raw q [] quote = rw (quote_is q quote) refl
one_quote raw q (c ∷ cs) quote =
    let are = one_unit q (c ∷ cs) (quote_plain q quote) in
    let more : length ((q ∷ []) ∷ units (c ∷ cs)) == 1 ≡ false = ne_eqb (length ((q ∷ []) ∷ units (c ∷ cs))) 1 (λ e. omega (arith, e, some_units (c ∷ []) cs)) in
    let none : until q false ((q ∷ []) ∷ units (c ∷ cs)) ≡ None = rw (quote_is q quote, more) refl in
    rw (quote_is q quote, and_false (not (length (q ∷ c ∷ cs) == 0))) (sym (ap (λ us. worth raw (until q false us)) are ∙ ap (worth raw) none))

three_quotes : (raw : Bool) (q : ℕ) (ds : List ℕ) → is_quote q ≡ true → ended_at (q ∷ q ∷ q ∷ []) (q ∷ q ∷ q ∷ ds) ≡ worth raw (until q true (units (q ∷ q ∷ q ∷ ds)))
three_quotes raw q ds quote = by_rest ds
  where
    plain : (q == 92) ≡ false
    plain = quote_plain q quote

    are : (ds : List ℕ) → units (q ∷ q ∷ q ∷ ds) ≡ (q ∷ []) ∷ (q ∷ []) ∷ (q ∷ []) ∷ units ds
    are ds = one_unit q (q ∷ q ∷ ds) plain ∙ ap (λ us. (q ∷ []) ∷ us) (one_unit q (q ∷ ds) plain ∙ ap (λ us. (q ∷ []) ∷ us) (one_unit q ds plain))

    by_rest : (ds : List ℕ) → ended_at (q ∷ q ∷ q ∷ []) (q ∷ q ∷ q ∷ ds) ≡ worth raw (until q true (units (q ∷ q ∷ q ∷ ds)))
    by_rest [] =
        let nothing : until q true ((q ∷ []) ∷ (q ∷ []) ∷ (q ∷ []) ∷ []) ≡ Some [] = rw (quote_is q quote) refl in
        rw (quote_is q quote) (sym (ap (λ us. worth raw (until q true us)) (are []) ∙ ap (worth raw) nothing))
    by_rest (d ∷ ds) =
        let more : length ((q ∷ []) ∷ (q ∷ []) ∷ (q ∷ []) ∷ units (d ∷ ds)) == 3 ≡ false = ne_eqb (length ((q ∷ []) ∷ (q ∷ []) ∷ (q ∷ []) ∷ units (d ∷ ds))) 3 (λ e. omega (arith, e, some_units (d ∷ []) ds)) in
        let none : until q true ((q ∷ []) ∷ (q ∷ []) ∷ (q ∷ []) ∷ units (d ∷ ds)) ≡ None = rw (quote_is q quote, more) refl in
        rw (quote_is q quote, and_false (not (length (q ∷ q ∷ q ∷ d ∷ ds) == 0))) (sym (ap (λ us. worth raw (until q true us)) (are (d ∷ ds)) ∙ ap (worth raw) none))

at_quotes : (raw : Bool) (q : ℕ) (l : Bool) (b : ℕ) (bs : List ℕ) → is_quote q ≡ true → starts_with nat_eq (b ∷ bs) (replicate (quote_count l) q) ≡ true → ended_at (replicate (quote_count l) q) (b ∷ bs) ≡ worth raw (until q l (units (b ∷ bs)))
at_quotes raw q false b bs quote h =
    let e : q ≡ b = eqb-true q b (and_parts (q == b) true h).0 in
    subst (λ x. ended_at (q ∷ []) (x ∷ bs) ≡ worth raw (until q false (units (x ∷ bs)))) e (one_quote raw q bs quote)
at_quotes raw q true b [] quote h = absurd (false≢true (sym (and_false (q == b)) ∙ h))
at_quotes raw q true b (c ∷ []) quote h = absurd (false≢true (sym (ap (λ t. q == b && t) (and_false (q == c)) ∙ and_false (q == b)) ∙ h))
at_quotes raw q true b (c ∷ d ∷ ds) quote h =
    let first = and_parts (q == b) (q == c && (q == d && true)) h in
    let second = and_parts (q == c) (q == d && true) first.1 in
    let third = and_parts (q == d) true second.1 in
    let e : q ≡ b = eqb-true q b first.0 in
    let f : q ≡ c = eqb-true q c second.0 in
    let g : q ≡ d = eqb-true q d third.0 in
    subst (λ x. ended_at (q ∷ q ∷ q ∷ []) (x ∷ c ∷ d ∷ ds) ≡ worth raw (until q true (units (x ∷ c ∷ d ∷ ds)))) e
    (subst (λ y. ended_at (q ∷ q ∷ q ∷ []) (q ∷ y ∷ d ∷ ds) ≡ worth raw (until q true (units (q ∷ y ∷ d ∷ ds)))) f
    (subst (λ z. ended_at (q ∷ q ∷ q ∷ []) (q ∷ q ∷ z ∷ ds) ≡ worth raw (until q true (units (q ∷ q ∷ z ∷ ds)))) g (three_quotes raw q ds quote)))

inside_is : (raw : Bool) (q : ℕ) (l : Bool) (n : ℕ) (bs : List ℕ) → is_quote q ≡ true → length bs ≤ n → Same raw q l bs
inside_is raw q l n [] quote fits = refl
inside_is raw q l zero (b ∷ bs) quote fits = absurd (omega arith)
inside_is raw q l (suc n) (b ∷ bs) quote fits = elim (cases_Bool (starts_with nat_eq (b ∷ bs) (replicate (quote_count l) q))) [
  | inl ends ↦ shut raw (replicate (quote_count l) q) (b ∷ bs) ends ∙ at_quotes raw q l b bs quote ends
  | inr never ↦ elim (cases_Bool (b == 92)) [
    | inl slash ↦ escape raw q l n (b ∷ bs) bs quote (λ ys less. inside_is raw q l n ys quote less) fits (ap (λ z. z ∷ bs) (eqb-true b 92 slash)) never (first_unit b bs)
    | inr plain ↦ plain_byte raw q l n b bs quote (λ ys less. inside_is raw q l n ys quote less) fits plain never
  ]
]

-- What stands after the opening quotes decides.
abbrev opened_at : Opening → List ℕ → Option (List ℕ)
opened_at o text = if has_closing o.quotes (inside o text) && has_no_earlier_end o text then value_after (take o.prefix text) (content o text) else None

at_opening : (text : List ℕ) (o : Opening) → opening text ≡ Some o → value_of text ≡ opened_at o text
at_opening text o opens =
    ap (option_and_then (λ o. if is_string text then value_after (take o.prefix text) (content o text) else None)) opens
    ∙ ap (λ t. if t then value_after (take o.prefix text) (content o text) else None) (ap (map_or false (λ o. has_closing o.quotes (inside o text) && has_no_earlier_end o text)) opens)

chosen : (raw c : Bool) (row : ℕ) (us : List (List ℕ)) → (if c then values raw (take (length us - row) us) else None) ≡ worth raw (before_closing c row us)
chosen raw true row us = refl
chosen raw false row us = refl

same_number : (a b : ℕ) → (a == b) ≡ (b == a)
same_number a b = elim (cases_Bool (a == b)) [
  | inl is ↦ let e : a ≡ b = eqb-true a b is in ap (λ z. z == b) e ∙ sym (ap (λ z. b == z) e)
  | inr differs ↦ differs ∙ sym (ne_eqb b a (λ k. eqb-false a b differs (sym k)))
]

two_same : (q : ℕ) (bs : List ℕ) → starts_with nat_eq bs (q ∷ q ∷ []) ≡ are_two q bs
two_same q [] = refl
two_same q (a ∷ []) = ap (λ t. t && false) (same_number q a)
two_same q (a ∷ b ∷ bs) = ap₂ (λ s t. s && t) (same_number q a) (sym (and_true (q == b)) ∙ same_number q b)

-- the quotes after a prefix, of which what stands inside has this value
opened_inside : (raw : Bool) (q : ℕ) (bs : List ℕ) (l : Bool) → is_quote q ≡ true → are_two q bs ≡ l → opened_value raw (q ∷ bs) ≡ inner_value raw (replicate (quote_count l) q) (drop (quote_count l - 1) bs)
opened_inside raw q bs true quote two = rw (quote, two_same q bs, two) refl
opened_inside raw q bs false quote two = rw (quote, two_same q bs, two) refl

worth_inside : (raw : Bool) (q : ℕ) (bs : List ℕ) (l : Bool) → is_quote q ≡ true → are_two q bs ≡ l
    → opened_value raw (q ∷ bs) ≡ (if closed q l (units (drop (quote_count l - 1) bs)) then values raw (take (length (units (drop (quote_count l - 1) bs)) - quote_count l) (units (drop (quote_count l - 1) bs))) else None)
worth_inside raw q bs l quote two =
    let us = units (drop (quote_count l - 1) bs) in
    opened_inside raw q bs l quote two
    ∙ inside_is raw q l (length (drop (quote_count l - 1) bs)) (drop (quote_count l - 1) bs) quote (omega arith)
    ∙ ap (worth raw) (sym (until_is q l us))
    ∙ sym (chosen raw (closed q l us) (quote_count l) us)

letter_apart : (q c : ℕ) → is_quote q ≡ true → is_quote c ≡ false → (q == c) ≡ false
letter_apart q c quote none = grind (arith, nat_tests)

opened_quote : (q : ℕ) (bs : List ℕ) → is_quote q ≡ true → opened_value false (q ∷ bs) ≡ value_of (q ∷ bs)
opened_quote q bs quote = by_long (are_two q bs) refl
  where
    opens : (l : Bool) → are_two q bs ≡ l → opening (q ∷ bs) ≡ Some (record { prefix = 0; quotes = of q l })
    opens l two = opens_plain q bs (letter_apart q 114 quote refl) (letter_apart q 98 quote refl) ∙ rw (quote, two) refl

    by_long : (l : Bool) → are_two q bs ≡ l → opened_value false (q ∷ bs) ≡ value_of (q ∷ bs)
    by_long true two = worth_inside false q bs true quote two ∙ sym (at_opening (q ∷ bs) (record { prefix = 0; quotes = of q true }) (opens true two))
    by_long false two = worth_inside false q bs false quote two ∙ sym (at_opening (q ∷ bs) (record { prefix = 0; quotes = of q false }) (opens false two))

opened_after_r : (q : ℕ) (bs : List ℕ) → is_quote q ≡ true → opened_value true (q ∷ bs) ≡ value_of (114 ∷ q ∷ bs)
opened_after_r q bs quote = by_long (are_two q bs) refl
  where
    opens : (l : Bool) → are_two q bs ≡ l → opening (114 ∷ q ∷ bs) ≡ Some (record { prefix = 1; quotes = of q l })
    opens l two = opens_r 114 (q ∷ bs) refl (letter_apart q 98 quote refl) ∙ rw (quote, two) refl

    by_long : (l : Bool) → are_two q bs ≡ l → opened_value true (q ∷ bs) ≡ value_of (114 ∷ q ∷ bs)
    by_long true two = worth_inside true q bs true quote two ∙ sym (at_opening (114 ∷ q ∷ bs) (record { prefix = 1; quotes = of q true }) (opens true two))
    by_long false two = worth_inside true q bs false quote two ∙ sym (at_opening (114 ∷ q ∷ bs) (record { prefix = 1; quotes = of q false }) (opens false two))

-- where no string opens, or after another prefix, there is no value
unopened : (text : List ℕ) → opening text ≡ None → value_of text ≡ None
unopened text none = ap (option_and_then (λ o. if is_string text then value_after (take o.prefix text) (content o text) else None)) none

prefixed : (n : ℕ) (text ys : List ℕ) → opening text ≡ opens_after n ys → ((us : List (List ℕ)) → value_after (take n text) us ≡ None) → value_of text ≡ None
prefixed n text [] opens none = unopened text opens
prefixed n text (q ∷ qs) opens none = elim (cases_Bool (is_quote q)) [
  | inl quote ↦
      let o : Opening = record { prefix = n; quotes = of q (are_two q qs) } in
      at_opening text o (opens ∙ rw quote refl) ∙ ap (λ (v : Option (List ℕ)). if has_closing o.quotes (inside o text) && has_no_earlier_end o text then v else None) (none (content o text))
      ∙ both (has_closing o.quotes (inside o text) && has_no_earlier_end o text)
  | inr never ↦ unopened text (opens ∙ rw never refl)
]
  where
    nothing : Option (List ℕ)
    nothing = None

    both : (c : Bool) → (if c then nothing else nothing) ≡ nothing
    both true = refl
    both false = refl

not_opened : (raw : Bool) (b : ℕ) (bs : List ℕ) → is_quote b ≡ false → opened_value raw (b ∷ bs) ≡ None
not_opened raw b bs none = rw none refl

no_value : (b : ℕ) (bs : List ℕ) → is_quote b ≡ false → (b == 114) ≡ false → value_of (b ∷ bs) ≡ None
no_value b bs none no_r = elim (cases_Bool (b == 98)) [
  | inl is ↦ let e : b ≡ 98 = eqb-true b 98 is in ap (λ z. value_of (z ∷ bs)) e ∙ after_b bs
  | inr no_b ↦ unopened (b ∷ bs) (opens_plain b bs no_r no_b ∙ rw none refl)
]
  where
    after_b : (bs : List ℕ) → value_of (98 ∷ bs) ≡ None
    after_b [] = prefixed 1 (98 ∷ []) [] (opens_b 98 [] refl refl refl) (λ us. refl)
    after_b (c ∷ cs) = elim (cases_Bool (c == 114)) [
      | inl r ↦ prefixed 2 (98 ∷ c ∷ cs) cs (opens_br 98 c cs refl refl r) (λ us. refl)
      | inr never ↦ prefixed 1 (98 ∷ c ∷ cs) (c ∷ cs) (opens_b 98 (c ∷ cs) refl refl never) (λ us. refl)
    ]

after_r : (bs : List ℕ) → opened_value true bs ≡ value_of (114 ∷ bs)
after_r [] = refl
after_r (c ∷ cs) = elim (cases_Bool (is_quote c)) [
  | inl quote ↦ opened_after_r c cs quote
  | inr none ↦ not_opened true c cs none ∙ sym (no_raw c cs none)
]
  where
    no_raw : (c : ℕ) (cs : List ℕ) → is_quote c ≡ false → value_of (114 ∷ c ∷ cs) ≡ None
    no_raw c cs none = elim (cases_Bool (c == 98)) [
      | inl b ↦ prefixed 2 (114 ∷ c ∷ cs) cs (opens_rb 114 c cs refl b) (λ us. refl)
      | inr never ↦ unopened (114 ∷ c ∷ cs) (opens_r 114 (c ∷ cs) refl never ∙ rw none refl)
    ]

-- a literal without an `r` before it, and after one
pub opened_other : (text : List ℕ) → bytes_eq (take 1 text) (codes "r") ≡ false → opened_value false text ≡ value_of text
opened_other [] h = refl
opened_other (b ∷ bs) h = elim (cases_Bool (is_quote b)) [
  | inl quote ↦ opened_quote b bs quote
  | inr none ↦ not_opened false b bs none ∙ sym (no_value b bs none (off (b == 114) h))
]
  where
    off : (t : Bool) → (t && true) ≡ false → t ≡ false
    off true h = h
    off false h = refl

pub opened_raw : (text literal : List ℕ) → bytes_eq (take 1 text) (codes "r") ≡ true → literal ≡ drop 1 text → opened_value true literal ≡ value_of text
opened_raw [] literal h e = absurd (cc)
opened_raw (b ∷ bs) literal h e =
    let first : b ≡ 114 = eqb-true b 114 (and_parts (b == 114) true h).0 in
    ap (opened_value true) e ∙ after_r bs ∙ ap (λ (c : ℕ). value_of (c ∷ bs)) (sym first)
