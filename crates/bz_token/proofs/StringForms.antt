-- Strings in one quote and in three are the strings of the definitions.
use Rattle.std.proofs.Common.{◌≡◌, ℕ, ◌+◌, ◌==◌, ◌&&◌, ◌||◌, not, List, [], ◌∷◌, Bool, Option, Some, true, false, refl, sym, ap, ap₂, ◌∙◌, inl, inr, eqb-true}
use Rattle.std.specs.Prelude.{bytes_eq}
use Rattle.std.specs.List.{list_any, starts_with}
use Rattle.std.proofs.lemmas.Bool.{cases_Bool, or_cases, eqb-false, ne_eqb}
use Rattle.bz_token.specs.declared.scan_string.Quotes.{Quotes}
use Rattle.bz_token.specs.Common.{map_or}
use Rattle.bz_token.specs.Strings.{is_byte, is_quote, are_two, opens_after, escape_takes, units, but_last, inside, has_closing, has_break, has_no_earlier_end}
use Rattle.bz_token.specs.Pieces.{is_quoted, is_broken_off}
use Rattle.bz_token.specs.private.StringPieces.{stops_short, is_short_string, breaks_short, three_in_a_row, is_long_string, is_closed_inside}
use Rattle.bz_token.proofs.CutStrings.{but_last_cons, grouped_apart}

abbrev short : ℕ → Quotes
short q = record { byte = q; long = false }

abbrev long : ℕ → Quotes
long q = record { byte = q; long = true }

same_number : (a b : ℕ) → (a == b) ≡ (b == a)
same_number a b = elim (cases_Bool (a == b)) [
  | inl is ↦ let e : a ≡ b = eqb-true a b is in ap (λ z. z == b) e ∙ sym (ap (λ z. b == z) e)
  | inr other ↦ other ∙ sym (ne_eqb b a (λ k. eqb-false a b other (sym k)))
]

and_true : (x : Bool) → (x && true) ≡ x
and_true true = refl
and_true false = refl

or_false : (x : Bool) → (x || false) ≡ x
or_false true = refl
or_false false = refl

one_byte : (q : ℕ) (u : List ℕ) → bytes_eq (q ∷ []) u ≡ is_byte q u
one_byte q [] = refl
one_byte q (x ∷ []) = ap (λ t. t && true) (same_number q x)
one_byte q (x ∷ y ∷ ys) = ap (λ t. t && false) (same_number q x)

-- one quote
closing_short : (q : ℕ) (us : List (List ℕ)) → has_closing (short q) us ≡ list_any (is_byte q) us
closing_short q [] = refl
closing_short q (u ∷ us) = ap₂ (λ s t. s || t) (ap (λ t. t && true) (one_byte q u) ∙ and_true (is_byte q u)) (closing_short q us)

either : (a b c d : Bool) → ((a || b) || (c || d)) ≡ ((a || c) || (b || d))
either true b c d = refl
either false true true d = refl
either false true false d = refl
either false false true d = refl
either false false false d = refl

stops_are : (q : ℕ) (us : List (List ℕ)) → list_any (stops_short q) us ≡ (list_any (is_byte q) us || list_any (is_byte 10) us)
stops_are q [] = refl
stops_are q (u ∷ us) = ap (λ t. (is_byte q u || is_byte 10 u) || t) (stops_are q us) ∙ either (is_byte q u) (is_byte 10 u) (list_any (is_byte q) us) (list_any (is_byte 10) us)

ended_short : (q : ℕ) (us : List (List ℕ)) → (has_closing (short q) us || has_break (short q) us) ≡ list_any (stops_short q) us
ended_short q us = ap (λ t. t || list_any (is_byte 10) us) (closing_short q us) ∙ sym (stops_are q us)

-- three
abbrev two_first : ℕ → List (List ℕ) → Bool
two_first q us = starts_with bytes_eq us ((q ∷ []) ∷ (q ∷ []) ∷ [])

abbrev one_first : ℕ → List (List ℕ) → Bool
one_first q us = starts_with bytes_eq us ((q ∷ []) ∷ [])

-- two are one and more
two_are : (q : ℕ) (us : List (List ℕ)) (h : Bool) → (one_first q us || h) ≡ (one_first q us || (two_first q us || h))
two_are q [] h = refl
two_are q (u ∷ us) h = elim (cases_Bool (bytes_eq (q ∷ []) u)) [ inl is ↦ rw is refl | inr other ↦ rw other refl ]

three_on : (q n : ℕ) (u : List ℕ) (us : List (List ℕ)) → is_byte q u ≡ true → three_in_a_row q n (u ∷ us) ≡ (n == 2 || three_in_a_row q (n + 1) us)
three_on q n u us is = rw (is, three_in_a_row) refl

three_off : (q n : ℕ) (u : List ℕ) (us : List (List ℕ)) → is_byte q u ≡ false → three_in_a_row q n (u ∷ us) ≡ three_in_a_row q 0 us
three_off q n u us differs = rw (differs, three_in_a_row) refl

mutual
  closing_long : (q : ℕ) (us : List (List ℕ)) → three_in_a_row q 0 us ≡ has_closing (long q) us
  closing_long q [] = refl
  closing_long q (u ∷ us) = elim (cases_Bool (is_byte q u)) [
    | inl is ↦ three_on q 0 u us is ∙ after_one q us ∙ sym (ap (λ t. (t && two_first q us) || has_closing (long q) us) (one_byte q u ∙ is))
    | inr differs ↦ three_off q 0 u us differs ∙ closing_long q us ∙ sym (ap (λ t. (t && two_first q us) || has_closing (long q) us) (one_byte q u ∙ differs))
  ]

  after_one : (q : ℕ) (us : List (List ℕ)) → three_in_a_row q 1 us ≡ (two_first q us || has_closing (long q) us)
  after_one q [] = refl
  after_one q (u ∷ us) = elim (cases_Bool (is_byte q u)) [
    | inl is ↦ three_on q 1 u us is ∙ after_two q us ∙ two_are q us (has_closing (long q) us) ∙ sym (ap (λ t. (t && one_first q us) || ((t && two_first q us) || has_closing (long q) us)) (one_byte q u ∙ is))
    | inr differs ↦ three_off q 1 u us differs ∙ closing_long q us ∙ sym (ap (λ t. (t && one_first q us) || ((t && two_first q us) || has_closing (long q) us)) (one_byte q u ∙ differs))
  ]

  after_two : (q : ℕ) (us : List (List ℕ)) → three_in_a_row q 2 us ≡ (one_first q us || has_closing (long q) us)
  after_two q [] = refl
  after_two q (u ∷ us) = elim (cases_Bool (is_byte q u)) [
    | inl is ↦ three_on q 2 u us is ∙ sym (ap (λ t. (t && true) || ((t && two_first q us) || has_closing (long q) us)) (one_byte q u ∙ is))
    | inr differs ↦ three_off q 2 u us differs ∙ closing_long q us ∙ sym (ap (λ t. (t && true) || ((t && two_first q us) || has_closing (long q) us)) (one_byte q u ∙ differs))
  ]

ended_long : (q : ℕ) (us : List (List ℕ)) → (has_closing (long q) us || has_break (long q) us) ≡ three_in_a_row q 0 us
ended_long q us = or_false (has_closing (long q) us) ∙ sym (closing_long q us)

-- closed at the last unit, and nowhere before
pub closed_inside : (quotes : Quotes) (us : List (List ℕ)) → is_closed_inside quotes us ≡ (has_closing quotes us && not (has_closing quotes (but_last us) || has_break quotes (but_last us)))
closed_inside quotes us = by_length quotes.byte quotes.long
  where
    by_length : (q : ℕ) (l : Bool) → is_closed_inside (record { byte = q; long = l }) us ≡ (has_closing (record { byte = q; long = l }) us && not (has_closing (record { byte = q; long = l }) (but_last us) || has_break (record { byte = q; long = l }) (but_last us)))
    by_length q false = ap₂ (λ s t. s && not t) (sym (closing_short q us)) (sym (ended_short q (but_last us)))
    by_length q true = ap₂ (λ s t. s && not t) (closing_long q us) (sym (ended_long q (but_last us)))

-- a quote takes nothing along
pub quote_takes : (q c : ℕ) → is_quote q ≡ true → escape_takes (q ∷ []) c ≡ false
quote_takes q c h = elim (or_cases (q == 34) (q == 39) h) [ inl is ↦ rw (eqb-true q 34 is) refl | inr is ↦ rw (eqb-true q 39 is) refl ]

pub quote_is : (q : ℕ) → is_quote q ≡ true → (q == q) ≡ true
quote_is q h = elim (or_cases (q == 34) (q == 39) h) [ inl is ↦ rw (eqb-true q 34 is) refl | inr is ↦ rw (eqb-true q 39 is) refl ]

-- a string in three quotes is none in one
no_short : (q : ℕ) (bs : List ℕ) → is_quote q ≡ true → list_any (stops_short q) (but_last (units (q ∷ q ∷ bs))) ≡ true
no_short q bs quote = rw (grouped_apart escape_takes (q ∷ []) q bs (quote_takes q q quote), but_last_cons escape_takes (q ∷ []) (q ∷ []) bs, quote_is q quote) refl

-- a string without prefix is in one quote or in three
abbrev AtQuote : ℕ → List ℕ → Type 0
AtQuote q bs = (is_quoted (q ∷ bs) ≡ (is_short_string (q ∷ bs) || is_long_string (q ∷ bs))) × (is_broken_off (q ∷ bs) ≡ breaks_short (q ∷ bs))

no_third : (x : Bool) → x ≡ (x || false)
no_third x = sym (or_false x)

in_one : (q : ℕ) (bs : List ℕ) → is_quote q ≡ true → are_two q bs ≡ false → is_long_string (q ∷ bs) ≡ false → AtQuote q bs
in_one q bs quote one no_long =
    let same = ended_short q (but_last (units bs)) in
    (rw (quote, one, no_long, same) (no_third (not (list_any (stops_short q) (but_last (units bs))))), rw (quote, one, same) refl)

in_three : (q : ℕ) (cs : List ℕ) → is_quote q ≡ true → AtQuote q (q ∷ q ∷ cs)
in_three q cs quote = (
  ap (map_or false (λ o. has_no_earlier_end o text)) opened ∙ ap not (ended_long q (but_last (units cs))) ∙ sym (ap₂ (λ s t. s || t) short_none long_is),
  ap (map_or false (λ o. has_no_earlier_end o text && has_break o.quotes (inside o text))) opened ∙ and_false (not (has_closing (long q) (but_last (units cs)) || has_break (long q) (but_last (units cs))))
      ∙ sym (ap (λ s. s && list_any (is_byte 10) (units (q ∷ q ∷ cs))) short_none),
)
  where
    text : List ℕ
    text = q ∷ q ∷ q ∷ cs

    opened : opens_after 0 (q ∷ q ∷ q ∷ cs) ≡ Some (record { prefix = 0; quotes = long q })
    opened = rw (quote, quote_is q quote) refl

    short_none : is_short_string (q ∷ q ∷ q ∷ cs) ≡ false
    short_none = ap₂ (λ s t. s && not t) quote (no_short q cs quote)

    long_is : is_long_string (q ∷ q ∷ q ∷ cs) ≡ not (three_in_a_row q 0 (but_last (units cs)))
    long_is = ap₂ (λ s t. s && t && t && not (three_in_a_row q 0 (but_last (units cs)))) quote (quote_is q quote)

    and_false : (x : Bool) → (x && false) ≡ false
    and_false true = refl
    and_false false = refl

at_quote : (q : ℕ) (bs : List ℕ) → is_quote q ≡ true → AtQuote q bs
at_quote q [] quote = in_one q [] quote refl refl
at_quote q (a ∷ []) quote = in_one q (a ∷ []) quote (last (a == q)) refl
  where
    last : (x : Bool) → (x && false) ≡ false
    last true = refl
    last false = refl
at_quote q (a ∷ b ∷ cs) quote = elim (cases_Bool (a == q)) [
  | inr other ↦ in_one q (a ∷ b ∷ cs) quote (rw other refl) (rw (quote, other) refl)
  | inl first ↦ elim (cases_Bool (b == q)) [
    | inr other ↦ in_one q (a ∷ b ∷ cs) quote (rw (first, other) refl) (rw (quote, first, other) refl)
    | inl second ↦
        let f : a ≡ q = eqb-true a q first in
        let g : b ≡ q = eqb-true b q second in
        rw (f, g) (in_three q cs quote)
  ]
]

pub quoted_is : (text : List ℕ) → is_quoted text ≡ (is_short_string text || is_long_string text)
quoted_is [] = refl
quoted_is (q ∷ bs) = elim (cases_Bool (is_quote q)) [
  | inl quote ↦ (at_quote q bs quote).0
  | inr none ↦ rw none (sym (no_long bs none))
]
  where
    no_long : (bs : List ℕ) → is_quote q ≡ false → is_long_string (q ∷ bs) ≡ false
    no_long [] none = refl
    no_long (a ∷ []) none = refl
    no_long (a ∷ b ∷ cs) none = rw none refl

pub broken_is : (text : List ℕ) → is_broken_off text ≡ breaks_short text
broken_is [] = refl
broken_is (q ∷ bs) = elim (cases_Bool (is_quote q)) [
  | inl quote ↦ (at_quote q bs quote).1
  | inr none ↦ rw none refl
]
