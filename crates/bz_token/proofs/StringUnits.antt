-- A string's inside is closed by units exactly where it is closed byte by byte.
use Rattle.std.proofs.Common.{◌≡◌, ℕ, ◌+◌, ◌==◌, ◌&&◌, List, [], ◌∷◌, ◌++◌, Bool, true, false, not, cond, refl, ◌∙◌, ◌||◌, arith, inl, inr, eqb-true}
use Rattle.std.specs.Prelude.{bytes_eq}
use Rattle.std.specs.List.{list_any}
use Rattle.std.proofs.lemmas.Bool.{cases_Bool, or_parts, or_cases, eqb-false}
use Rattle.bz_token.specs.declared.scan_string.Escape.{Escape}
use Rattle.bz_token.specs.declared.scan_string.Escape.TheVariants.{Unescaped, AfterBackslash, AfterReturn}
use Rattle.bz_token.specs.declared.scan_string.Quotes.{Quotes}
use Rattle.bz_token.specs.Groups.{grouped_from}
use Rattle.bz_token.specs.Strings.{is_byte, escape_takes, units, but_last, is_quote, has_closing, has_break}
use Rattle.bz_token.specs.private.StringPieces.{stops_short, three_in_a_row, is_closed_inside}
use Rattle.bz_token.specs.private.Closing.{is_escaped, starts_escape, escape_after, closes}
use Rattle.bz_token.proofs.CutStrings.{grouped_joins, grouped_apart, but_last_cons, takes_cases, three_step, three_now, third, row}
use Rattle.bz_token.specs.Common.{is_empty}
use Rattle.bz_token.proofs.StringForms.{quote_takes, quote_is, closed_inside}

abbrev short : ℕ → Quotes
short q = record { byte = q; long = false }

abbrev long : ℕ → Quotes
long q = record { byte = q; long = true }

abbrev U : List ℕ → List ℕ → List (List ℕ)
U u bs = grouped_from escape_takes u bs

-- what escapes the byte after an open unit
abbrev escape_of : List ℕ → Escape
escape_of u = cond (is_byte 92 u) AfterBackslash (cond (bytes_eq u (92 ∷ 13 ∷ [])) AfterReturn Unescaped)

-- a byte that the unit takes along is escaped
escape_taken : (u : List ℕ) (b : ℕ) → escape_takes u b ≡ true → is_escaped (escape_of u) b ≡ true
escape_taken u b h = elim (takes_cases u b h) [ inl one ↦ rw one refl | inr two ↦ rw (two.0, two.1) refl ]

escape_on : (u : List ℕ) (b : ℕ) → escape_takes u b ≡ true → escape_after (escape_of u) b ≡ escape_of (u ++ b ∷ [])
escape_on u b h = elim (takes_cases u b h) [
  | inl one ↦ rw one (elim (cases_Bool (b == 13)) [ inl is ↦ rw is refl | inr differs ↦ rw differs refl ])
  | inr two ↦ rw (two.0, two.1) refl
]

-- any other byte is not, and begins a unit
escape_apart : (u : List ℕ) (b : ℕ) → escape_takes u b ≡ false → is_escaped (escape_of u) b ≡ false
escape_apart u b h =
    let parts = or_parts (is_byte 92 u) (bytes_eq u (92 ∷ 13 ∷ []) && b == 10) h in
    elim (cases_Bool (bytes_eq u (92 ∷ 13 ∷ []))) [
      | inl is ↦ rw (parts.0, is) (rw is at parts.1)
      | inr differs ↦ rw (parts.0, differs) refl
    ]

escape_starts : (b : ℕ) → starts_escape b ≡ escape_of (b ∷ [])
escape_starts b = elim (cases_Bool (b == 92)) [ inl is ↦ rw is refl | inr differs ↦ rw differs refl ]

escape_new : (u : List ℕ) (b : ℕ) → escape_takes u b ≡ false → escape_after (escape_of u) b ≡ escape_of (b ∷ [])
escape_new u b h =
    let parts = or_parts (is_byte 92 u) (bytes_eq u (92 ∷ 13 ∷ []) && b == 10) h in
    elim (cases_Bool (bytes_eq u (92 ∷ 13 ∷ []))) [
      | inl is ↦ rw (parts.0, is) (escape_starts b)
      | inr differs ↦ rw (parts.0, differs) (escape_starts b)
    ]

-- a quote is no newline
quote_no_newline : (q : ℕ) → is_quote q ≡ true → (10 == q) ≡ false
quote_no_newline q h = elim (or_cases (q == 34) (q == 39) h) [ inl is ↦ rw (eqb-true q 34 is) refl | inr is ↦ rw (eqb-true q 39 is) refl ]

-- a unit of several bytes is no byte
several : (x : Bool) → (x && false) ≡ false
several true = refl
several false = refl

taken_is_no_byte : (q : ℕ) (u : List ℕ) (b : ℕ) → escape_takes u b ≡ true → is_byte q (u ++ b ∷ []) ≡ false
taken_is_no_byte q u b h = elim (takes_cases u b h) [ inl one ↦ rw one (several (92 == q)) | inr two ↦ rw two.0 (several (92 == q)) ]

-- A short string.
closed_cons : (q : ℕ) (u g xs : List ℕ) → stops_short q u ≡ false → is_closed_inside (short q) (u ∷ U g xs) ≡ is_closed_inside (short q) (U g xs)
closed_cons q u g xs h =
    let parts = or_parts (is_byte q u) (is_byte 10 u) h in
    rw (but_last_cons escape_takes u g xs, parts.0, parts.1) refl

short_ends : (q : ℕ) (bs : List ℕ) → is_quote q ≡ true → is_empty bs ≡ is_closed_inside (short q) (U (q ∷ []) bs)
short_ends q [] quote = rw (quote_is q quote) refl
short_ends q (c ∷ cs) quote = rw (grouped_apart escape_takes (q ∷ []) c cs (quote_takes q c quote), but_last_cons escape_takes (q ∷ []) (c ∷ []) cs, quote_is q quote) refl

short_broken : (q : ℕ) (bs : List ℕ) → is_quote q ≡ true → false ≡ is_closed_inside (short q) (U (10 ∷ []) bs)
short_broken q [] quote = rw (quote_no_newline q quote) refl
short_broken q (c ∷ cs) quote = rw (but_last_cons escape_takes (10 ∷ []) (c ∷ []) cs, quote_no_newline q quote) (no_more (list_any (is_byte q) (U (c ∷ []) cs)))
  where
    no_more : (x : Bool) → false ≡ (x && false)
    no_more true = refl
    no_more false = refl

short_first : (q b : ℕ) (bs : List ℕ) (e : Escape) → is_quote q ≡ true → is_escaped e b ≡ false → escape_after e b ≡ escape_of (b ∷ [])
    → (stops_short q (b ∷ []) ≡ false → closes (short q) 0 (escape_of (b ∷ [])) bs ≡ is_closed_inside (short q) (U (b ∷ []) bs))
    → closes (short q) 0 e (b ∷ bs) ≡ is_closed_inside (short q) (U (b ∷ []) bs)
short_first q b bs e quote plain after more = elim (cases_Bool (b == q)) [
  | inl is ↦ rw (plain, is, closes) (rw (eqb-true b q is) (short_ends q bs quote))
  | inr other ↦ elim (cases_Bool (b == 10)) [
    | inl newline ↦ rw (plain, other, newline, closes) (rw (eqb-true b 10 newline) (short_broken q bs quote))
    | inr on ↦ rw (plain, other, on, after, closes) (more (rw (other, on) refl))
  ]
]

short_from : (q : ℕ) (bs u : List ℕ) → is_quote q ≡ true → stops_short q u ≡ false → closes (short q) 0 (escape_of u) bs ≡ is_closed_inside (short q) (U u bs)
short_from q [] u quote h = let parts = or_parts (is_byte q u) (is_byte 10 u) h in rw parts.0 refl
short_from q (b ∷ bs) u quote h = elim (cases_Bool (escape_takes u b)) [
  | inl takes ↦
      rw (escape_taken u b takes, escape_on u b takes, grouped_joins escape_takes u b bs takes, closes)
      (short_from q bs (u ++ b ∷ []) quote (rw (taken_is_no_byte q u b takes, taken_is_no_byte 10 u b takes) refl))
  | inr apart ↦
      rw (grouped_apart escape_takes u b bs apart, closed_cons q u (b ∷ []) bs h)
      (short_first q b bs (escape_of u) quote (escape_apart u b apart) (escape_new u b apart) (short_from q bs (b ∷ []) quote))
]

-- A long one, where so many quotes stand before.
abbrev is_closed_long : ℕ → ℕ → List (List ℕ) → Bool
is_closed_long q n us = three_in_a_row q n us && not (three_in_a_row q n (but_last us))

long_cons : (q n : ℕ) (u g xs : List ℕ) → third q n u ≡ false → is_closed_long q n (u ∷ U g xs) ≡ is_closed_long q (row q n u) (U g xs)
long_cons q n u g xs h = rw (but_last_cons escape_takes u g xs, three_step q n u (U g xs) h, three_step q n u (but_last (U g xs)) h) refl

long_ends : (q : ℕ) (bs : List ℕ) → is_quote q ≡ true → is_empty bs ≡ is_closed_long q 2 (U (q ∷ []) bs)
long_ends q bs quote = by bs (rw (quote_is q quote) refl)
  where
    by : (bs : List ℕ) → third q 2 (q ∷ []) ≡ true → is_empty bs ≡ is_closed_long q 2 (U (q ∷ []) bs)
    by [] last = rw (three_now q 2 (q ∷ []) [] last) refl
    by (c ∷ cs) last =
        rw (grouped_apart escape_takes (q ∷ []) c cs (quote_takes q c quote), but_last_cons escape_takes (q ∷ []) (c ∷ []) cs)
        (rw (three_now q 2 (q ∷ []) (U (c ∷ []) cs) last, three_now q 2 (q ∷ []) (but_last (U (c ∷ []) cs)) last) refl)

not_three : (n : ℕ) → (n == 2) ≡ false → (n + 1 == 3) ≡ false
not_three n other = elim (cases_Bool (n + 1 == 3)) [
  | inl is ↦ absurd (omega (arith, eqb-true (n + 1) 3 is, eqb-false n 2 other))
  | inr h ↦ h
]

long_first : (q n b : ℕ) (bs : List ℕ) (e : Escape) → is_quote q ≡ true → is_escaped e b ≡ false → escape_after e b ≡ escape_of (b ∷ [])
    → (third q n (b ∷ []) ≡ false → closes (long q) (row q n (b ∷ [])) (escape_of (b ∷ [])) bs ≡ is_closed_long q n (U (b ∷ []) bs))
    → closes (long q) n e (b ∷ bs) ≡ is_closed_long q n (U (b ∷ []) bs)
long_first q n b bs e quote plain after more = elim (cases_Bool (b == q)) [
  | inl is ↦ elim (cases_Bool (n == 2)) [
    | inl two ↦ rw (plain, is, closes) (rw (eqb-true n 2 two, eqb-true b q is) (long_ends q bs quote))
    | inr other ↦ let rest = more (rw (is, other) refl) in rw (plain, is, not_three n other, after, closes) (rw is at rest)
  ]
  | inr differs ↦ let rest = more (rw differs refl) in rw (plain, differs, after, closes) (rw differs at rest)
]

long_from : (q n : ℕ) (bs u : List ℕ) → is_quote q ≡ true → third q n u ≡ false → closes (long q) (row q n u) (escape_of u) bs ≡ is_closed_long q n (U u bs)
long_from q n [] u quote h = rw (three_step q n u [] h) refl
long_from q n (b ∷ bs) u quote h = elim (cases_Bool (escape_takes u b)) [
  | inl takes ↦
      let rest = long_from q n bs (u ++ b ∷ []) quote (rw (taken_is_no_byte q u b takes) refl) in
      rw (escape_taken u b takes, escape_on u b takes, grouped_joins escape_takes u b bs takes, closes) (rw (taken_is_no_byte q u b takes) at rest)
  | inr apart ↦
      rw (grouped_apart escape_takes u b bs apart, long_cons q n u (b ∷ []) bs h)
      (long_first q (row q n u) b bs (escape_of u) quote (escape_apart u b apart) (escape_new u b apart) (long_from q (row q n u) bs (b ∷ []) quote))
]

closes_with : (q : ℕ) (l : Bool) (bs : List ℕ) → is_quote q ≡ true → closes (record { byte = q; long = l }) 0 Unescaped bs ≡ is_closed_inside (record { byte = q; long = l }) (units bs)
closes_with q true [] quote = refl
closes_with q false [] quote = refl
closes_with q true (b ∷ bs) quote = long_first q 0 b bs Unescaped quote refl (escape_starts b) (long_from q 0 bs (b ∷ []) quote)
closes_with q false (b ∷ bs) quote = short_first q b bs Unescaped quote refl (escape_starts b) (short_from q bs (b ∷ []) quote)

pub closes_units : (quotes : Quotes) (bs : List ℕ) → is_quote quotes.byte ≡ true → closes quotes 0 Unescaped bs ≡ (has_closing quotes (units bs) && not (has_closing quotes (but_last (units bs)) || has_break quotes (but_last (units bs))))
closes_units quotes bs quote = closes_with quotes.byte quotes.long bs quote ∙ closed_inside quotes (units bs)
