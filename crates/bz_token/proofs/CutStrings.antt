-- The steps pass over a string.
use Rattle.std.proofs.Common.{◌≡◌, ℕ, zero, suc, ◌+◌, ◌≤◌, ◌==◌, ◌&&◌, ◌⊎◌, List, [], ◌∷◌, ◌++◌, Bool, true, false, cond, refl, sym, ap, ◌∙◌, arith, inl, inr, append_assoc, append-nil, eqb-true}
use Rattle.std.proofs.lemmas.Bool.{cases_Bool, or_parts, or_cases, and_parts, both_ways, or_left, eqb-false}
use Rattle.std.proofs.lemmas.Slice.Eq.{bytes_eq-Decides}
use Rattle.std.specs.Prelude.{bytes_eq}
use Rattle.std.specs.List.{list_any}
use Rattle.bz_token.specs.declared.cutter.scan.LineKind.{LineKind}
use Rattle.bz_token.specs.declared.cutter.scan.Quote.{Quote}
use Rattle.bz_token.specs.declared.cutter.scan.Quote.TheVariants.{Single, Double}
use Rattle.bz_token.specs.declared.cutter.scan.CutState.{CutState}
use Rattle.bz_token.specs.declared.cutter.scan.CutState.TheVariants.{Plain, BrokenOff, Short, ShortEscape, ShortEscapeReturn, Long, LongQuote, LongTwoQuotes, LongEscape}
use Rattle.bz_token.specs.declared.cutter.scan.Scan.{Scan}
use Rattle.bz_token.specs.Groups.{grouped_from}
use Rattle.bz_token.specs.Strings.{is_byte, escape_takes, but_last}
use Rattle.bz_token.specs.private.CutSteps.{is_ended, is_broken, byte_of, at, in_short, next}
use Rattle.bz_token.proofs.CutSeen.{seen_lines, final_kind, by_byte}
use Rattle.bz_token.specs.private.StringPieces.{stops_short, three_in_a_row}

pub grouped_joins : {A : Type 0} (joins : List A → A → Bool) (g : List A) (x : A) (xs : List A) → joins g x ≡ true → grouped_from joins g (x ∷ xs) ≡ grouped_from joins (g ++ x ∷ []) xs
grouped_joins joins g x xs h = rw (h, grouped_from) refl

pub grouped_apart : {A : Type 0} (joins : List A → A → Bool) (g : List A) (x : A) (xs : List A) → joins g x ≡ false → grouped_from joins g (x ∷ xs) ≡ g ∷ grouped_from joins (x ∷ []) xs
grouped_apart joins g x xs h = rw (h, grouped_from) refl

pub but_last_cons : (joins : List ℕ → ℕ → Bool) (u g xs : List ℕ) → but_last (u ∷ grouped_from joins g xs) ≡ u ∷ but_last (grouped_from joins g xs)
but_last_cons joins u g [] = refl
but_last_cons joins u g (x ∷ xs) = elim (cases_Bool (joins g x)) [
  | inl is ↦ rw (grouped_joins joins g x xs is) (but_last_cons joins u (g ++ x ∷ []) xs)
  | inr differs ↦ rw (grouped_apart joins g x xs differs) refl
]

pub seen_step : (s : Scan) (seen : List ℕ) (b : ℕ) (bs : List ℕ) → is_ended s.inside ≡ false → seen_lines s seen (b ∷ bs) ≡ seen_lines (next s b) (seen ++ b ∷ []) bs
seen_step s seen b bs h = rw (h, seen_lines) refl

pub takes_cases : (u : List ℕ) (b : ℕ) → escape_takes u b ≡ true → (u ≡ 92 ∷ []) ⊎ ((u ≡ 92 ∷ 13 ∷ []) × (b ≡ 10))
takes_cases u b h = elim (or_cases (is_byte 92 u) (bytes_eq u (92 ∷ 13 ∷ []) && b == 10) h) [
  | inl is ↦ inl ((bytes_eq-Decides u (92 ∷ [])).0 is)
  | inr both ↦
      let parts = and_parts (bytes_eq u (92 ∷ 13 ∷ [])) (b == 10) both in
      inr ((bytes_eq-Decides u (92 ∷ 13 ∷ [])).0 parts.0, eqb-true b 10 parts.1)
]

-- after the units before the open one
abbrev pub short_state : Quote → List ℕ → CutState
short_state quote u = cond (is_byte 92 u) (ShortEscape quote) (cond (bytes_eq u (92 ∷ 13 ∷ [])) (ShortEscapeReturn quote) (Short quote))

short_open : (quote : Quote) (u : List ℕ) → is_ended (short_state quote u) ≡ false
short_open quote u = elim (cases_Bool (is_byte 92 u)) [
  | inl is ↦ rw is refl
  | inr differs ↦ elim (cases_Bool (bytes_eq u (92 ∷ 13 ∷ []))) [ inl is ↦ rw (differs, is) refl | inr other ↦ rw (differs, other) refl ]
]

short_final : (quote : Quote) (u : List ℕ) (k : LineKind) → final_kind (short_state quote u) k ≡ k
short_final quote u k = elim (cases_Bool (is_byte 92 u)) [
  | inl is ↦ rw is refl
  | inr differs ↦ elim (cases_Bool (bytes_eq u (92 ∷ 13 ∷ []))) [ inl is ↦ rw (differs, is) refl | inr other ↦ rw (differs, other) refl ]
]

short_broken : (quote : Quote) (u : List ℕ) → is_broken (short_state quote u) ≡ false
short_broken quote u = elim (cases_Bool (is_byte 92 u)) [
  | inl is ↦ rw is refl
  | inr differs ↦ elim (cases_Bool (bytes_eq u (92 ∷ 13 ∷ []))) [ inl is ↦ rw (differs, is) refl | inr other ↦ rw (differs, other) refl ]
]

short_next : (quote : Quote) (u : List ℕ) (b d : ℕ) (k : LineKind) → escape_takes u b ≡ false → next (at (short_state quote u) d k) b ≡ in_short quote d k b
short_next quote u b d k h =
    let parts = or_parts (is_byte 92 u) (bytes_eq u (92 ∷ 13 ∷ []) && b == 10) h in
    elim (cases_Bool (bytes_eq u (92 ∷ 13 ∷ []))) [
      | inl is ↦ let n10 : (b == 10) ≡ false = (rw is at parts.1) in rw (parts.0, is) (rw n10 refl)
      | inr differs ↦ rw (parts.0, differs) refl
    ]

short_takes : (quote : Quote) (u : List ℕ) (b d : ℕ) (k : LineKind) → escape_takes u b ≡ true → next (at (short_state quote u) d k) b ≡ at (short_state quote (u ++ b ∷ [])) d k
short_takes quote u b d k h = elim (takes_cases u b h) [
  | inl one ↦ rw one (by_byte (λ x. next (at (ShortEscape quote) d k) x ≡ at (short_state quote (92 ∷ x ∷ [])) d k) 13 b refl (λ n13. simp n13))
  | inr two ↦ rw (two.0, two.1) refl
]

takes_no_stop : (quote : Quote) (u : List ℕ) (b : ℕ) → escape_takes u b ≡ true → stops_short (byte_of quote) (u ++ b ∷ []) ≡ false
takes_no_stop Single u b h = elim (takes_cases u b h) [ inl one ↦ rw one refl | inr two ↦ rw two.0 refl ]
takes_no_stop Double u b h = elim (takes_cases u b h) [ inl one ↦ rw one refl | inr two ↦ rw two.0 refl ]

abbrev pub short_end : Bool → ℕ → LineKind → Scan
short_end broken d k = at (cond broken BrokenOff Plain) d k

abbrev pub G : List ℕ → List ℕ → List (List ℕ)
G u bs = grouped_from escape_takes u bs

-- a stop takes nothing along, so that nothing is after it
stop_takes : (quote : Quote) (b c : ℕ) → stops_short (byte_of quote) (b ∷ []) ≡ true → escape_takes (b ∷ []) c ≡ false
stop_takes Single b c h = by_byte (λ x. escape_takes (x ∷ []) c ≡ false) 39 b refl (λ n. by_byte (λ x. escape_takes (x ∷ []) c ≡ false) 10 b refl (λ m. absurd (both_ways _ (simp (n, m)) h)))
stop_takes Double b c h = by_byte (λ x. escape_takes (x ∷ []) c ≡ false) 34 b refl (λ n. by_byte (λ x. escape_takes (x ∷ []) c ≡ false) 10 b refl (λ m. absurd (both_ways _ (simp (n, m)) h)))

pub stop_last : (quote : Quote) (b : ℕ) (bs : List ℕ) → stops_short (byte_of quote) (b ∷ []) ≡ true → list_any (stops_short (byte_of quote)) (but_last (G (b ∷ []) bs)) ≡ false → bs ≡ []
stop_last quote b [] stop none = refl
stop_last quote b (c ∷ cs) stop none =
    let apart = grouped_apart escape_takes (b ∷ []) c cs (stop_takes quote b c stop) in
    let more = rw (apart, but_last_cons escape_takes (b ∷ []) (c ∷ []) cs) at none in
    absurd (both_ways _ (or_parts _ _ more).0 stop)

pub short_from : (quote : Quote) (b : ℕ) (bs after : List ℕ) (d : ℕ) (k : LineKind) (seen : List ℕ)
    → (stops_short (byte_of quote) (b ∷ []) ≡ false → seen_lines (at (short_state quote (b ∷ [])) d k) seen (bs ++ after) ≡ seen_lines (short_end (list_any (is_byte 10) (G (b ∷ []) bs)) d k) (seen ++ bs) after)
    → list_any (stops_short (byte_of quote)) (but_last (G (b ∷ []) bs)) ≡ false
    → seen_lines (in_short quote d k b) seen (bs ++ after) ≡ seen_lines (short_end (list_any (is_byte 10) (G (b ∷ []) bs)) d k) (seen ++ bs) after
short_from quote b bs after d k seen rec early = elim (cases_Bool (stops_short (byte_of quote) (b ∷ []))) [
  | inl stop ↦
      let last = stop_last quote b bs stop early in
      rw (last, append-nil) (ap (λ s. seen_lines s seen after) (at_stop quote b d k stop))
  | inr open_ ↦ ap (λ s. seen_lines s seen (bs ++ after)) (not_stop quote b d k open_) ∙ rec open_
] where
  at_stop : (quote : Quote) (b d : ℕ) (k : LineKind) → stops_short (byte_of quote) (b ∷ []) ≡ true → in_short quote d k b ≡ short_end (list_any (is_byte 10) (G (b ∷ []) [])) d k
  at_stop Single b d k h = by_byte (λ x. in_short Single d k x ≡ short_end (list_any (is_byte 10) (G (x ∷ []) [])) d k) 39 b refl (λ n. by_byte (λ x. in_short Single d k x ≡ short_end (list_any (is_byte 10) (G (x ∷ []) [])) d k) 10 b refl (λ m. absurd (both_ways _ (simp (n, m)) h)))
  at_stop Double b d k h = by_byte (λ x. in_short Double d k x ≡ short_end (list_any (is_byte 10) (G (x ∷ []) [])) d k) 34 b refl (λ n. by_byte (λ x. in_short Double d k x ≡ short_end (list_any (is_byte 10) (G (x ∷ []) [])) d k) 10 b refl (λ m. absurd (both_ways _ (simp (n, m)) h)))

  not_stop : (quote : Quote) (b d : ℕ) (k : LineKind) → stops_short (byte_of quote) (b ∷ []) ≡ false → in_short quote d k b ≡ at (short_state quote (b ∷ [])) d k
  not_stop Single b d k h = by_byte (λ x. stops_short 39 (x ∷ []) ≡ false → in_short Single d k x ≡ at (short_state Single (x ∷ [])) d k) 39 b (λ p. absurd (both_ways _ p refl)) (λ n p. by_byte (λ x. (x == 39) ≡ false → stops_short 39 (x ∷ []) ≡ false → in_short Single d k x ≡ at (short_state Single (x ∷ [])) d k) 10 b (λ n2 p2. absurd (both_ways _ p2 refl)) (λ m n2 p2. by_byte (λ x. (x == 39) ≡ false → (x == 10) ≡ false → in_short Single d k x ≡ at (short_state Single (x ∷ [])) d k) 92 b (λ a c. refl) (λ e a c. simp (a, c, e)) n2 m) n p) h
  not_stop Double b d k h = by_byte (λ x. stops_short 34 (x ∷ []) ≡ false → in_short Double d k x ≡ at (short_state Double (x ∷ [])) d k) 34 b (λ p. absurd (both_ways _ p refl)) (λ n p. by_byte (λ x. (x == 34) ≡ false → stops_short 34 (x ∷ []) ≡ false → in_short Double d k x ≡ at (short_state Double (x ∷ [])) d k) 10 b (λ n2 p2. absurd (both_ways _ p2 refl)) (λ m n2 p2. by_byte (λ x. (x == 34) ≡ false → (x == 10) ≡ false → in_short Double d k x ≡ at (short_state Double (x ∷ [])) d k) 92 b (λ a c. refl) (λ e a c. simp (a, c, e)) n2 m) n p) h

-- closed by a stop in its last unit, or open to the end of the text
pub short_run : (quote : Quote) (bs u after : List ℕ) (d : ℕ) (k : LineKind) (seen : List ℕ)
    → stops_short (byte_of quote) u ≡ false
    → list_any (stops_short (byte_of quote)) (but_last (G u bs)) ≡ false
    → ((list_any (stops_short (byte_of quote)) (G u bs) ≡ true) ⊎ (after ≡ []))
    → seen_lines (at (short_state quote u) d k) seen (bs ++ after) ≡ seen_lines (short_end (list_any (is_byte 10) (G u bs)) d k) (seen ++ bs) after
short_run quote [] u after d k seen open_ early closed = elim closed [
  | inl stop ↦ absurd (both_ways _ (rw open_ refl) stop)
  | inr end ↦
      let parts = or_parts (is_byte (byte_of quote) u) (is_byte 10 u) open_ in
      rw (end, append-nil, short_final quote u k, short_broken quote u, parts.1) refl
]
short_run quote (b ∷ bs) u after d k seen open_ early closed = elim (cases_Bool (escape_takes u b)) [
  | inl takes ↦
      let g = grouped_joins escape_takes u b bs takes in
      seen_step (at (short_state quote u) d k) seen b (bs ++ after) (short_open quote u)
      ∙ rw (short_takes quote u b d k takes, g) (short_run quote bs (u ++ b ∷ []) after d k (seen ++ b ∷ []) (takes_no_stop quote u b takes) (rw g at early) (rw g at closed)
      ∙ rw append_assoc refl)
  | inr apart ↦
      let g = grouped_apart escape_takes u b bs apart in
      let early2 = (or_parts _ _ (rw (g, but_last_cons escape_takes u (b ∷ []) bs) at early)).1 in
      let broken = (or_parts (is_byte (byte_of quote) u) (is_byte 10 u) open_).1 in
      seen_step (at (short_state quote u) d k) seen b (bs ++ after) (short_open quote u)
      ∙ rw (short_next quote u b d k apart, g, broken)
      (short_from quote b bs after d k (seen ++ b ∷ []) (λ o. short_run quote bs (b ∷ []) after d k (seen ++ b ∷ []) o early2 (rw (g, open_) at closed)) early2
      ∙ rw append_assoc refl)
]

-- after so many quotes in a row
abbrev pub long_at : Quote → ℕ → CutState
long_at quote zero = Long quote
long_at quote (suc zero) = LongQuote quote
long_at quote (suc (suc n)) = LongTwoQuotes quote

abbrev pub row : ℕ → ℕ → List ℕ → ℕ
row q n u = cond (is_byte q u) (n + 1) 0

abbrev pub long_state : Quote → ℕ → List ℕ → CutState
long_state quote n u = cond (is_byte 92 u) (LongEscape quote) (long_at quote (row (byte_of quote) n u))

-- the unit is the third quote
abbrev pub third : ℕ → ℕ → List ℕ → Bool
third q n u = is_byte q u && n == 2

at_open : (quote : Quote) (n : ℕ) → is_ended (long_at quote n) ≡ false
at_open quote zero = refl
at_open quote (suc zero) = refl
at_open quote (suc (suc n)) = refl

at_final : (quote : Quote) (n : ℕ) (k : LineKind) → final_kind (long_at quote n) k ≡ k
at_final quote zero k = refl
at_final quote (suc zero) k = refl
at_final quote (suc (suc n)) k = refl

at_broken : (quote : Quote) (n : ℕ) → is_broken (long_at quote n) ≡ false
at_broken quote zero = refl
at_broken quote (suc zero) = refl
at_broken quote (suc (suc n)) = refl

long_open : (quote : Quote) (n : ℕ) (u : List ℕ) → is_ended (long_state quote n u) ≡ false
long_open quote n u = elim (cases_Bool (is_byte 92 u)) [
  | inl is ↦ rw is refl
  | inr differs ↦ rw differs (at_open quote (row (byte_of quote) n u))
]

long_final : (quote : Quote) (n : ℕ) (u : List ℕ) (k : LineKind) → final_kind (long_state quote n u) k ≡ k
long_final quote n u k = elim (cases_Bool (is_byte 92 u)) [
  | inl is ↦ rw is refl
  | inr differs ↦ rw differs (at_final quote (row (byte_of quote) n u) k)
]

long_broken : (quote : Quote) (n : ℕ) (u : List ℕ) → is_broken (long_state quote n u) ≡ false
long_broken quote n u = elim (cases_Bool (is_byte 92 u)) [
  | inl is ↦ rw is refl
  | inr differs ↦ rw differs (at_broken quote (row (byte_of quote) n u))
]

long_takes : (quote : Quote) (n : ℕ) (u : List ℕ) (b d : ℕ) (k : LineKind) → escape_takes u b ≡ true → next (at (long_state quote n u) d k) b ≡ at (long_state quote n (u ++ b ∷ [])) d k
long_takes Single n u b d k h = elim (takes_cases u b h) [ inl one ↦ rw one refl | inr two ↦ rw (two.0, two.1) refl ]
long_takes Double n u b d k h = elim (takes_cases u b h) [ inl one ↦ rw one refl | inr two ↦ rw (two.0, two.1) refl ]

takes_no_third : (quote : Quote) (n : ℕ) (u : List ℕ) (b : ℕ) → escape_takes u b ≡ true → third (byte_of quote) n (u ++ b ∷ []) ≡ false
takes_no_third Single n u b h = elim (takes_cases u b h) [ inl one ↦ rw one refl | inr two ↦ rw two.0 refl ]
takes_no_third Double n u b h = elim (takes_cases u b h) [ inl one ↦ rw one refl | inr two ↦ rw two.0 refl ]

pub three_step : (q n : ℕ) (u : List ℕ) (us : List (List ℕ)) → third q n u ≡ false → three_in_a_row q n (u ∷ us) ≡ three_in_a_row q (row q n u) us
three_step q n u us h = elim (cases_Bool (is_byte q u)) [
  | inl is ↦ let other : (n == 2) ≡ false = (rw is at h) in rw (is, three_in_a_row) (rw other refl)
  | inr differs ↦ rw (differs, three_in_a_row) refl
]

pub three_now : (q n : ℕ) (u : List ℕ) (us : List (List ℕ)) → third q n u ≡ true → three_in_a_row q n (u ∷ us) ≡ true
three_now q n u us h =
    let parts = and_parts (is_byte q u) (n == 2) h in
    rw (parts.0, three_in_a_row) (rw parts.1 refl)

row_small : (q n : ℕ) (u : List ℕ) → n ≤ 2 → third q n u ≡ false → row q n u ≤ 2
row_small q n u small h = elim (cases_Bool (is_byte q u)) [
  | inl is ↦ let other : (n == 2) ≡ false = (rw is at h) in rw is (omega (arith, eqb-false n 2 other))
  | inr differs ↦ rw differs (omega arith)
]

-- a byte that is not the third quote
long_next : (quote : Quote) (n b d : ℕ) (k : LineKind) → n ≤ 2 → third (byte_of quote) n (b ∷ []) ≡ false → next (at (long_at quote n) d k) b ≡ at (long_state quote n (b ∷ [])) d k
long_next Single zero b d k small h = by_byte (λ x. next (at (long_at Single zero) d k) x ≡ at (long_state Single zero (x ∷ [])) d k) 39 b refl (λ n. by_byte (λ x. (x == 39) ≡ false → next (at (long_at Single zero) d k) x ≡ at (long_state Single zero (x ∷ [])) d k) 92 b (λ a. refl) (λ m a. simp (a, m)) n)
long_next Double zero b d k small h = by_byte (λ x. next (at (long_at Double zero) d k) x ≡ at (long_state Double zero (x ∷ [])) d k) 34 b refl (λ n. by_byte (λ x. (x == 34) ≡ false → next (at (long_at Double zero) d k) x ≡ at (long_state Double zero (x ∷ [])) d k) 92 b (λ a. refl) (λ m a. simp (a, m)) n)
long_next Single (suc zero) b d k small h = by_byte (λ x. next (at (long_at Single 1) d k) x ≡ at (long_state Single 1 (x ∷ [])) d k) 39 b refl (λ n. by_byte (λ x. (x == 39) ≡ false → next (at (long_at Single 1) d k) x ≡ at (long_state Single 1 (x ∷ [])) d k) 92 b (λ a. refl) (λ m a. simp (a, m)) n)
long_next Double (suc zero) b d k small h = by_byte (λ x. next (at (long_at Double 1) d k) x ≡ at (long_state Double 1 (x ∷ [])) d k) 34 b refl (λ n. by_byte (λ x. (x == 34) ≡ false → next (at (long_at Double 1) d k) x ≡ at (long_state Double 1 (x ∷ [])) d k) 92 b (λ a. refl) (λ m a. simp (a, m)) n)
long_next Single (suc (suc zero)) b d k small h = by_byte (λ x. third 39 2 (x ∷ []) ≡ false → next (at (long_at Single 2) d k) x ≡ at (long_state Single 2 (x ∷ [])) d k) 39 b (λ p. absurd (both_ways _ p refl)) (λ n p. by_byte (λ x. (x == 39) ≡ false → next (at (long_at Single 2) d k) x ≡ at (long_state Single 2 (x ∷ [])) d k) 92 b (λ a. refl) (λ m a. simp (a, m)) n) h
long_next Double (suc (suc zero)) b d k small h = by_byte (λ x. third 34 2 (x ∷ []) ≡ false → next (at (long_at Double 2) d k) x ≡ at (long_state Double 2 (x ∷ [])) d k) 34 b (λ p. absurd (both_ways _ p refl)) (λ n p. by_byte (λ x. (x == 34) ≡ false → next (at (long_at Double 2) d k) x ≡ at (long_state Double 2 (x ∷ [])) d k) 92 b (λ a. refl) (λ m a. simp (a, m)) n) h
long_next quote (suc (suc (suc n))) b d k small h = absurd (omega arith)

closing : (quote : Quote) (b d : ℕ) (k : LineKind) → is_byte (byte_of quote) (b ∷ []) ≡ true → next (at (LongTwoQuotes quote) d k) b ≡ at Plain d k
closing Single b d k h = by_byte (λ x. is_byte 39 (x ∷ []) ≡ true → next (at (LongTwoQuotes Single) d k) x ≡ at Plain d k) 39 b (λ p. refl) (λ n p. absurd (both_ways _ (simp n) p)) h
closing Double b d k h = by_byte (λ x. is_byte 34 (x ∷ []) ≡ true → next (at (LongTwoQuotes Double) d k) x ≡ at Plain d k) 34 b (λ p. refl) (λ n p. absurd (both_ways _ (simp n) p)) h

third_next : (quote : Quote) (n b d : ℕ) (k : LineKind) → third (byte_of quote) n (b ∷ []) ≡ true → next (at (long_at quote n) d k) b ≡ at Plain d k
third_next quote n b d k h =
    let parts = and_parts (is_byte (byte_of quote) (b ∷ [])) (n == 2) h in
    rw (eqb-true n 2 parts.1) (closing quote b d k parts.0)

third_takes : (quote : Quote) (n b c : ℕ) → third (byte_of quote) n (b ∷ []) ≡ true → escape_takes (b ∷ []) c ≡ false
third_takes quote n b c h = stop_takes quote b c (or_left (is_byte (byte_of quote) (b ∷ [])) (is_byte 10 (b ∷ [])) (and_parts (is_byte (byte_of quote) (b ∷ [])) (n == 2) h).0)

third_last : (quote : Quote) (n b : ℕ) (bs : List ℕ) → third (byte_of quote) n (b ∷ []) ≡ true → three_in_a_row (byte_of quote) n (but_last (G (b ∷ []) bs)) ≡ false → bs ≡ []
third_last quote n b [] h none = refl
third_last quote n b (c ∷ cs) h none =
    let apart = grouped_apart escape_takes (b ∷ []) c cs (third_takes quote n b c h) in
    let more = rw (apart, but_last_cons escape_takes (b ∷ []) (c ∷ []) cs) at none in
    absurd (both_ways _ more (three_now (byte_of quote) n (b ∷ []) (but_last (grouped_from escape_takes (c ∷ []) cs)) h))

pub long_from : (quote : Quote) (n b : ℕ) (bs after : List ℕ) (d : ℕ) (k : LineKind) (seen : List ℕ) → n ≤ 2
    → (third (byte_of quote) n (b ∷ []) ≡ false → seen_lines (at (long_state quote n (b ∷ [])) d k) seen (bs ++ after) ≡ seen_lines (at Plain d k) (seen ++ bs) after)
    → three_in_a_row (byte_of quote) n (but_last (G (b ∷ []) bs)) ≡ false
    → seen_lines (next (at (long_at quote n) d k) b) seen (bs ++ after) ≡ seen_lines (at Plain d k) (seen ++ bs) after
long_from quote n b bs after d k seen small rec early = elim (cases_Bool (third (byte_of quote) n (b ∷ []))) [
  | inl stop ↦
      let last = third_last quote n b bs stop early in
      rw (last, append-nil) (ap (λ s. seen_lines s seen after) (third_next quote n b d k stop))
  | inr open_ ↦ ap (λ s. seen_lines s seen (bs ++ after)) (long_next quote n b d k small open_) ∙ rec open_
]

pub long_run : (quote : Quote) (bs u after : List ℕ) (n d : ℕ) (k : LineKind) (seen : List ℕ) → n ≤ 2
    → third (byte_of quote) n u ≡ false
    → three_in_a_row (byte_of quote) n (but_last (G u bs)) ≡ false
    → ((three_in_a_row (byte_of quote) n (G u bs) ≡ true) ⊎ (after ≡ []))
    → seen_lines (at (long_state quote n u) d k) seen (bs ++ after) ≡ seen_lines (at Plain d k) (seen ++ bs) after
long_run quote [] u after n d k seen small open_ early closed = elim closed [
  | inl stop ↦ absurd (both_ways _ (three_step (byte_of quote) n u [] open_) stop)
  | inr end ↦ rw (end, append-nil, long_final quote n u k, long_broken quote n u) refl
]
long_run quote (b ∷ bs) u after n d k seen small open_ early closed = elim (cases_Bool (escape_takes u b)) [
  | inl takes ↦
      let g = grouped_joins escape_takes u b bs takes in
      seen_step (at (long_state quote n u) d k) seen b (bs ++ after) (long_open quote n u)
      ∙ rw (long_takes quote n u b d k takes) (long_run quote bs (u ++ b ∷ []) after n d k (seen ++ b ∷ []) small (takes_no_third quote n u b takes) (rw g at early) (rw g at closed)
      ∙ rw append_assoc refl)
  | inr apart ↦
      let g = grouped_apart escape_takes u b bs apart in
      let m = row (byte_of quote) n u in
      let small2 = row_small (byte_of quote) n u small open_ in
      let early2 = sym (three_step (byte_of quote) n u (but_last (G (b ∷ []) bs)) open_) ∙ (rw (g, but_last_cons escape_takes u (b ∷ []) bs) at early) in
      let closed2 = rw (g, three_step (byte_of quote) n u (G (b ∷ []) bs) open_) at closed in
      let plain : is_byte 92 u ≡ false = (or_parts (is_byte 92 u) (bytes_eq u (92 ∷ 13 ∷ []) && b == 10) apart).0 in
      seen_step (at (long_state quote n u) d k) seen b (bs ++ after) (long_open quote n u)
      ∙ rw plain
      (long_from quote m b bs after d k (seen ++ b ∷ []) small2 (λ o. long_run quote bs (b ∷ []) after m d k (seen ++ b ∷ []) small2 o early2 closed2) early2
      ∙ rw append_assoc refl)
]
