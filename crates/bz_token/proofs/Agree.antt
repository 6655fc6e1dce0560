-- The cutter and the tokens agree: where the tokens of a text can be read, the cutter's steps are where they are.
use Rattle.std.proofs.Common.{◌≡◌, ℕ, zero, suc, ◌+◌, ◌-◌, ◌<◌, ◌≤◌, ◌==◌, ◌&&◌, ◌||◌, List, [], ◌∷◌, ◌++◌, length, take, drop, Bool, true, false, not, refl, sym, ap, ap₂, subst, ◌∙◌, arith, inl, inr, length-append, append_assoc, append-nil, one-add, add-one}
use Rattle.std.specs.Prelude.{Some, if◌then◌else◌}
use Rattle.std.specs.List.{list_all, list_any, prefix_len}
use Rattle.std.specs.Char.{is_ascii_digit}
use Rattle.std.proofs.lemmas.Bool.{cases_Bool, and_parts, or_cases, false≢true, eqb-true, not-true, or_parts}
use Rattle.std.proofs.Math.Seq.{drop-append-add}
use Rattle.std.proofs.lemmas.Bool.Decides.{nat_tests, Decides-eqb}
use Rattle.bz_token.proofs.Units.{gap_step}
use Rattle.bz_token.specs.declared.token.Kind.{Kind}
use Rattle.bz_token.specs.declared.token.Kind.TheVariants.{Identifier, Keyword, Integer, String, Operator, Newline, Comment as CommentToken, Kept}
use Rattle.bz_token.specs.declared.scan_string.Escape.{Escape}
use Rattle.bz_token.specs.declared.scan_string.Escape.TheVariants.{Unescaped, AfterBackslash, AfterReturn}
use Rattle.bz_token.specs.declared.cutter.scan.Quote.{Quote}
use Rattle.bz_token.specs.declared.cutter.scan.Quote.TheVariants.{Single, Double}
use Rattle.bz_token.specs.declared.cutter.scan.LineKind.{LineKind}
use Rattle.bz_token.specs.declared.cutter.scan.LineKind.TheVariants.{Blank, Statement}
use Rattle.bz_token.specs.declared.cutter.scan.CutState.{CutState}
use Rattle.bz_token.specs.declared.cutter.scan.CutState.TheVariants.{Plain, Ended, Backslash, BackslashReturn, Comment, Opened, OpenedTwice, Short, ShortEscape, ShortEscapeReturn, Long, LongQuote, LongTwoQuotes, LongEscape}
use Rattle.bz_token.specs.declared.cutter.scan.Scan.{Scan}
use Rattle.bz_token.specs.private.CutSteps.{is_ended, byte_of, at, outside, in_short, in_long, next_in, next, start, run, with_comment}
use Rattle.bz_token.specs.Strings.{is_quote, quote_count, are_two, opens_after, opening}
use Rattle.bz_token.specs.Lexical.{is_word_byte, is_name, is_keyword, operators, is_operator_text, is_text, IsToken}
use Rattle.bz_token.specs.private.Closing.{closes, opening_length}
use Rattle.bz_token.specs.Brackets.{is_inside, is_line, is_opening_bracket, is_closing_bracket, fits, open_after_token}
use Rattle.bz_token.proofs.Classes.{Class, class_of, keyword_name, can_start, text_class, one_of, same_bytes, empty_no_text}
use Rattle.bz_token.specs.declared.scan_string.Opening.{Opening}
use Rattle.bz_token.proofs.Openings.{none_some, opens_r, opens_rb, opens_b, opens_br, opens_plain, opening_facts}
use Rattle.bz_token.proofs.Ends.{string_opens, comment_parts, number_words}
use Rattle.bz_token.proofs.Stops.{token_ends}
use Rattle.bz_token.proofs.CutMachine.{run_append}
use Rattle.bz_token.specs.Ends.{stops_at, is_empty_string}
use Rattle.bz_token.specs.Places.{Placed}
use Rattle.bz_token.specs.FreshStart.{ends_in_line, AreLinesOf}
use Rattle.bz_token.proofs.Fitting.{is_bracket_byte, bracket_class, no_bracket}
use Rattle.bz_token.proofs.Unique.{blank_class, nothing_unknown}
use Rattle.bz_token.specs.Reading.{is_gap, Piece, IsReading, open_after, AreTokensOf}
use Rattle.bz_token.specs.Common.{is_empty, is_newline}
use Rattle.bz_token.specs.Pieces.{is_blank, is_white}
use Rattle.bz_token.specs.private.Gaps.{continues_gap, feeds_gap}

-- the cutter stands here, whatever line it is in
pub record IsAt (s : Scan) (inside : CutState) (depth : ℕ) : Type 0 where
  pub inside_is : s.inside ≡ inside
  pub depth_is : s.depth ≡ depth

pub stands : (inside : CutState) (depth : ℕ) (kind : LineKind) → IsAt (at inside depth kind) inside depth
stands inside depth kind = record { inside_is = refl; depth_is = refl }

-- a step from where it stands
pub step_from : (s : Scan) (inside : CutState) (depth : ℕ) (b : ℕ) → IsAt s inside depth → (kind : LineKind) × (next s b ≡ next_in inside depth kind b)
step_from s inside depth b h = (s.kind, λ i. next_in (h.inside_is i) (h.depth_is i) s.kind b)

-- letters, digits and underscores
word_step : (d : ℕ) (k : LineKind) (b : ℕ) → is_word_byte b ≡ true → outside d k b ≡ at Plain d Statement
word_step d k b h =
    let n10 = apart b 10 h refl in
    let n32 = apart b 32 h refl in
    let n9 = apart b 9 h refl in
    let n13 = apart b 13 h refl in
    let n35 = apart b 35 h refl in
    let n92 = apart b 92 h refl in
    let n34 = apart b 34 h refl in
    let n39 = apart b 39 h refl in
    let n40 = apart b 40 h refl in
    let n91 = apart b 91 h refl in
    let n123 = apart b 123 h refl in
    let n41 = apart b 41 h refl in
    let n93 = apart b 93 h refl in
    let n125 = apart b 125 h refl in
    simp (n10, n32, n9, n13, n35, n92, n34, n39, n40, n91, n123, n41, n93, n125)
  where
    apart : (b c : ℕ) → is_word_byte b ≡ true → is_word_byte c ≡ false → (b == c) ≡ false
    apart b c h none = elim (cases_Bool (b == c)) [
      | inr miss ↦ miss
      | inl hit ↦ absurd (false≢true (sym none ∙ ap is_word_byte (sym (eqb-true b c hit)) ∙ h))
    ]

pub words_run : (xs : List ℕ) (s : Scan) (d : ℕ) → IsAt s Plain d → list_all is_word_byte xs ≡ true → IsAt (run s xs) Plain d
words_run [] s d h all = h
words_run (x ∷ xs) s d h all =
    let parts = and_parts (is_word_byte x) (list_all is_word_byte xs) all in
    let moved = step_from s Plain d x h in
    words_run xs (next s x) d (subst (λ t. IsAt t Plain d) (sym (moved.1 ∙ word_step d moved.0 x parts.0)) (stands Plain d Statement)) parts.1

-- where a long string's scan stands
abbrev pub long_state : Quote → ℕ → Escape → CutState
long_state q row AfterBackslash = LongEscape q
long_state q row AfterReturn = Long q
long_state q zero Unescaped = Long q
long_state q (suc zero) Unescaped = LongQuote q
long_state q (suc (suc row)) Unescaped = LongTwoQuotes q

abbrev pub long_quotes : Quote → Bool → Rattle.bz_token.specs.declared.scan_string.Quotes.Quotes
long_quotes q long = record { byte = byte_of q; long = long }

no_backslash : (q : Quote) → (byte_of q == 92) ≡ false
no_backslash Single = refl
no_backslash Double = refl

pub no_newline : (q : Quote) → (10 == byte_of q) ≡ false
no_newline Single = refl
no_newline Double = refl

-- a quote escapes nothing
pub quote_plain : (q : Quote) (x : ℕ) → (x == byte_of q) ≡ true → (x == 92) ≡ false
quote_plain q x hit = ap (λ y. y == 92) (eqb-true x (byte_of q) hit) ∙ no_backslash q

-- where the next quote of a long string leads
abbrev pub row_target : Quote → ℕ → CutState
row_target q zero = LongQuote q
row_target q (suc zero) = LongTwoQuotes q
row_target q (suc (suc row)) = Plain

pub long_next : (q : Quote) (row d : ℕ) (k : LineKind) (x : ℕ) → next_in (long_state q row Unescaped) d k x ≡ in_long (row_target q row) q d k x
long_next q zero d k x = refl
long_next q (suc zero) d k x = refl
long_next q (suc (suc row)) d k x = refl

pub in_long_quote : (t : CutState) (q : Quote) (d : ℕ) (k : LineKind) (x : ℕ) → (x == byte_of q) ≡ true → in_long t q d k x ≡ at t d k
in_long_quote t q d k x h = rw h refl

pub in_long_escape : (t : CutState) (q : Quote) (d : ℕ) (k : LineKind) (x : ℕ) → (x == byte_of q) ≡ false → (x == 92) ≡ true → in_long t q d k x ≡ at (LongEscape q) d k
in_long_escape t q d k x h e = rw (h, e) refl

pub in_long_plain : (t : CutState) (q : Quote) (d : ℕ) (k : LineKind) (x : ℕ) → (x == byte_of q) ≡ false → (x == 92) ≡ false → in_long t q d k x ≡ at (Long q) d k
in_long_plain t q d k x h e = rw (h, e) refl

pub moves : (s : Scan) (from to : CutState) (d x : ℕ) → IsAt s from d → ((k : LineKind) → next_in from d k x ≡ at to d k) → IsAt (next s x) to d
moves s from to d x h step = let m = step_from s from d x h in subst (λ t. IsAt t to d) (sym (m.1 ∙ step m.0)) (stands to d m.0)

empty_run : (xs : List ℕ) (s : Scan) (i : CutState) (d : ℕ) → is_empty xs ≡ true → IsAt s i d → IsAt (run s xs) i d
empty_run [] s i d e h = h
empty_run (x ∷ xs) s i d e h = absurd (false≢true e)

mutual
  -- over the inside of a long string
  pub long_run : (q : Quote) (row d : ℕ) (xs : List ℕ) (s : Scan) → row ≤ 2 → IsAt s (long_state q row Unescaped) d → closes (long_quotes q true) row Unescaped xs ≡ true → IsAt (run s xs) Plain d
  long_run q row d [] s fits h closed = absurd (false≢true closed)
  long_run q row d (x ∷ xs) s fits h closed =
      elim (cases_Bool (x == byte_of q)) [
        | inl hit ↦
            let slash = quote_plain q x hit in
            elim (cases_Bool (row + 1 == 3)) [
              | inl done ↦
                  empty_run xs (next s x) Plain d (rw (hit, done, closes) at closed)
                  (moves s (long_state q row Unescaped) Plain d x h (λ k. long_next q row d k x ∙ in_long_quote (row_target q row) q d k x hit ∙ ap (λ t. at t d k) (last_row row (eqb-true (row + 1) 3 done))))
              | inr more ↦
                  long_run q (row + 1) d xs (next s x) (room row fits more)
                  (moves s (long_state q row Unescaped) (long_state q (row + 1) Unescaped) d x h (λ k. long_next q row d k x ∙ in_long_quote (row_target q row) q d k x hit ∙ ap (λ t. at t d k) (next_row row fits more)))
                  (rw (hit, more, slash, closes) at closed)
            ]
        | inr miss ↦ elim (cases_Bool (x == 92)) [
          | inl slash ↦
              long_escaped q d xs (next s x) (moves s (long_state q row Unescaped) (LongEscape q) d x h (λ k. long_next q row d k x ∙ in_long_escape (row_target q row) q d k x miss slash)) (rw (miss, slash, closes) at closed)
          | inr plain ↦
              long_run q 0 d xs (next s x) (omega arith) (moves s (long_state q row Unescaped) (Long q) d x h (λ k. long_next q row d k x ∙ in_long_plain (row_target q row) q d k x miss plain)) (rw (miss, plain, closes) at closed)
        ]
      ]
    where
      last_row : (row : ℕ) → row + 1 ≡ 3 → row_target q row ≡ Plain
      last_row zero e = absurd (omega arith)
      last_row (suc zero) e = absurd (omega arith)
      last_row (suc (suc row)) e = refl

      next_row : (row : ℕ) → row ≤ 2 → (row + 1 == 3) ≡ false → row_target q row ≡ long_state q (row + 1) Unescaped
      next_row zero fits e = refl
      next_row (suc zero) fits e = refl
      next_row (suc (suc zero)) fits e = absurd (false≢true (sym e))
      next_row (suc (suc (suc row))) fits e = absurd (omega arith)

      room : (row : ℕ) → row ≤ 2 → (row + 1 == 3) ≡ false → row + 1 ≤ 2
      room row fits e = grind (arith, nat_tests)

  long_escaped : (q : Quote) (d : ℕ) (xs : List ℕ) (s : Scan) → IsAt s (LongEscape q) d → closes (long_quotes q true) 0 AfterBackslash xs ≡ true → IsAt (run s xs) Plain d
  long_escaped q d [] s h closed = absurd (false≢true closed)
  long_escaped q d (x ∷ xs) s h closed = elim (cases_Bool (x == 13)) [
    | inl return ↦ long_returned q d xs (next s x) (moves s (LongEscape q) (Long q) d x h (λ k. refl)) (rw (return, closes) at closed)
    | inr other ↦ long_run q 0 d xs (next s x) (omega arith) (moves s (LongEscape q) (Long q) d x h (λ k. refl)) (rw (other, closes) at closed)
  ]

  long_returned : (q : Quote) (d : ℕ) (xs : List ℕ) (s : Scan) → IsAt s (Long q) d → closes (long_quotes q true) 0 AfterReturn xs ≡ true → IsAt (run s xs) Plain d
  long_returned q d [] s h closed = absurd (false≢true closed)
  long_returned q d (x ∷ xs) s h closed = elim (cases_Bool (x == 10)) [
    | inl feed ↦
        let same : x ≡ 10 = eqb-true x 10 feed in
        let miss : (x == byte_of q) ≡ false = ap (λ y. y == byte_of q) same ∙ no_newline q in
        let plain : (x == 92) ≡ false = ap (λ y. y == 92) same in
        long_run q 0 d xs (next s x) (omega arith) (moves s (Long q) (Long q) d x h (λ k. in_long_plain (LongQuote q) q d k x miss plain)) (rw (feed, plain, closes) at closed)
    | inr other ↦ elim (cases_Bool (x == byte_of q)) [
      | inl hit ↦
          let slash = quote_plain q x hit in
          long_run q 1 d xs (next s x) (omega arith) (moves s (Long q) (LongQuote q) d x h (λ k. in_long_quote (LongQuote q) q d k x hit)) (rw (other, hit, slash, closes) at closed)
      | inr miss ↦ elim (cases_Bool (x == 92)) [
        | inl slash ↦ long_escaped q d xs (next s x) (moves s (Long q) (LongEscape q) d x h (λ k. in_long_escape (LongQuote q) q d k x miss slash)) (rw (other, miss, slash, closes) at closed)
        | inr plain ↦ long_run q 0 d xs (next s x) (omega arith) (moves s (Long q) (Long q) d x h (λ k. in_long_plain (LongQuote q) q d k x miss plain)) (rw (other, miss, plain, closes) at closed)
      ]
    ]
  ]

-- after a carriage return another byte than a newline is not escaped
pub unescaped : (q : Quote) (x : ℕ) (xs : List ℕ) → (x == 10) ≡ false → closes (long_quotes q false) 0 AfterReturn (x ∷ xs) ≡ true → closes (long_quotes q false) 0 Unescaped (x ∷ xs) ≡ true
unescaped q x xs other h = elim (cases_Bool (x == byte_of q)) [
  | inl hit ↦ rw (hit, closes) (rw (other, hit, closes) at h)
  | inr miss ↦ rw (miss, closes) (rw (other, miss, closes) at h)
]

-- what a byte of a short string that no backslash escapes leads to
pub data Outcome (q : Quote) (d : ℕ) (xs : List ℕ) (s : Scan) : Type 0 where
  done : is_empty xs ≡ true → IsAt s Plain d → Outcome q d xs s
  escape : IsAt s (ShortEscape q) d → closes (long_quotes q false) 0 AfterBackslash xs ≡ true → Outcome q d xs s
  goes : IsAt s (Short q) d → closes (long_quotes q false) 0 Unescaped xs ≡ true → Outcome q d xs s

pub short_step : (q : Quote) (d x : ℕ) (xs : List ℕ) (s : Scan) (k : LineKind) → s ≡ in_short q d k x → closes (long_quotes q false) 0 Unescaped (x ∷ xs) ≡ true → Outcome q d xs s
short_step q d x xs s k step closed = elim (cases_Bool (x == byte_of q)) [
  | inl hit ↦
      let quoted : in_short q d k x ≡ at Plain d k = rw hit refl in
      done (rw (hit, closes) at closed) (subst (λ t. IsAt t Plain d) (sym (step ∙ quoted)) (stands Plain d k))
  | inr miss ↦
      let parts = and_parts (not (x == 10)) (closes (long_quotes q false) 0 (if x == 92 then AfterBackslash else Unescaped) xs) (rw (miss, closes) at closed) in
      let line = not-true (x == 10) parts.0 in
      elim (cases_Bool (x == 92)) [
        | inl slash ↦
            let escaped : in_short q d k x ≡ at (ShortEscape q) d k = rw (miss, line, slash) refl in
            escape (subst (λ t. IsAt t (ShortEscape q) d) (sym (step ∙ escaped)) (stands (ShortEscape q) d k)) (rw slash at parts.1)
        | inr plain ↦
            let short : in_short q d k x ≡ at (Short q) d k = rw (miss, line, plain) refl in
            goes (subst (λ t. IsAt t (Short q) d) (sym (step ∙ short)) (stands (Short q) d k)) (rw plain at parts.1)
      ]
]

mutual
  -- over the inside of a short string
  pub short_run : (q : Quote) (d : ℕ) (xs : List ℕ) (s : Scan) → IsAt s (Short q) d → closes (long_quotes q false) 0 Unescaped xs ≡ true → IsAt (run s xs) Plain d
  short_run q d [] s h closed = absurd (false≢true closed)
  short_run q d (x ∷ xs) s h closed =
      let m = step_from s (Short q) d x h in
      elim (short_step q d x xs (next s x) m.0 m.1 closed) [
        | done e i ↦ empty_run xs (next s x) Plain d e i
        | escape i c ↦ short_escaped q d xs (next s x) i c
        | goes i c ↦ short_run q d xs (next s x) i c
      ]

  pub short_escaped : (q : Quote) (d : ℕ) (xs : List ℕ) (s : Scan) → IsAt s (ShortEscape q) d → closes (long_quotes q false) 0 AfterBackslash xs ≡ true → IsAt (run s xs) Plain d
  short_escaped q d [] s h closed = absurd (false≢true closed)
  short_escaped q d (x ∷ xs) s h closed = elim (cases_Bool (x == 13)) [
    | inl return ↦ short_returned q d xs (next s x) (moves s (ShortEscape q) (ShortEscapeReturn q) d x h (λ k. rw return refl)) (rw (return, closes) at closed)
    | inr other ↦ short_run q d xs (next s x) (moves s (ShortEscape q) (Short q) d x h (λ k. rw other refl)) (rw (other, closes) at closed)
  ]

  short_returned : (q : Quote) (d : ℕ) (xs : List ℕ) (s : Scan) → IsAt s (ShortEscapeReturn q) d → closes (long_quotes q false) 0 AfterReturn xs ≡ true → IsAt (run s xs) Plain d
  short_returned q d [] s h closed = absurd (false≢true closed)
  short_returned q d (x ∷ xs) s h closed = elim (cases_Bool (x == 10)) [
    | inl feed ↦
        let same : x ≡ 10 = eqb-true x 10 feed in
        let plain : (x == 92) ≡ false = ap (λ y. y == 92) same in
        short_run q d xs (next s x) (moves s (ShortEscapeReturn q) (Short q) d x h (λ k. rw feed refl)) (rw (feed, plain, closes) at closed)
    | inr other ↦
        let m = step_from s (ShortEscapeReturn q) d x h in
        let step : next_in (ShortEscapeReturn q) d m.0 x ≡ in_short q d m.0 x = rw other refl in
        elim (short_step q d x xs (next s x) m.0 (m.1 ∙ step) (unescaped q x xs other closed)) [
          | done e i ↦ empty_run xs (next s x) Plain d e i
          | escape i c ↦ short_escaped q d xs (next s x) i c
          | goes i c ↦ short_run q d xs (next s x) i c
        ]
  ]

-- a quote that begins a string
pub quote_of : (x : ℕ) → is_quote x ≡ true → (q : Quote) × (x ≡ byte_of q)
quote_of x h = elim (or_cases (x == 34) (x == 39) h) [
  | inl double ↦ (Double, eqb-true x 34 double)
  | inr single ↦ (Single, eqb-true x 39 single)
]

quote_step : (q : Quote) (d : ℕ) (k : LineKind) → outside d k (byte_of q) ≡ at (Opened q) d Statement
quote_step Single d k = refl
quote_step Double d k = refl

-- what the cutter is ready for: bytes outside strings and comments, or what is left of a comment's line
pub data Ready (s : Scan) (d : ℕ) (after : List ℕ) : Type 0 where
  acts : ((b : ℕ) (bs : List ℕ) → after ≡ b ∷ bs → (k : LineKind) × (next s b ≡ outside d k b)) → Ready s d after
  comments : IsAt s Comment d → list_all is_blank (take (prefix_len (λ c. not (is_newline c)) after) after) ≡ true → Ready s d after

pub ready_plain : (s : Scan) (d : ℕ) (after : List ℕ) → IsAt s Plain d → Ready s d after
ready_plain s d after h = acts (λ b bs e. step_from s Plain d b h)

-- at a byte that is no white space the cutter is outside
pub ready_first : (s : Scan) (d b : ℕ) (bs : List ℕ) → Ready s d (b ∷ bs) → is_blank b ≡ false → (k : LineKind) × (next s b ≡ outside d k b)
ready_first s d b bs (acts f) visible = f b bs refl
ready_first s d b bs (comments h blank) visible = elim (cases_Bool (is_newline b)) [
  | inl line ↦
      let m = step_from s Comment d b h in
      let step : next_in Comment d m.0 b ≡ outside d m.0 b = rw line refl in
      (m.0, m.1 ∙ step)
  | inr other ↦ absurd (false≢true (sym visible ∙ (and_parts (is_blank b) (list_all is_blank (take (prefix_len (λ c. not (is_newline c)) bs) bs)) (rw (other, one-add) at blank)).0))
]

pub not_ended : (s : Scan) (i : CutState) (d : ℕ) → IsAt s i d → is_ended i ≡ false → is_ended s.inside ≡ true → ⊥
not_ended s i d h none ended = false≢true (sym none ∙ ap is_ended (sym h.inside_is) ∙ ended)

blank_step : (d : ℕ) (k : LineKind) (b : ℕ) → is_blank b ≡ true → outside d k b ≡ at Plain d k
blank_step d k b h =
    elim (or_cases (b == 32 || b == 9) (b == 13) h) [
      | inr third ↦ let same : b ≡ 13 = eqb-true b 13 third in rw same refl
      | inl two ↦ elim (or_cases (b == 32) (b == 9) two) [
        | inl first ↦ let same : b ≡ 32 = eqb-true b 32 first in rw same refl
        | inr second ↦ let same : b ≡ 9 = eqb-true b 9 second in rw same refl
      ]
    ]

blank_no_newline : (b : ℕ) → is_blank b ≡ true → is_newline b ≡ false
blank_no_newline b h = grind (arith, nat_tests)

-- after a byte of white space
blank_ready : (s : Scan) (d b : ℕ) (bs : List ℕ) → Ready s d (b ∷ bs) → is_blank b ≡ true → Ready (next s b) d bs × (is_ended (next s b).inside ≡ true → ⊥)
blank_ready s d b bs (acts f) h =
    let m = f b bs refl in
    let here : IsAt (next s b) Plain d = subst (λ t. IsAt t Plain d) (sym (m.1 ∙ blank_step d m.0 b h)) (stands Plain d m.0) in
    (ready_plain (next s b) d bs here, not_ended (next s b) Plain d here refl)
blank_ready s d b bs (comments i blank) h =
    let other = blank_no_newline b h in
    let here : IsAt (next s b) Comment d = moves s Comment Comment d b i (λ k. rw other refl) in
    (comments here (and_parts (is_blank b) (list_all is_blank (take (prefix_len (λ c. not (is_newline c)) bs) bs)) (rw (other, one-add) at blank)).1, not_ended (next s b) Comment d here refl)

inner_newline : (d : ℕ) (k : LineKind) → 0 < d → outside d k 10 ≡ at Plain d k
inner_newline d k h = let some = not_zero d h in rw some refl
  where
    not_zero : (d : ℕ) → 0 < d → (d == 0) ≡ false
    not_zero d h = grind (arith, nat_tests)

-- what is known after a gap
pub record AfterGap (s : Scan) (d : ℕ) (rest g : List ℕ) : Type 0 where
  pub ready : Ready s d rest
  pub ended : is_ended s.inside ≡ true → g ≡ []

run_none : (g : List ℕ) (s : Scan) → g ≡ [] → s ≡ run s g
run_none [] s e = refl
run_none (b ∷ bs) s e = absurd (not_nil e)
  where
    not_nil : b ∷ bs ≡ [] → ⊥
    not_nil e = cc

mutual
  -- over a gap
  pub gap_run : (inside : Bool) (g rest : List ℕ) (s : Scan) (d : ℕ) → (inside ≡ true → 0 < d) → is_gap inside g ≡ true → Ready s d (g ++ rest) → AfterGap (run s g) d rest g
  gap_run inside [] rest s d deep h ready = record { ready = ready; ended = λ e. refl }
  gap_run inside (b ∷ bs) rest s d deep h ready = elim (cases_Bool (is_white inside b)) [
    | inl white ↦
        let more = rw white at (sym (gap_step inside b bs) ∙ h) in
        elim (or_cases (is_blank b) (inside && b == 10) white) [
          | inl blank ↦
              let here = blank_ready s d b (bs ++ rest) ready blank in
              let r = gap_run inside bs rest (next s b) d deep more here.0 in
              record { ready = r.ready; ended = λ e. absurd (here.1 (ap (λ t. is_ended t.inside) (run_none bs (next s b) (r.ended e)) ∙ e)) }
          | inr line ↦
              let parts = and_parts inside (b == 10) line in
              let same : b ≡ 10 = eqb-true b 10 parts.1 in
              let visible : is_blank b ≡ false = ap is_blank same in
              let m = ready_first s d b (bs ++ rest) ready visible in
              let here : IsAt (next s b) Plain d = subst (λ t. IsAt t Plain d) (sym (m.1 ∙ ap (outside d m.0) same ∙ inner_newline d m.0 (deep parts.0))) (stands Plain d m.0) in
              let r = gap_run inside bs rest (next s b) d deep more (ready_plain (next s b) d (bs ++ rest) here) in
              record { ready = r.ready; ended = λ e. absurd (not_ended (next s b) Plain d here refl (ap (λ t. is_ended t.inside) (run_none bs (next s b) (r.ended e)) ∙ e)) }
        ]
    | inr other ↦
        let parts = and_parts (b == 92) (continues_gap inside bs) (rw other at (sym (gap_step inside b bs) ∙ h)) in
        let same : b ≡ 92 = eqb-true b 92 parts.0 in
        let visible : is_blank b ≡ false = ap is_blank same in
        let m = ready_first s d b (bs ++ rest) ready visible in
        let here : IsAt (next s b) Backslash d = subst (λ t. IsAt t Backslash d) (sym (m.1 ∙ ap (outside d m.0) same)) (stands Backslash d m.0) in
        let r = continued_run inside bs rest (next s b) d deep parts.1 here in
        record { ready = r.0; ended = λ e. absurd (r.1 e) }
  ]

  continued_run : (inside : Bool) (g rest : List ℕ) (s : Scan) (d : ℕ) → (inside ≡ true → 0 < d) → continues_gap inside g ≡ true → IsAt s Backslash d → Ready (run s g) d rest × (is_ended (run s g).inside ≡ true → ⊥)
  continued_run inside [] rest s d deep h i = absurd (false≢true h)
  continued_run inside (b ∷ bs) rest s d deep h i = elim (cases_Bool (b == 13)) [
    | inl return ↦
        let same : b ≡ 13 = eqb-true b 13 return in
        fed_run inside bs rest (next s b) d deep (rw (return, continues_gap) at h) (moves s Backslash BackslashReturn d b i (λ k. rw same refl))
    | inr other ↦
        let parts = and_parts (b == 10) (is_gap inside bs) (rw (other, continues_gap) at h) in
        let same : b ≡ 10 = eqb-true b 10 parts.0 in
        let here = moves s Backslash Plain d b i (λ k. rw same refl) in
        let r = gap_run inside bs rest (next s b) d deep parts.1 (ready_plain (next s b) d (bs ++ rest) here) in
        (r.ready, λ e. not_ended (next s b) Plain d here refl (ap (λ t. is_ended t.inside) (run_none bs (next s b) (r.ended e)) ∙ e))
  ]

  fed_run : (inside : Bool) (g rest : List ℕ) (s : Scan) (d : ℕ) → (inside ≡ true → 0 < d) → feeds_gap inside g ≡ true → IsAt s BackslashReturn d → Ready (run s g) d rest × (is_ended (run s g).inside ≡ true → ⊥)
  fed_run inside [] rest s d deep h i = absurd (false≢true h)
  fed_run inside (b ∷ bs) rest s d deep h i =
      let parts = and_parts (b == 10) (is_gap inside bs) h in
      let same : b ≡ 10 = eqb-true b 10 parts.0 in
      let here = moves s BackslashReturn Plain d b i (λ k. rw same refl) in
      let r = gap_run inside bs rest (next s b) d deep parts.1 (ready_plain (next s b) d (bs ++ rest) here) in
      (r.ready, λ e. not_ended (next s b) Plain d here refl (ap (λ t. is_ended t.inside) (run_none bs (next s b) (r.ended e)) ∙ e))

-- a token's first byte is no white space
visible_first : (c : Class) (b : ℕ) → class_of b ≡ c → (kind : Kind) → can_start kind c ≡ true → is_blank b ≡ false
visible_first c b is kind h = elim (cases_Bool (is_blank b)) [
  | inr miss ↦ miss
  | inl hit ↦ absurd (nothing_unknown kind (ap (can_start kind) (sym (blank_class b hit)) ∙ ap (can_start kind) is ∙ h))
]

pub visible : (kind : Kind) (b : ℕ) (bs : List ℕ) → is_text kind (b ∷ bs) ≡ true → is_blank b ≡ false
visible kind b bs is = visible_first (class_of b) b refl kind (text_class kind b bs is)

open_same : (opened : List ℕ) (b : ℕ) (bs : List ℕ) → is_opening_bracket b ≡ false → is_closing_bracket b ≡ false → open_after_token opened (b ∷ bs) ≡ opened
open_same opened b [] o c = rw (o, c) refl
open_same opened b (d ∷ bs) o c = refl

word_no_opening : (b : ℕ) → is_word_byte b ≡ true → is_opening_bracket b ≡ false
word_no_opening b h = grind (arith, nat_tests)

word_no_closing : (b : ℕ) → is_word_byte b ≡ true → is_closing_bracket b ≡ false
word_no_closing b h = grind (arith, nat_tests)

-- what is known after a token
pub record AfterToken (s : Scan) (d : ℕ) (kind : Kind) (after : List ℕ) : Type 0 where
  pub ready : Ready s d after
  pub ended : is_ended s.inside ≡ true → is_line kind ≡ true

after_plain : (s : Scan) (d : ℕ) (kind : Kind) (after : List ℕ) → IsAt s Plain d → AfterToken s d kind after
after_plain s d kind after h = record { ready = ready_plain s d after h; ended = λ e. absurd (not_ended s Plain d h refl e) }

same_depth : (s : Scan) (d e : ℕ) (kind : Kind) (after : List ℕ) → d ≡ e → AfterToken s d kind after → AfterToken s e kind after
same_depth s d e kind after same h = subst (λ n. AfterToken s n kind after) same h

-- over letters, digits and underscores
words_token : (kind : Kind) (s : Scan) (opened : List ℕ) (b : ℕ) (bs after : List ℕ) → list_all is_word_byte (b ∷ bs) ≡ true → (k : LineKind) × (next s b ≡ outside (length opened) k b) → AfterToken (run s (b ∷ bs)) (length (open_after_token opened (b ∷ bs))) kind after
words_token kind s opened b bs after all m =
    let parts = and_parts (is_word_byte b) (list_all is_word_byte bs) all in
    let here : IsAt (next s b) Plain (length opened) = subst (λ t. IsAt t Plain (length opened)) (sym (m.1 ∙ word_step (length opened) m.0 b parts.0)) (stands Plain (length opened) Statement) in
    same_depth (run s (b ∷ bs)) (length opened) _ kind after (ap length (sym (open_same opened b bs (word_no_opening b parts.0) (word_no_closing b parts.0))))
    (after_plain (run s (b ∷ bs)) (length opened) kind after (words_run bs (next s b) (length opened) here parts.1))

-- bytes of operators
abbrev pub is_operator_plain : ℕ → Bool
is_operator_plain b = not (b == 10 || b == 32 || b == 9 || b == 13 || b == 35 || b == 92 || b == 34 || b == 39)

abbrev pub is_plain_operator : List ℕ → Bool
is_plain_operator text = list_all is_operator_plain text && list_all (λ b. not (is_bracket_byte b)) (drop 1 text)

pub operator_plain : (text : List ℕ) → is_operator_text text ≡ true → is_plain_operator text ≡ true
unfolding operators
operator_plain text is = one_of is_plain_operator operators text refl is

-- a bracket, or another byte of an operator
operator_step : (d : ℕ) (k : LineKind) (b : ℕ) → is_operator_plain b ≡ true → outside d k b ≡ (if is_opening_bracket b then at Plain (d + 1) Statement else (if is_closing_bracket b then at Plain (d - 1) Statement else at Plain d Statement))
operator_step d k b h =
    let p39 = or_parts (b == 10 || b == 32 || b == 9 || b == 13 || b == 35 || b == 92 || b == 34) (b == 39) (not-true _ h) in
    let p34 = or_parts (b == 10 || b == 32 || b == 9 || b == 13 || b == 35 || b == 92) (b == 34) p39.0 in
    let p92 = or_parts (b == 10 || b == 32 || b == 9 || b == 13 || b == 35) (b == 92) p34.0 in
    let p35 = or_parts (b == 10 || b == 32 || b == 9 || b == 13) (b == 35) p92.0 in
    let p13 = or_parts (b == 10 || b == 32 || b == 9) (b == 13) p35.0 in
    let p9 = or_parts (b == 10 || b == 32) (b == 9) p13.0 in
    let p32 = or_parts (b == 10) (b == 32) p9.0 in
    let n39 = p39.1 in
    let n34 = p34.1 in
    let n92 = p92.1 in
    let n35 = p35.1 in
    let n13 = p13.1 in
    let n9 = p9.1 in
    let n32 = p32.1 in
    let n10 = p32.0 in
    simp (n10, n32, n9, n13, n35, n92, n34, n39)

operators_run : (xs : List ℕ) (s : Scan) (d : ℕ) → IsAt s Plain d → list_all is_operator_plain xs ≡ true → list_all (λ b. not (is_bracket_byte b)) xs ≡ true → IsAt (run s xs) Plain d
operators_run [] s d h all none = h
operators_run (x ∷ xs) s d h all none =
    let p = and_parts (is_operator_plain x) (list_all is_operator_plain xs) all in
    let q = and_parts (not (is_bracket_byte x)) (list_all (λ b. not (is_bracket_byte b)) xs) none in
    let brackets = or_parts (is_opening_bracket x) (is_closing_bracket x) (not-true _ q.0) in
    let o = brackets.0 in
    let c = brackets.1 in
    let m = step_from s Plain d x h in
    let plain : (if is_opening_bracket x then at Plain (d + 1) Statement else (if is_closing_bracket x then at Plain (d - 1) Statement else at Plain d Statement)) ≡ at Plain d Statement = rw (o, c) refl in
    operators_run xs (next s x) d (subst (λ t. IsAt t Plain d) (sym (m.1 ∙ operator_step d m.0 x p.0 ∙ plain)) (stands Plain d Statement)) p.1 q.1

dropped : (xs : List ℕ) → length (drop 1 xs) ≡ length xs - 1
dropped [] = omega arith
dropped (x ∷ xs) = omega arith

operator_token_run : (s : Scan) (opened : List ℕ) (b : ℕ) (bs after : List ℕ) → is_operator_text (b ∷ bs) ≡ true → (k : LineKind) × (next s b ≡ outside (length opened) k b) → AfterToken (run s (b ∷ bs)) (length (open_after_token opened (b ∷ bs))) Operator after
operator_token_run s opened b bs after is m =
    let parts = and_parts (list_all is_operator_plain (b ∷ bs)) (list_all (λ x. not (is_bracket_byte x)) bs) (operator_plain (b ∷ bs) is) in
    let plain = and_parts (is_operator_plain b) (list_all is_operator_plain bs) parts.0 in
    let step = m.1 ∙ operator_step (length opened) m.0 b plain.0 in
    after_plain (run s (b ∷ bs)) (length (open_after_token opened (b ∷ bs))) Operator after (operators_run bs (next s b) (length (open_after_token opened (b ∷ bs))) (first bs is step) plain.1 parts.1)
  where
    first : (bs : List ℕ) → is_operator_text (b ∷ bs) ≡ true → next s b ≡ (if is_opening_bracket b then at Plain (length opened + 1) Statement else (if is_closing_bracket b then at Plain (length opened - 1) Statement else at Plain (length opened) Statement)) → IsAt (next s b) Plain (length (open_after_token opened (b ∷ bs)))
    first [] is step = elim (cases_Bool (is_opening_bracket b)) [
      | inl o ↦ rw o (subst (λ t. IsAt t Plain (suc (length opened))) (sym (step ∙ rw (o, add-one) refl)) (stands Plain (suc (length opened)) Statement))
      | inr n ↦ elim (cases_Bool (is_closing_bracket b)) [
        | inl c ↦ rw (n, c) (subst (λ t. IsAt t Plain (length (drop 1 opened))) (sym (step ∙ rw (n, c, ← dropped opened) refl)) (stands Plain (length (drop 1 opened)) Statement))
        | inr o ↦ rw (n, o) (subst (λ t. IsAt t Plain (length opened)) (sym (step ∙ rw (n, o) refl)) (stands Plain (length opened) Statement))
      ]
    ]
    first (c ∷ cs) is step =
        let none = or_parts (is_opening_bracket b) (is_closing_bracket b) (no_bracket Operator b c cs is) in
        let n = none.0 in
        let o = none.1 in
        subst (λ t. IsAt t Plain (length opened)) (sym (step ∙ rw (n, o) refl)) (stands Plain (length opened) Statement)

comment_run : (xs : List ℕ) (s : Scan) (d : ℕ) → IsAt s Comment d → list_any is_newline xs ≡ false → IsAt (run s xs) Comment d
comment_run [] s d h none = h
comment_run (x ∷ xs) s d h none =
    let p = or_parts (is_newline x) (list_any is_newline xs) none in
    let other = p.0 in
    comment_run xs (next s x) d (moves s Comment Comment d x h (λ k. rw other refl)) p.1

comment_token_run : (s : Scan) (opened : List ℕ) (b : ℕ) (bs after : List ℕ) → IsToken CommentToken (b ∷ bs) after → (k : LineKind) × (next s b ≡ outside (length opened) k b) → AfterToken (run s (b ∷ bs)) (length (open_after_token opened (b ∷ bs))) CommentToken after
comment_token_run s opened b bs after token m =
    let parts = comment_parts (b ∷ bs) token.whole in
    let same : b ≡ 35 = eqb-true b 35 parts.0 in
    let here : IsAt (next s b) Comment (length opened) = subst (λ t. IsAt t Comment (length opened)) (sym (m.1 ∙ ap (outside (length opened) m.0) same)) (stands Comment (length opened) (with_comment m.0)) in
    let end = comment_run bs (next s b) (length opened) here (or_parts (is_newline b) (list_any is_newline bs) parts.1).1 in
    same_depth (run s (b ∷ bs)) (length opened) _ CommentToken after (ap length (sym (open_same opened b bs (ap is_opening_bracket same) (ap is_closing_bracket same))))
    (record { ready = comments end (token_ends CommentToken (b ∷ bs) after token); ended = λ e. absurd (not_ended (run s (b ∷ bs)) Comment (length opened) end refl e) })

line_token_run : (depth : ℕ) (s : Scan) (opened : List ℕ) (b : ℕ) (bs after : List ℕ) → is_text Newline (b ∷ bs) ≡ true → fits depth opened Newline (b ∷ bs) ≡ true → (k : LineKind) × (next s b ≡ outside (length opened) k b) → AfterToken (run s (b ∷ bs)) (length (open_after_token opened (b ∷ bs))) Newline after
line_token_run depth s opened b bs after is fit m =
    let whole = same_bytes (b ∷ bs) (10 ∷ []) is in
    subst (λ t. AfterToken (run s t) (length (open_after_token opened t)) Newline after) (sym whole) (at_line opened (subst (λ t. fits depth opened Newline t ≡ true) whole fit) (m.0, first b whole m.1))
  where
    first : (b : ℕ) → b ∷ bs ≡ 10 ∷ [] → next s b ≡ outside (length opened) m.0 b → next s 10 ≡ outside (length opened) m.0 10
    first b e h = let same : b ≡ 10 = cc in subst (λ x. next s x ≡ outside (length opened) m.0 x) same h

    at_line : (opened : List ℕ) → fits depth opened Newline (10 ∷ []) ≡ true → (k : LineKind) × (next s 10 ≡ outside (length opened) k 10) → AfterToken (next s 10) (length (open_after_token opened (10 ∷ []))) Newline after
    at_line (a ∷ opened) fit m = absurd (false≢true fit)
    at_line [] fit m =
        let here : IsAt (next s 10) Ended 0 = subst (λ t. IsAt t Ended 0) (sym m.1) (stands Ended 0 m.0) in
        record { ready = acts (λ b bs e. (Blank, (step_from (next s 10) Ended 0 b here).1)); ended = λ e. refl }

-- what the cutter finds after the opening quote of a string
pub data Found (q : Quote) (d : ℕ) (inside : List ℕ) (long : Bool) (s : Scan) : Type 0 where
  plainly : IsAt s Plain d → Found q d inside long s
  twice : IsAt s (OpenedTwice q) d → length inside ≡ 1 → long ≡ false → Found q d inside long s

quoted_run : (q : Quote) (d : ℕ) (qs : List ℕ) (long : Bool) (s : Scan) → IsAt s (Opened q) d → are_two (byte_of q) qs ≡ long → closes (long_quotes q long) 0 Unescaped (drop (quote_count long - 1) qs) ≡ true → Found q d qs long (run s qs)
quoted_run q d [] true s h two closed = absurd (false≢true two)
quoted_run q d (a ∷ []) true s h two closed = absurd (false≢true (sym (and_none (a == byte_of q)) ∙ two))
  where
    and_none : (x : Bool) → (x && false) ≡ false
    and_none true = refl
    and_none false = refl
quoted_run q d (a ∷ b ∷ qs) true s h two closed =
    let p = and_parts (a == byte_of q) (b == byte_of q) two in
    let first = p.0 in
    let second = p.1 in
    let h1 = moves s (Opened q) (OpenedTwice q) d a h (λ k. rw first refl) in
    let h2 = moves (next s a) (OpenedTwice q) (Long q) d b h1 (λ k. rw second refl) in
    plainly (long_run q 0 d qs (next (next s a) b) (omega arith) h2 closed)
quoted_run q d [] false s h two closed = absurd (false≢true closed)
quoted_run q d (a ∷ qs) false s h two closed = elim (cases_Bool (a == byte_of q)) [
  | inl hit ↦
      let h1 = moves s (Opened q) (OpenedTwice q) d a h (λ k. rw hit refl) in
      ends qs (rw (hit, closes) at closed) h1
  | inr miss ↦
      let m = step_from s (Opened q) d a h in
      let step : next_in (Opened q) d m.0 a ≡ in_short q d m.0 a = rw (miss, next_in) refl in
      elim (short_step q d a qs (next s a) m.0 (m.1 ∙ step) closed) [
        | done e i ↦ plainly (empty_run qs (next s a) Plain d e i)
        | escape i c ↦ plainly (short_escaped q d qs (next s a) i c)
        | goes i c ↦ plainly (short_run q d qs (next s a) i c)
      ]
]
  where
    ends : (qs : List ℕ) → is_empty qs ≡ true → IsAt (next s a) (OpenedTwice q) d → Found q d (a ∷ qs) false (run (next s a) qs)
    ends [] e h = twice h refl refl
    ends (b ∷ bs) e h = absurd (false≢true e)

-- the prefix of a string, its quote and what is inside
pub record Parts (text : List ℕ) (o : Opening) : Type 0 where
  pub letters : List ℕ
  pub inside : List ℕ
  pub text_is : text ≡ letters ++ o.quotes.byte ∷ inside
  pub words : list_all is_word_byte letters ≡ true
  pub prefix : o.prefix ≡ length letters
  pub long : are_two o.quotes.byte inside ≡ o.quotes.long

parts_after : (n : ℕ) (letters ys : List ℕ) (o : Opening) → opens_after n ys ≡ Some o → length letters ≡ n → list_all is_word_byte letters ≡ true → Parts (letters ++ ys) o
parts_after n letters [] o h size words = absurd (none_some o h)
parts_after n letters (q ∷ qs) o h size words = elim (cases_Bool (is_quote q)) [
  | inr none ↦ absurd (none_some o (rw none at h))
  | inl is ↦
      let same : record { prefix = n; quotes = record { byte = q; long = are_two q qs } } ≡ o = some_same _ o (rw is at h) in
      subst (λ x. Parts (letters ++ q ∷ qs) x) same (record { letters = letters; inside = qs; text_is = refl; words = words; prefix = sym size; long = refl })
]
  where
    some_same : (a b : Opening) → Some a ≡ Some b → a ≡ b
    some_same a b e = cc

pub string_parts : (text : List ℕ) (o : Opening) → opening text ≡ Some o → Parts text o
string_parts [] o h = absurd (none_some o h)
string_parts (a ∷ bs) o h =
    elim (cases_Bool (a == 114)) [
      | inl r ↦ prefixed_r bs r h
      | inr no_r ↦ elim (cases_Bool (a == 98)) [
        | inl b ↦ prefixed_b bs no_r b h
        | inr no_b ↦ parts_after 0 [] (a ∷ bs) o (sym (opens_plain a bs no_r no_b) ∙ h) refl refl
      ]
    ]
  where
    is_word : (c e : ℕ) → (c == e) ≡ true → is_word_byte e ≡ true → is_word_byte c ≡ true
    is_word c e same w = ap is_word_byte (eqb-true c e same) ∙ w

    one_word : is_word_byte a ≡ true → list_all is_word_byte (a ∷ []) ≡ true
    one_word w = rw w refl

    two_words : (c : ℕ) → is_word_byte a ≡ true → is_word_byte c ≡ true → list_all is_word_byte (a ∷ c ∷ []) ≡ true
    two_words c w v = rw (w, v) refl

    prefixed_r : (bs : List ℕ) → (a == 114) ≡ true → opening (a ∷ bs) ≡ Some o → Parts (a ∷ bs) o
    prefixed_r [] r h = absurd (none_some o (sym (opens_r a [] r refl) ∙ h))
    prefixed_r (c ∷ cs) r h = elim (cases_Bool (c == 98)) [
      | inl b ↦ parts_after 2 (a ∷ c ∷ []) cs o (sym (opens_rb a c cs r b) ∙ h) refl (two_words c (is_word a 114 r refl) (is_word c 98 b refl))
      | inr no_b ↦ parts_after 1 (a ∷ []) (c ∷ cs) o (sym (opens_r a (c ∷ cs) r no_b) ∙ h) refl (one_word (is_word a 114 r refl))
    ]

    prefixed_b : (bs : List ℕ) → (a == 114) ≡ false → (a == 98) ≡ true → opening (a ∷ bs) ≡ Some o → Parts (a ∷ bs) o
    prefixed_b [] no_r b h = absurd (none_some o (sym (opens_b a [] no_r b refl) ∙ h))
    prefixed_b (c ∷ cs) no_r b h = elim (cases_Bool (c == 114)) [
      | inl r ↦ parts_after 2 (a ∷ c ∷ []) cs o (sym (opens_br a c cs no_r b r) ∙ h) refl (two_words c (is_word a 98 b refl) (is_word c 114 r refl))
      | inr none ↦ parts_after 1 (a ∷ []) (c ∷ cs) o (sym (opens_b a (c ∷ cs) no_r b none) ∙ h) refl (one_word (is_word a 98 b refl))
    ]

-- over a string's prefix
pub letters_run : (letters : List ℕ) (q : Quote) (s : Scan) (d : ℕ) → list_all is_word_byte letters ≡ true → ((b : ℕ) (bs : List ℕ) → letters ++ byte_of q ∷ [] ≡ b ∷ bs → (k : LineKind) × (next s b ≡ outside d k b)) → IsAt (run s (letters ++ byte_of q ∷ [])) (Opened q) d
letters_run [] q s d words first =
    let m = first (byte_of q) [] refl in
    subst (λ t. IsAt t (Opened q) d) (sym (m.1 ∙ quote_step q d m.0)) (stands (Opened q) d Statement)
letters_run (a ∷ letters) q s d words first =
    let p = and_parts (is_word_byte a) (list_all is_word_byte letters) words in
    let m = first a (letters ++ byte_of q ∷ []) refl in
    let here : IsAt (next s a) Plain d = subst (λ t. IsAt t Plain d) (sym (m.1 ∙ word_step d m.0 a p.0)) (stands Plain d Statement) in
    letters_run letters q (next s a) d p.1 (λ b bs e. step_from (next s a) Plain d b here)

text_no_bracket : (b : ℕ) (bs : List ℕ) → is_text String (b ∷ bs) ≡ true → is_bracket_byte b ≡ false
text_no_bracket b bs is = elim (cases_Bool (is_bracket_byte b)) [
  | inr miss ↦ miss
  | inl hit ↦ absurd (false≢true (ap (can_start String) (sym (bracket_class b hit)) ∙ text_class String b bs is))
]

-- after an empty short string no third quote stands
no_third : (q : Quote) (text after : List ℕ) (o : Opening) → IsToken String text after → opening text ≡ Some o → o.quotes.byte ≡ byte_of q → o.quotes.long ≡ false → length text ≡ o.prefix + 2 → (b : ℕ) (bs : List ℕ) → after ≡ b ∷ bs → (b == byte_of q) ≡ false
no_third q text after o token opens byte short size b bs e = elim (cases_Bool (b == byte_of q)) [
  | inr miss ↦ miss
  | inl hit ↦
      let stop = subst (λ x. stops_at String text x ≡ true) e (token_ends String text after token) in
      let here = (Decides-eqb (length text) (o.prefix + 2)).1 size in
      let same : (b == o.quotes.byte) ≡ true = ap (λ x. b == x) byte ∙ hit in
      let third : is_empty_string (opening text) text b ≡ true = ap (λ x. is_empty_string x text b) opens ∙ rw (short, here, same) refl in
      absurd (false≢true (sym (rw third refl) ∙ stop))
]

string_token_run : (s : Scan) (opened : List ℕ) (b : ℕ) (bs after : List ℕ) → IsToken String (b ∷ bs) after → (k : LineKind) × (next s b ≡ outside (length opened) k b) → AfterToken (run s (b ∷ bs)) (length (open_after_token opened (b ∷ bs))) String after
string_token_run s opened b bs after token m =
    let text = b ∷ bs in
    let d = length opened in
    let found = string_opens text token.whole in
    let o = found.0 in
    let parts = string_parts text o found.1 in
    let quote = quote_of o.quotes.byte (opening_facts text o found.1).quoted in
    let q = quote.0 in
    let whole : text ≡ (parts.letters ++ byte_of q ∷ []) ++ parts.inside = parts.text_is ∙ ap (λ x. parts.letters ++ x ∷ parts.inside) quote.1 ∙ sym (append_assoc parts.letters (byte_of q ∷ []) parts.inside) in
    let quotes : o.quotes ≡ long_quotes q o.quotes.long = λ i. record { byte = quote.1 i; long = o.quotes.long } in
    let s1 = run s (parts.letters ++ byte_of q ∷ []) in
    let opened_at : IsAt s1 (Opened q) d = letters_run parts.letters q s d parts.words (λ c cs e. first c (parts.letters ++ byte_of q ∷ []) parts.inside (sym whole) cs e) in
    let tail : drop (opening_length o) text ≡ drop (quote_count o.quotes.long - 1) parts.inside = ap (λ n. drop (n + quote_count o.quotes.long) text) parts.prefix ∙ ap (drop (length parts.letters + quote_count o.quotes.long)) parts.text_is ∙ drop-append-add parts.letters (o.quotes.byte ∷ parts.inside) (quote_count o.quotes.long) ∙ after_quote o.quotes.long o.quotes.byte parts.inside in
    let closed : closes (long_quotes q o.quotes.long) 0 Unescaped (drop (quote_count o.quotes.long - 1) parts.inside) ≡ true = ap₂ (λ x y. closes x 0 Unescaped y) (sym quotes) (sym tail) ∙ found.2 in
    let end : Found q d parts.inside o.quotes.long (run s1 parts.inside) = quoted_run q d parts.inside o.quotes.long s1 opened_at (ap (λ x. are_two x parts.inside) (sym quote.1) ∙ parts.long) closed in
    let brackets = or_parts (is_opening_bracket b) (is_closing_bracket b) (text_no_bracket b bs token.whole) in
    same_depth (run s text) d _ String after (ap length (sym (open_same opened b bs brackets.0 brackets.1)))
    (subst (λ t. AfterToken t d String after) (sym (ap (run s) whole ∙ run_append (parts.letters ++ byte_of q ∷ []) parts.inside s))
    (elim end [
      | plainly h ↦ after_plain (run s1 parts.inside) d String after h
      | twice h one short ↦
          let size : length text ≡ o.prefix + 2 = omega (arith, ap length parts.text_is, length-append parts.letters (o.quotes.byte ∷ parts.inside), one, parts.prefix) in
          record {
            ready = acts (λ c cs e.
                let m2 = step_from (run s1 parts.inside) (OpenedTwice q) d c h in
                let other = no_third q text after o token found.1 quote.1 short size c cs e in
                let step : next_in (OpenedTwice q) d m2.0 c ≡ outside d m2.0 c = rw (other, next_in) refl in
                (m2.0, m2.1 ∙ step));
            ended = λ e. absurd (not_ended (run s1 parts.inside) (OpenedTwice q) d h refl e);
          }
    ]))
  where
    first : (c : ℕ) (ys inside : List ℕ) → ys ++ inside ≡ b ∷ bs → (cs : List ℕ) → ys ≡ c ∷ cs → (k : LineKind) × (next s c ≡ outside (length opened) k c)
    first c ys inside whole cs e =
        let head : (c ∷ cs) ++ inside ≡ b ∷ bs = ap (λ x. x ++ inside) (sym e) ∙ whole in
        let same : b ≡ c = cc in
        (m.0, subst (λ x. next s x ≡ outside (length opened) m.0 x) same m.1)

    after_quote : (long : Bool) (x : ℕ) (xs : List ℕ) → drop (quote_count long) (x ∷ xs) ≡ drop (quote_count long - 1) xs
    after_quote true x xs = refl
    after_quote false x xs = refl

-- over a token
pub token_run : (depth : ℕ) (s : Scan) (opened : List ℕ) (kind : Kind) (text after : List ℕ) → IsToken kind text after → fits depth opened kind text ≡ true → Ready s (length opened) (text ++ after) → AfterToken (run s text) (length (open_after_token opened text)) kind after
token_run depth s opened kind [] after token fit ready = absurd (empty_no_text kind token.whole)
token_run depth s opened kind (b ∷ bs) after token fit ready = by_kind kind token fit (ready_first s (length opened) b (bs ++ after) ready (visible kind b bs token.whole))
  where
    name_words : is_name (b ∷ bs) ≡ true → list_all is_word_byte (b ∷ bs) ≡ true
    name_words name = (and_parts (not (is_ascii_digit b)) (list_all is_word_byte (b ∷ bs)) name).1

    by_kind : (kind : Kind) → IsToken kind (b ∷ bs) after → fits depth opened kind (b ∷ bs) ≡ true → (k : LineKind) × (next s b ≡ outside (length opened) k b) → AfterToken (run s (b ∷ bs)) (length (open_after_token opened (b ∷ bs))) kind after
    by_kind Identifier token fit m = words_token Identifier s opened b bs after (name_words (and_parts (is_name (b ∷ bs)) (not (is_keyword (b ∷ bs))) token.whole).0) m
    by_kind Keyword token fit m = words_token Keyword s opened b bs after (name_words (keyword_name (b ∷ bs) token.whole)) m
    by_kind Integer token fit m = words_token Integer s opened b bs after (number_words (b ∷ bs) token.whole) m
    by_kind String token fit m = string_token_run s opened b bs after token m
    by_kind Operator token fit m = operator_token_run s opened b bs after token.whole m
    by_kind Newline token fit m = line_token_run depth s opened b bs after token.whole fit m
    by_kind CommentToken token fit m = comment_token_run s opened b bs after token m
    by_kind Kept token fit m = absurd (false≢true token.whole)

some_open : (opened : List ℕ) → is_inside opened ≡ true → 0 < length opened
some_open [] h = absurd (false≢true h)
some_open (a ∷ opened) h = omega arith

-- Where the cutter stands at the end of a logical line, and the tokens of the bytes can be read, the last of them is a Line
-- token that ends the bytes.
pub reading_run : (depth : ℕ) (opened : List ℕ) (ps : List Piece) (rest bytes : List ℕ) (s : Scan) → IsReading depth opened ps rest bytes → is_gap (is_inside (open_after opened ps)) rest ≡ true → Ready s (length opened) bytes → is_ended (run s bytes).inside ≡ true
    → (rest ≡ []) × (ends_in_line ps ≡ true) × (ps ≡ [] → is_ended s.inside ≡ true)
reading_run depth opened [] rest bytes s r gap ready ended =
    let g = gap_run (is_inside opened) rest [] s (length opened) (some_open opened) gap (subst (λ x. Ready s (length opened) x) (r ∙ sym (append-nil rest)) ready) in
    let none = g.ended (subst (λ x. is_ended (run s x).inside ≡ true) r ended) in
    (none, refl, λ e. subst (λ x. is_ended (run s x).inside ≡ true) (r ∙ none) ended)
reading_run depth opened (p ∷ ps) rest bytes s r gap ready ended =
    let piece = r.1 in
    let after = r.0 in
    let g = gap_run (is_inside opened) p.gap (p.text ++ after) s (length opened) (some_open opened) piece.gap (subst (λ x. Ready s (length opened) x) piece.bytes_are ready) in
    let t = token_run depth (run s p.gap) opened p.kind p.text after piece.token piece.fits g.ready in
    let all : run s bytes ≡ run (run (run s p.gap) p.text) after = ap (run s) piece.bytes_are ∙ run_append p.gap (p.text ++ after) s ∙ run_append p.text after (run s p.gap) in
    let more = reading_run depth (open_after_token opened p.text) ps rest after (run (run s p.gap) p.text) r.2 gap t.ready (ap (λ x. is_ended x.inside) (sym all) ∙ ended) in
    (more.0, last ps more.1 (λ e. t.ended (more.2 e)), λ e. absurd (not_nil e))
  where
    not_nil : p ∷ ps ≡ [] → ⊥
    not_nil e = cc

    last : (ps : List Piece) → ends_in_line ps ≡ true → (ps ≡ [] → is_line p.kind ≡ true) → ends_in_line (p ∷ ps) ≡ true
    last [] h line = line refl
    last (q ∷ qs) h line = h

pub lines_from : (first depth : ℕ) (bytes : List ℕ) (ts : List Placed) → AreTokensOf first depth bytes ts → is_ended (run start bytes).inside ≡ true → AreLinesOf first depth bytes ts
lines_from first depth bytes ts a ended =
    let end = reading_run depth [] a.0 a.1 bytes start a.2 (ap (λ o. is_gap (is_inside o) a.1) a.4 ∙ a.3) (ready_plain start 0 bytes (stands Plain 0 Blank)) ended in
    (a.0, subst (λ x. IsReading depth [] a.0 x bytes) end.0 a.2, a.4, end.1, a.5)
