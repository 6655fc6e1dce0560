-- Within a string that closes later no logical line ends.
use Rattle.std.proofs.Common.{◌≡◌, ℕ, zero, suc, ◌+◌, ◌-◌, ◌≤◌, ◌==◌, ◌&&◌, List, [], ◌∷◌, ◌++◌, length, drop, Bool, true, false, refl, sym, ap, ap₂, ◌∙◌, arith, inl, inr, append_assoc}
use Rattle.std.specs.Prelude.{Some}
use Rattle.std.proofs.lemmas.Bool.{cases_Bool, and_parts, false≢true, eqb-true}
use Rattle.std.proofs.Math.Seq.{drop-append-add}
use Rattle.std.proofs.lemmas.Bool.Decides.{nat_tests}
use Rattle.bz_token.specs.declared.scan_string.Escape.TheVariants.{Unescaped, AfterBackslash, AfterReturn}
use Rattle.bz_token.specs.declared.scan_string.Opening.{Opening}
use Rattle.bz_token.specs.declared.cutter.scan.Quote.{Quote}
use Rattle.bz_token.specs.declared.cutter.scan.LineKind.{LineKind}
use Rattle.bz_token.specs.declared.cutter.scan.CutState.TheVariants.{Opened, OpenedTwice, Short, ShortEscape, ShortEscapeReturn, Long, LongQuote, LongEscape}
use Rattle.bz_token.specs.declared.cutter.scan.Scan.{Scan}
use Rattle.bz_token.specs.private.CutSteps.{is_ended, byte_of, at, outside, in_short, next_in, next, run}
use Rattle.bz_token.specs.Strings.{quote_count, are_two, is_string, opening}
use Rattle.bz_token.specs.private.Closing.{closes, opening_length}
use Rattle.bz_token.proofs.CutMachine.{run_append}
use Rattle.bz_token.proofs.Openings.{opening_facts}
use Rattle.bz_token.proofs.Ends.{string_opens}
use Rattle.bz_token.proofs.Agree.{IsAt, step_from, long_state, long_quotes, row_target, quote_plain, no_newline, long_next, in_long_quote, in_long_escape, in_long_plain, moves, unescaped, done, escape, goes, short_step, quote_of, not_ended, string_parts, letters_run}
use Rattle.bz_token.specs.Common.{is_empty}

not_empty : (xs : List ℕ) (m : ℕ) (more : List ℕ) → is_empty (xs ++ m ∷ more) ≡ true → ⊥
not_empty [] m more e = false≢true e
not_empty (x ∷ xs) m more e = false≢true e

long_open : (q : Quote) (row : ℕ) → is_ended (long_state q row Unescaped) ≡ false
long_open q zero = refl
long_open q (suc zero) = refl
long_open q (suc (suc row)) = refl

next_row : (q : Quote) (row : ℕ) → row ≤ 2 → (row + 1 == 3) ≡ false → row_target q row ≡ long_state q (row + 1) Unescaped
next_row q zero fits e = refl
next_row q (suc zero) fits e = refl
next_row q (suc (suc zero)) fits e = absurd (false≢true (sym e))
next_row q (suc (suc (suc row))) fits e = absurd (omega arith)

room : (row : ℕ) → row ≤ 2 → (row + 1 == 3) ≡ false → row + 1 ≤ 2
room row fits e = grind (arith, nat_tests)

mutual
  -- within a long string
  long_within : (q : Quote) (row d : ℕ) (xs : List ℕ) (m : ℕ) (more : List ℕ) (s : Scan) → row ≤ 2 → IsAt s (long_state q row Unescaped) d → closes (long_quotes q true) row Unescaped (xs ++ m ∷ more) ≡ true → is_ended (run s xs).inside ≡ true → ⊥
  long_within q row d [] m more s fits h closed ended = not_ended s (long_state q row Unescaped) d h (long_open q row) ended
  long_within q row d (x ∷ xs) m more s fits h closed ended =
      elim (cases_Bool (x == byte_of q)) [
        | inl hit ↦
            let slash = quote_plain q x hit in
            elim (cases_Bool (row + 1 == 3)) [
              | inl last ↦ not_empty xs m more (rw (hit, last, closes) at closed)
              | inr on ↦
                  long_within q (row + 1) d xs m more (next s x) (room row fits on)
                  (moves s (long_state q row Unescaped) (long_state q (row + 1) Unescaped) d x h (λ k. long_next q row d k x ∙ in_long_quote (row_target q row) q d k x hit ∙ ap (λ t. at t d k) (next_row q row fits on)))
                  (rw (hit, on, slash, closes) at closed)
                  ended
            ]
        | inr miss ↦ elim (cases_Bool (x == 92)) [
          | inl slash ↦
              long_within_escape q d xs m more (next s x) (moves s (long_state q row Unescaped) (LongEscape q) d x h (λ k. long_next q row d k x ∙ in_long_escape (row_target q row) q d k x miss slash)) (rw (miss, slash, closes) at closed) ended
          | inr plain ↦
              long_within q 0 d xs m more (next s x) (omega arith) (moves s (long_state q row Unescaped) (Long q) d x h (λ k. long_next q row d k x ∙ in_long_plain (row_target q row) q d k x miss plain)) (rw (miss, plain, closes) at closed) ended
        ]
      ]

  long_within_escape : (q : Quote) (d : ℕ) (xs : List ℕ) (m : ℕ) (more : List ℕ) (s : Scan) → IsAt s (LongEscape q) d → closes (long_quotes q true) 0 AfterBackslash (xs ++ m ∷ more) ≡ true → is_ended (run s xs).inside ≡ true → ⊥
  long_within_escape q d [] m more s h closed ended = not_ended s (LongEscape q) d h refl ended
  long_within_escape q d (x ∷ xs) m more s h closed ended = elim (cases_Bool (x == 13)) [
    | inl return ↦ long_within_return q d xs m more (next s x) (moves s (LongEscape q) (Long q) d x h (λ k. refl)) (rw (return, closes) at closed) ended
    | inr other ↦ long_within q 0 d xs m more (next s x) (omega arith) (moves s (LongEscape q) (Long q) d x h (λ k. refl)) (rw (other, closes) at closed) ended
  ]

  long_within_return : (q : Quote) (d : ℕ) (xs : List ℕ) (m : ℕ) (more : List ℕ) (s : Scan) → IsAt s (Long q) d → closes (long_quotes q true) 0 AfterReturn (xs ++ m ∷ more) ≡ true → is_ended (run s xs).inside ≡ true → ⊥
  long_within_return q d [] m more s h closed ended = not_ended s (Long q) d h refl ended
  long_within_return q d (x ∷ xs) m more s h closed ended = elim (cases_Bool (x == 10)) [
    | inl feed ↦
        let same : x ≡ 10 = eqb-true x 10 feed in
        let miss : (x == byte_of q) ≡ false = ap (λ y. y == byte_of q) same ∙ no_newline q in
        let plain : (x == 92) ≡ false = ap (λ y. y == 92) same in
        long_within q 0 d xs m more (next s x) (omega arith) (moves s (Long q) (Long q) d x h (λ k. in_long_plain (LongQuote q) q d k x miss plain)) (rw (feed, plain, closes) at closed) ended
    | inr other ↦ elim (cases_Bool (x == byte_of q)) [
      | inl hit ↦
          let slash = quote_plain q x hit in
          long_within q 1 d xs m more (next s x) (omega arith) (moves s (Long q) (LongQuote q) d x h (λ k. in_long_quote (LongQuote q) q d k x hit)) (rw (other, hit, slash, closes) at closed) ended
      | inr miss ↦ elim (cases_Bool (x == 92)) [
        | inl slash ↦ long_within_escape q d xs m more (next s x) (moves s (Long q) (LongEscape q) d x h (λ k. in_long_escape (LongQuote q) q d k x miss slash)) (rw (other, miss, slash, closes) at closed) ended
        | inr plain ↦ long_within q 0 d xs m more (next s x) (omega arith) (moves s (Long q) (Long q) d x h (λ k. in_long_plain (LongQuote q) q d k x miss plain)) (rw (other, miss, plain, closes) at closed) ended
      ]
    ]
  ]

mutual
  -- within a short string
  short_within : (q : Quote) (d : ℕ) (xs : List ℕ) (m : ℕ) (more : List ℕ) (s : Scan) → IsAt s (Short q) d → closes (long_quotes q false) 0 Unescaped (xs ++ m ∷ more) ≡ true → is_ended (run s xs).inside ≡ true → ⊥
  short_within q d [] m more s h closed ended = not_ended s (Short q) d h refl ended
  short_within q d (x ∷ xs) m more s h closed ended =
      let t = step_from s (Short q) d x h in
      elim (short_step q d x (xs ++ m ∷ more) (next s x) t.0 t.1 closed) [
        | done e i ↦ not_empty xs m more e
        | escape i c ↦ short_within_escape q d xs m more (next s x) i c ended
        | goes i c ↦ short_within q d xs m more (next s x) i c ended
      ]

  short_within_escape : (q : Quote) (d : ℕ) (xs : List ℕ) (m : ℕ) (more : List ℕ) (s : Scan) → IsAt s (ShortEscape q) d → closes (long_quotes q false) 0 AfterBackslash (xs ++ m ∷ more) ≡ true → is_ended (run s xs).inside ≡ true → ⊥
  short_within_escape q d [] m more s h closed ended = not_ended s (ShortEscape q) d h refl ended
  short_within_escape q d (x ∷ xs) m more s h closed ended = elim (cases_Bool (x == 13)) [
    | inl return ↦ short_within_return q d xs m more (next s x) (moves s (ShortEscape q) (ShortEscapeReturn q) d x h (λ k. rw return refl)) (rw (return, closes) at closed) ended
    | inr other ↦ short_within q d xs m more (next s x) (moves s (ShortEscape q) (Short q) d x h (λ k. rw other refl)) (rw (other, closes) at closed) ended
  ]

  short_within_return : (q : Quote) (d : ℕ) (xs : List ℕ) (m : ℕ) (more : List ℕ) (s : Scan) → IsAt s (ShortEscapeReturn q) d → closes (long_quotes q false) 0 AfterReturn (xs ++ m ∷ more) ≡ true → is_ended (run s xs).inside ≡ true → ⊥
  short_within_return q d [] m more s h closed ended = not_ended s (ShortEscapeReturn q) d h refl ended
  short_within_return q d (x ∷ xs) m more s h closed ended = elim (cases_Bool (x == 10)) [
    | inl feed ↦
        let same : x ≡ 10 = eqb-true x 10 feed in
        let plain : (x == 92) ≡ false = ap (λ y. y == 92) same in
        short_within q d xs m more (next s x) (moves s (ShortEscapeReturn q) (Short q) d x h (λ k. rw feed refl)) (rw (feed, plain, closes) at closed) ended
    | inr other ↦
        let t = step_from s (ShortEscapeReturn q) d x h in
        let step : next_in (ShortEscapeReturn q) d t.0 x ≡ in_short q d t.0 x = rw other refl in
        elim (short_step q d x (xs ++ m ∷ more) (next s x) t.0 (t.1 ∙ step) (unescaped q x (xs ++ m ∷ more) other closed)) [
          | done e i ↦ not_empty xs m more e
          | escape i c ↦ short_within_escape q d xs m more (next s x) i c ended
          | goes i c ↦ short_within q d xs m more (next s x) i c ended
        ]
  ]

-- after the opening quote
quoted_within : (q : Quote) (d : ℕ) (qs : List ℕ) (m : ℕ) (more : List ℕ) (long : Bool) (s : Scan) → IsAt s (Opened q) d → are_two (byte_of q) qs ≡ long → closes (long_quotes q long) 0 Unescaped (drop (quote_count long - 1) (qs ++ m ∷ more)) ≡ true → is_ended (run s qs).inside ≡ true → ⊥
quoted_within q d [] m more long s h two closed ended = not_ended s (Opened q) d h refl ended
quoted_within q d (a ∷ []) m more true s h two closed ended = false≢true (sym (and_none (a == byte_of q)) ∙ two)
  where
    and_none : (x : Bool) → (x && false) ≡ false
    and_none true = refl
    and_none false = refl
quoted_within q d (a ∷ b ∷ qs) m more true s h two closed ended =
    let p = and_parts (a == byte_of q) (b == byte_of q) two in
    let first = p.0 in
    let second = p.1 in
    let h1 = moves s (Opened q) (OpenedTwice q) d a h (λ k. rw first refl) in
    let h2 = moves (next s a) (OpenedTwice q) (Long q) d b h1 (λ k. rw second refl) in
    long_within q 0 d qs m more (next (next s a) b) (omega arith) h2 closed ended
quoted_within q d (a ∷ qs) m more false s h two closed ended = elim (cases_Bool (a == byte_of q)) [
  | inl hit ↦ not_empty qs m more (rw (hit, closes) at closed)
  | inr miss ↦
      let t = step_from s (Opened q) d a h in
      let step : next_in (Opened q) d t.0 a ≡ in_short q d t.0 a = rw (miss, next_in) refl in
      elim (short_step q d a (qs ++ m ∷ more) (next s a) t.0 (t.1 ∙ step) closed) [
        | done e i ↦ not_empty qs m more e
        | escape i c ↦ short_within_escape q d qs m more (next s a) i c ended
        | goes i c ↦ short_within q d qs m more (next s a) i c ended
      ]
]

-- Where a string opens at a place and the cutter is ready, and the string closes after the place's end, no logical line ends there.
pub string_within : (place : List ℕ) (o : Opening) (m : ℕ) (more : List ℕ) (s : Scan) (d : ℕ) → opening place ≡ Some o → opening (place ++ m ∷ more) ≡ Some o → is_string (place ++ m ∷ more) ≡ true
    → ((b : ℕ) (bs : List ℕ) → place ≡ b ∷ bs → (k : LineKind) × (next s b ≡ outside d k b)) → is_ended (run s place).inside ≡ true → ⊥
string_within place o m more s d opens wide string first ended =
    let parts = string_parts place o opens in
    let quote = quote_of o.quotes.byte (opening_facts place o opens).quoted in
    let q = quote.0 in
    let whole : place ≡ (parts.letters ++ byte_of q ∷ []) ++ parts.inside = parts.text_is ∙ ap (λ x. parts.letters ++ x ∷ parts.inside) quote.1 ∙ sym (append_assoc parts.letters (byte_of q ∷ []) parts.inside) in
    let quotes : o.quotes ≡ long_quotes q o.quotes.long = λ i. record { byte = quote.1 i; long = o.quotes.long } in
    let s1 = run s (parts.letters ++ byte_of q ∷ []) in
    let opened_at = letters_run parts.letters q s d parts.words (λ c cs e. first c (cs ++ parts.inside) (whole ∙ ap (λ x. x ++ parts.inside) e)) in
    let all : place ++ m ∷ more ≡ parts.letters ++ o.quotes.byte ∷ (parts.inside ++ m ∷ more) = ap (λ x. x ++ m ∷ more) parts.text_is ∙ append_assoc parts.letters (o.quotes.byte ∷ parts.inside) (m ∷ more) in
    let tail : drop (opening_length o) (place ++ m ∷ more) ≡ drop (quote_count o.quotes.long - 1) (parts.inside ++ m ∷ more) =
    ap (λ n. drop (n + quote_count o.quotes.long) (place ++ m ∷ more)) parts.prefix
    ∙ ap (drop (length parts.letters + quote_count o.quotes.long)) all
    ∙ drop-append-add parts.letters (o.quotes.byte ∷ (parts.inside ++ m ∷ more)) (quote_count o.quotes.long)
    ∙ after_quote o.quotes.long o.quotes.byte (parts.inside ++ m ∷ more) in
    let found = string_opens (place ++ m ∷ more) string in
    let same : found.0 ≡ o = some_same found.0 o (sym found.1 ∙ wide) in
    let shut : closes o.quotes 0 Unescaped (drop (opening_length o) (place ++ m ∷ more)) ≡ true = ap (λ x. closes x.quotes 0 Unescaped (drop (opening_length x) (place ++ m ∷ more))) (sym same) ∙ found.2 in
    let closed : closes (long_quotes q o.quotes.long) 0 Unescaped (drop (quote_count o.quotes.long - 1) (parts.inside ++ m ∷ more)) ≡ true = ap₂ (λ x y. closes x 0 Unescaped y) (sym quotes) (sym tail) ∙ shut in
    quoted_within q d parts.inside m more o.quotes.long s1 opened_at (ap (λ x. are_two x parts.inside) (sym quote.1) ∙ parts.long) closed
    (ap (λ t. is_ended t.inside) (sym (ap (run s) whole ∙ run_append (parts.letters ++ byte_of q ∷ []) parts.inside s)) ∙ ended)
  where
    after_quote : (long : Bool) (x : ℕ) (xs : List ℕ) → drop (quote_count long) (x ∷ xs) ≡ drop (quote_count long - 1) xs
    after_quote true x xs = refl
    after_quote false x xs = refl

    some_same : (a b : Opening) → Some a ≡ Some b → a ≡ b
    some_same a b e = cc
