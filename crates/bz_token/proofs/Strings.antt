-- Where a string closes.
use Rattle.std.proofs.Common.{◌≡◌, ℕ, zero, suc, ◌+◌, ◌<◌, ◌≤◌, ◌==◌, ◌||◌, List, [], ◌∷◌, ◌++◌, length, take, get_or, true, false, not, refl, sym, ap, ◌∙◌, arith, inl, inr, append_assoc, append-nil}
use Rattle.std.specs.List.{list_any}
use Rattle.std.proofs.lemmas.Bool.{cases_lt, false≢true}
use Rattle.std.proofs.lemmas.Bool.Decides.{nat_tests}
use Rattle.std.proofs.lemmas.List.{take_more}
use Rattle.std.proofs.lemmas.List.Folds.{list_any-append}
use Rattle.bz_token.specs.Common.{is_newline}
use Rattle.bz_token.specs.declared.scan_string.Quotes.{Quotes}
use Rattle.bz_token.specs.declared.scan_string.Escape.{Escape}
use Rattle.bz_token.specs.declared.scan_string.Escape.TheVariants.{Unescaped, AfterBackslash, AfterReturn}
use Rattle.bz_token.specs.private.Closing.{is_escaped, escape_after, closes}
use Rattle.bz_token.specs.Strings.{quote_count}

-- a longer front has a byte more
pub longer_front : (bytes : List ℕ) (i n : ℕ) → i < n → i < length bytes → (more : List ℕ) × (take n bytes ≡ take i bytes ++ get_or bytes i 0 ∷ more)
longer_front [] i n h l = absurd (omega arith)
longer_front (x ∷ xs) i zero h l = absurd (omega arith)
longer_front (x ∷ xs) zero (suc n) h l = (take n xs, refl)
longer_front (x ∷ xs) (suc i) (suc n) h l =
    let r = longer_front xs i n (omega arith) (omega arith) in
    (r.0, ap (λ ys. x ∷ ys) r.1)

-- an unescaped newline closes no short string
newline_breaks : (q : Quotes) (row : ℕ) (e : Escape) (ys : List ℕ) → is_escaped e 10 ≡ false → (10 == q.byte) ≡ false → q.long ≡ false → closes q row e (10 ∷ ys) ≡ false
newline_breaks q row Unescaped ys plain other short = rw (other, short, closes) refl
newline_breaks q row AfterBackslash ys plain other short = absurd (false≢true (sym plain))
newline_breaks q row AfterReturn ys plain other short = absurd (false≢true (sym plain))

pub broken_off : (q : Quotes) (bytes : List ℕ) (i row : ℕ) (e : Escape) → i < length bytes → get_or bytes i 0 ≡ 10 → is_escaped e (get_or bytes i 0) ≡ false → (get_or bytes i 0 == q.byte) ≡ false → q.long ≡ false
    → ((ys : List ℕ) → closes q 0 Unescaped (take i bytes ++ ys) ≡ closes q row e ys) → ((n : ℕ) → n ≤ i → closes q 0 Unescaped (take n bytes) ≡ false) → (n : ℕ) → closes q 0 Unescaped (take n bytes) ≡ false
broken_off q bytes i row e within newline plain other short rest shorter n =
    elim (cases_lt i n) [
      | inl more ↦
          let front = longer_front bytes i n more within in
          rw (front.1, rest (get_or bytes i 0 ∷ front.0), newline) (newline_breaks q row e front.0 (rw newline at plain) (rw newline at other) short)
      | inr less ↦ shorter n less
    ]

-- What a byte does: it is escaped, one of the quotes but not the last, the last quote, or any other.
pub escaped_read : (q : Quotes) (row : ℕ) (e : Escape) (b : ℕ) (ys : List ℕ) → is_escaped e b ≡ true → closes q row e (b ∷ ys) ≡ closes q 0 (escape_after e b) ys
escaped_read q row e b ys escaped = rw (escaped, closes) refl

pub quote_read : (q : Quotes) (row : ℕ) (e : Escape) (b : ℕ) (ys : List ℕ) → is_escaped e b ≡ false → (b == q.byte) ≡ true → (row + 1 == quote_count q.long) ≡ false
    → closes q row e (b ∷ ys) ≡ closes q (row + 1) (escape_after e b) ys
quote_read q row e b ys plain quote more = rw (plain, quote, more, closes) refl

pub last_read : (q : Quotes) (row : ℕ) (e : Escape) (b : ℕ) → is_escaped e b ≡ false → (b == q.byte) ≡ true → (row + 1 == quote_count q.long) ≡ true → closes q row e (b ∷ []) ≡ true
last_read q row e b plain quote last = rw (plain, quote, last, closes) refl

pub other_read : (q : Quotes) (row : ℕ) (e : Escape) (b : ℕ) (ys : List ℕ) → is_escaped e b ≡ false → (b == q.byte) ≡ false → (q.long || not (b == 10)) ≡ true
    → closes q row e (b ∷ ys) ≡ closes q 0 (escape_after e b) ys
other_read q row e b ys plain other on = rw (plain, other, on, closes) refl

-- The bytes before and one more.
pub rest_on : (q : Quotes) (bytes : List ℕ) (i row next : ℕ) (e after : Escape) → i < length bytes → ((ys : List ℕ) → closes q 0 Unescaped (take i bytes ++ ys) ≡ closes q row e ys)
    → ((ys : List ℕ) → closes q row e (get_or bytes i 0 ∷ ys) ≡ closes q next after ys) → (ys : List ℕ) → closes q 0 Unescaped (take (i + 1) bytes ++ ys) ≡ closes q next after ys
rest_on q bytes i row next e after within rest read ys = rw (take_more bytes i 0 within, append_assoc) (rest (get_or bytes i 0 ∷ ys) ∙ read ys)

pub none_on : (q : Quotes) (bytes : List ℕ) (i row : ℕ) (e : Escape) → ((ys : List ℕ) → closes q 0 Unescaped (take (i + 1) bytes ++ ys) ≡ closes q row e ys)
    → ((n : ℕ) → n ≤ i → closes q 0 Unescaped (take n bytes) ≡ false) → (n : ℕ) → n ≤ i + 1 → closes q 0 Unescaped (take n bytes) ≡ false
none_on q bytes i row e rest shorter n within =
    elim (cases_lt i n) [
      | inl more ↦
          let last : n ≡ i + 1 = omega arith in
          ap (λ k. closes q 0 Unescaped (take k bytes)) last ∙ ap (closes q 0 Unescaped) (sym (append-nil (take (i + 1) bytes))) ∙ rest []
      | inr less ↦ shorter n less
    ]

pub one_line_on : (bytes : List ℕ) (i : ℕ) → i < length bytes → list_any is_newline (take i bytes) ≡ false → (get_or bytes i 0 == 10) ≡ false → list_any is_newline (take (i + 1) bytes) ≡ false
one_line_on bytes i within before newline = rw (take_more bytes i 0 within, list_any-append is_newline (take i bytes) (get_or bytes i 0 ∷ []), before, newline) refl

pub no_last : (row last : ℕ) → (row + 1 ≡ last → ⊥) → (row + 1 == last) ≡ false
no_last row last other = grind (arith, nat_tests)

pub next_row : (row next last : ℕ) → row < last → (row + 1 ≡ last → ⊥) → next ≡ row + 1 → next < last
next_row row next last before other is = grind (arith, nat_tests)
