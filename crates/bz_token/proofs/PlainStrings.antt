-- Short strings without a backslash: their first quote closes them.
use Rattle.std.proofs.Common.{◌≡◌, ℕ, ◌+◌, ◌<◌, ◌==◌, ◌&&◌, List, [], ◌∷◌, Bool, true, false, not, cond, take, length, get_or, refl, sym, ap, subst, ◌∙◌, arith, suc, true≢false}
use Rattle.std.specs.List.{prefix_len, list_any}
use Rattle.std.specs.Prelude.{if◌then◌else◌}
use Rattle.std.proofs.lemmas.Bool.{and_parts, not-true, or_from, eq-eqb}
use Rattle.std.proofs.lemmas.Bool.Decides.{nat_tests}
use Rattle.bz_token.specs.Strings.{is_quote}
use Rattle.bz_token.specs.private.Closing.{closes, starts_escape}
use Rattle.bz_token.specs.private.Scans.{is_plain}
use Rattle.bz_token.specs.declared.scan_string.Quotes.{Quotes}
use Rattle.bz_token.specs.declared.scan_string.Escape.TheVariants.{Unescaped, AfterBackslash}
use Rattle.bz_token.specs.Common.{is_empty, is_newline}

pub quote_no_newline : (q : ℕ) → is_quote q ≡ true → (q == 10) ≡ false
quote_no_newline q h = grind (arith, nat_tests)

abbrev pub short : ℕ → Quotes
short q = record { byte = q; long = false }

-- whether a short string closes, by what its next byte is: its quote, a newline, a backslash
abbrev pub closed : Bool → Bool → Bool → ℕ → List ℕ → Bool
closed true newline backslash q bs = is_empty bs
closed false newline backslash q bs = not newline && closes (short q) 0 (if backslash then AfterBackslash else Unescaped) bs

pub by_tests : (q b : ℕ) (bs : List ℕ) → closes (short q) 0 Unescaped (b ∷ bs) ≡ closed (b == q) (b == 10) (b == 92) q bs
by_tests q b bs = by (b == q)
  where
    by : (t : Bool) → elim t [ true ↦ is_empty bs | false ↦ not (b == 10) && closes (short q) 0 (starts_escape b) bs ] ≡ closed t (b == 10) (b == 92) q bs
    by true = refl
    by false = refl

-- a plain byte is passed
pub passed : (q b : ℕ) (bs : List ℕ) → is_plain q b ≡ true → closes (short q) 0 Unescaped (b ∷ bs) ≡ closes (short q) 0 Unescaped bs
passed q b bs h =
    let backslash = and_parts (not (b == q) && not (b == 10)) (not (b == 92)) h in
    let newline = and_parts (not (b == q)) (not (b == 10)) backslash.0 in
    by_tests q b bs ∙ by (b == q) (b == 10) (b == 92) (not-true _ newline.0) (not-true _ newline.1) (not-true _ backslash.1)
  where
    by : (t u v : Bool) → t ≡ false → u ≡ false → v ≡ false → closed t u v q bs ≡ closes (short q) 0 Unescaped bs
    by false false false e f g = refl
    by true u v e f g = absurd (true≢false e)
    by false true v e f g = absurd (true≢false f)
    by false false true e f g = absurd (true≢false g)

more : (b : ℕ) (bs : List ℕ) (n : ℕ) → take (1 + n + 1) (b ∷ bs) ≡ b ∷ take (n + 1) bs
more b bs n = let one : 1 + n + 1 ≡ suc (n + 1) = omega arith in ap (λ k. take k (b ∷ bs)) one

next_at : (b : ℕ) (bs : List ℕ) (n : ℕ) → get_or (b ∷ bs) (1 + n) 0 ≡ get_or bs n 0
next_at b bs n = let one : 1 + n ≡ suc n = omega arith in ap (λ k. get_or (b ∷ bs) k 0) one

-- the first byte that is not plain is the quote: the string ends with it
plain_closes : (q : ℕ) (bs : List ℕ) → get_or bs (prefix_len (is_plain q) bs) 0 ≡ q → prefix_len (is_plain q) bs < length bs
    → closes (short q) 0 Unescaped (take (prefix_len (is_plain q) bs + 1) bs) ≡ true
plain_closes q [] at within = absurd (omega (arith, within))
plain_closes q (b ∷ bs) at within = by (is_plain q b) refl (plain_closes q bs) at within
  where
    Closes : ℕ → List ℕ → Type 0
    Closes n xs = get_or xs n 0 ≡ q → n < length xs → closes (short q) 0 Unescaped (take (n + 1) xs) ≡ true

    by : (t : Bool) → is_plain q b ≡ t → Closes (prefix_len (is_plain q) bs) bs → Closes (cond t (1 + prefix_len (is_plain q) bs) 0) (b ∷ bs)
    by true e rest at within =
        ap (closes (short q) 0 Unescaped) (more b bs (prefix_len (is_plain q) bs)) ∙ passed q b (take (prefix_len (is_plain q) bs + 1) bs) e
        ∙ rest (sym (next_at b bs (prefix_len (is_plain q) bs)) ∙ at) (omega (arith, within))
    by false e rest at within = by_tests q b [] ∙ ap (λ t. closed t (b == 10) (b == 92) q []) (eq-eqb b q at)

-- and there is no newline in it
plain_one_line : (q : ℕ) (bs : List ℕ) → is_quote q ≡ true → get_or bs (prefix_len (is_plain q) bs) 0 ≡ q
    → list_any is_newline (take (prefix_len (is_plain q) bs + 1) bs) ≡ false
plain_one_line q [] quote at = refl
plain_one_line q (b ∷ bs) quote at = by (is_plain q b) refl (plain_one_line q bs quote) at
  where
    OneLine : ℕ → List ℕ → Type 0
    OneLine n xs = get_or xs n 0 ≡ q → list_any is_newline (take (n + 1) xs) ≡ false

    by : (t : Bool) → is_plain q b ≡ t → OneLine (prefix_len (is_plain q) bs) bs → OneLine (cond t (1 + prefix_len (is_plain q) bs) 0) (b ∷ bs)
    by true e rest at =
        let backslash = and_parts (not (b == q) && not (b == 10)) (not (b == 92)) e in
        let newline = and_parts (not (b == q)) (not (b == 10)) backslash.0 in
        ap (list_any is_newline) (more b bs (prefix_len (is_plain q) bs))
        ∙ or_from (b == 10) (list_any is_newline (take (prefix_len (is_plain q) bs + 1) bs)) (not-true _ newline.1) (rest (sym (next_at b bs (prefix_len (is_plain q) bs)) ∙ at))
    by false e rest at = or_from (b == 10) false (subst (λ x. (x == 10) ≡ false) (sym at) (quote_no_newline q quote)) refl

-- the same of the length that was counted
pub short_closes : (quotes : Quotes) (bs : List ℕ) (n : ℕ) → n ≡ prefix_len (is_plain quotes.byte) bs → not quotes.long ≡ true → get_or bs n 0 ≡ quotes.byte → n < length bs
    → closes quotes 0 Unescaped (take (n + 1) bs) ≡ true
short_closes quotes bs n counted one at within = by quotes.byte quotes.long counted one at
  where
    by : (q : ℕ) (long : Bool) → n ≡ prefix_len (is_plain q) bs → not long ≡ true → get_or bs n 0 ≡ q → closes (record { byte = q; long = long }) 0 Unescaped (take (n + 1) bs) ≡ true
    by q true counted one at = absurd (true≢false (sym one))
    by q false counted one at =
        subst (λ m. closes (short q) 0 Unescaped (take (m + 1) bs) ≡ true) (sym counted)
        (plain_closes q bs (sym (ap (λ m. get_or bs m 0) counted) ∙ at) (subst (λ m. m < length bs) counted within))

pub short_one_line : (q : ℕ) (bs : List ℕ) (n : ℕ) → n ≡ prefix_len (is_plain q) bs → is_quote q ≡ true → get_or bs n 0 ≡ q → list_any is_newline (take (n + 1) bs) ≡ false
short_one_line q bs n counted quote at =
    subst (λ m. list_any is_newline (take (m + 1) bs) ≡ false) (sym counted) (plain_one_line q bs quote (sym (ap (λ m. get_or bs m 0) counted) ∙ at))
