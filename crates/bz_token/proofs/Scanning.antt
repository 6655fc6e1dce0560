-- What the scan of a token finds.
use Rattle.std.proofs.Common.{◌≡◌, ℕ, zero, suc, ◌+◌, ◌-◌, ◌<◌, ◌≤◌, ◌==◌, List, [], ◌∷◌, ◌++◌, length, take, drop, get_or, Bool, true, false, not, refl, sym, ap, subst, ◌∙◌, arith, inl, inr, length-drop, take-append-drop, sub-one, one-add, IsUtf8}
use Rattle.std.specs.Prelude.{Some, None, is_some}
use Rattle.std.specs.List.{list_all, list_any, prefix_len}
use Rattle.std.specs.Str.{IsCharBoundary}
use Rattle.std.specs.Char.{is_ascii_digit}
use Rattle.std.proofs.Math.Seq.{take-add, take-nil, drop-nil}
use Rattle.std.proofs.lemmas.List.{drop-take, get_or-drop, get_or-take, length-take-le}
use Rattle.std.proofs.lemmas.List.Sums.{prefix_len_passes, prefix_len_stops, prefix_len-le-length}
use Rattle.std.proofs.lemmas.List.Folds.{list_any-append}
use Rattle.std.proofs.lemmas.Bool.{cases_Bool, cases_lt, and_parts, false≢true, eqb-true, not-false, or_from}
use Rattle.std.proofs.lemmas.Bool.Decides.{nat_tests}
use Rattle.std.proofs.lemmas.Str.{IsCharBoundary-after_ascii, IsCharBoundary-before_ascii, IsCharBoundary-end}
use Rattle.bz_token.specs.declared.scan_string.Opening.{Opening}
use Rattle.bz_token.specs.declared.scan_string.Escape.TheVariants.{Unescaped}
use Rattle.bz_token.specs.declared.scan_token.Scanned.{Scanned}
use Rattle.bz_token.specs.declared.token.Kind.{Kind}
use Rattle.bz_token.specs.declared.token.Kind.TheVariants.{Identifier, Keyword, Integer, String, Operator, Newline, Comment, Kept}
use Rattle.bz_token.specs.Strings.{is_quote, opens_after, opening}
use Rattle.bz_token.specs.Lexical.{is_word_byte, is_name, is_number, is_operator_text, is_comment, is_text, IsToken}
use Rattle.bz_token.specs.private.Closing.{closes, opening_length}
use Rattle.bz_token.specs.private.BadPlaces.{IsBadCharacter, IsBadNumber, IsOpenText}
use Rattle.bz_token.specs.Ends.{stops_at}
use Rattle.bz_token.specs.Lengths.{front_word, word_length}
use Rattle.bz_token.specs.private.Scans.{IsScanned}
use Rattle.bz_token.proofs.Classes.{mark, unknown, can_start, is_mark}
use Rattle.bz_token.proofs.Openings.{opens_plain, opening_front, closes_last, opening_facts}
use Rattle.bz_token.proofs.Ends.{name_token_at, number_token, operator_token, line_token, comment_token, string_token_at, open_string, bad_number, no_operator, comment_parts}
use Rattle.bz_token.proofs.Operators.{is_operator_byte, operator_bytes}
use Rattle.bz_token.specs.Common.{begins, is_newline}
use Rattle.bz_token.specs.Pieces.{is_blank}

pub boundary_after : (bytes : List ℕ) (n : ℕ) → 0 < n → n ≤ length bytes → get_or bytes (n - 1) 0 < 128 → IsUtf8 bytes → IsCharBoundary bytes n
boundary_after bytes n some fits ascii utf8 =
    let e : n - 1 + 1 ≡ n = omega arith in
    subst (λ k. IsCharBoundary bytes k) e (IsCharBoundary-after_ascii bytes (n - 1) utf8 (omega arith) ascii)

quote_ascii : (q : ℕ) → is_quote q ≡ true → q < 128
quote_ascii q h = grind (arith, nat_tests)

word_ascii : (b : ℕ) → is_word_byte b ≡ true → b < 128
word_ascii b h = grind (arith, nat_tests)

word_no_newline : (b : ℕ) → is_word_byte b ≡ true → is_newline b ≡ false
word_no_newline b h = grind (arith, nat_tests)

blank_ascii : (b : ℕ) → is_blank b ≡ true → b < 128
blank_ascii b h = grind (arith, nat_tests)

newline_ascii : (b : ℕ) → is_newline b ≡ true → b < 128
newline_ascii b h = grind (arith, nat_tests)

-- a string up to its closing quotes
pub string_scanned : (bytes : List ℕ) (o : Opening) (n : ℕ) (nl : Bool) → opening bytes ≡ Some o → 0 < n → n ≤ length (drop (opening_length o) bytes) → closes o.quotes 0 Unescaped (take n (drop (opening_length o) bytes)) ≡ true
    → (nl ≡ false → list_any is_newline (take n (drop (opening_length o) bytes)) ≡ false) → IsScanned bytes (record { kind = String; len = opening_length o + n; has_newline = nl })
string_scanned bytes o n nl opens some fits closed one_line =
    let front = opening_front bytes o opens in
    let s = opening_length o in
    let whole : take (s + n) bytes ++ drop (s + n) bytes ≡ bytes = take-append-drop (s + n) bytes in
    let inside : drop s (take (s + n) bytes) ≡ take n (drop s bytes) = drop-take s n bytes in
    let size : length (take n (drop s bytes)) ≡ n = length-take-le n (drop s bytes) fits in
    let within : s + n ≤ length bytes = omega (arith, length-drop s bytes) in
    let last : get_or (take n (drop s bytes)) (n - 1) 0 ≡ o.quotes.byte = ap (λ k. get_or (take n (drop s bytes)) (k - 1) 0) (sym size) ∙ closes_last o.quotes 0 Unescaped (take n (drop s bytes)) closed in
    let at_end : get_or bytes (s + n - 1) 0 ≡ o.quotes.byte =
    ap (λ k. get_or bytes k 0) (the_end s n some) ∙ sym (get_or-drop s bytes (n - 1) 0) ∙ sym (get_or-take n (drop s bytes) (n - 1) 0 (omega arith)) ∙ last in
    record {
      some = omega arith;
      within = within;
      token = string_token_at (take (s + n) bytes) (drop (s + n) bytes) o (front.front (s + n) (omega arith)) (ap opening whole ∙ opens) (ap (closes o.quotes 0 Unescaped) inside ∙ closed);
      one_line = λ h. ap (list_any is_newline) (take-add s n bytes) ∙ list_any-append is_newline (take s bytes) (take n (drop s bytes)) ∙ or_from _ _ front.one_line (one_line h);
      boundary = boundary_after bytes (s + n) (omega arith) within (subst (λ x. x < 128) (sym at_end) (quote_ascii o.quotes.byte (opening_facts bytes o opens).quoted));
    }
  where
    the_end : (s n : ℕ) → 0 < n → s + n - 1 ≡ s + (n - 1)
    the_end s n some = omega arith

-- a run of letters, digits and underscores
pub all_front : (p : ℕ → Bool) (xs : List ℕ) → list_all p (take (prefix_len p xs) xs) ≡ true
all_front p [] = refl
all_front p (x ∷ xs) =
    elim (cases_Bool (p x)) [
      | inl hit ↦ rw (hit, one-add, hit, all_front p xs) refl
      | inr miss ↦ rw miss refl
    ]

stops_after : (p : ℕ → Bool) (xs : List ℕ) → prefix_len p (drop (prefix_len p xs) xs) ≡ 0
stops_after p [] = refl
stops_after p (x ∷ xs) =
    elim (cases_Bool (p x)) [
      | inl hit ↦ rw (hit, one-add) (stops_after p xs)
      | inr miss ↦ rw (miss, miss) refl
    ]

words_line : (xs : List ℕ) → list_all is_word_byte xs ≡ true → list_any is_newline xs ≡ false
words_line [] h = refl
words_line (x ∷ xs) h =
    let parts = and_parts (is_word_byte x) (list_all is_word_byte xs) h in
    or_from _ _ (word_no_newline x parts.0) (words_line xs parts.1)

no_word_after : (xs : List ℕ) → prefix_len is_word_byte xs ≡ 0 → stops_at Integer [] xs ≡ true
no_word_after [] h = refl
no_word_after (x ∷ xs) h = elim (cases_Bool (is_word_byte x)) [
  | inl hit ↦ absurd (omega (arith, rw hit at h))
  | inr miss ↦ rw miss refl
]

run_boundary : (bytes : List ℕ) → 0 < prefix_len is_word_byte bytes → IsUtf8 bytes → IsCharBoundary bytes (prefix_len is_word_byte bytes)
run_boundary bytes some utf8 =
    boundary_after bytes (prefix_len is_word_byte bytes) some (prefix_len-le-length is_word_byte bytes)
    (word_ascii _ (prefix_len_passes is_word_byte bytes (prefix_len is_word_byte bytes - 1) 0 (omega arith))) utf8

-- a run is the token of this kind
run_scanned : (kind : Kind) (bytes : List ℕ) → 0 < prefix_len is_word_byte bytes → IsToken kind (take (prefix_len is_word_byte bytes) bytes) (drop (prefix_len is_word_byte bytes) bytes)
    → IsScanned bytes (record { kind = kind; len = prefix_len is_word_byte bytes; has_newline = false })
run_scanned kind bytes some token = record {
  some = some;
  within = prefix_len-le-length is_word_byte bytes;
  token = token;
  one_line = λ h. words_line (take (prefix_len is_word_byte bytes) bytes) (all_front is_word_byte bytes);
  boundary = run_boundary bytes some;
}

digit_word : (b : ℕ) → is_ascii_digit b ≡ true → is_word_byte b ≡ true
digit_word b h = grind (arith, nat_tests)

pub number_scanned : (bytes : List ℕ) → begins is_ascii_digit bytes ≡ true → is_number (take (prefix_len is_word_byte bytes) bytes) ≡ true → IsScanned bytes (record { kind = Integer; len = prefix_len is_word_byte bytes; has_newline = false })
number_scanned [] first is = absurd (false≢true first)
number_scanned (b ∷ bs) first is =
    let word : is_word_byte b ≡ true = digit_word b first in
    let run : prefix_len is_word_byte (b ∷ bs) ≡ suc (prefix_len is_word_byte bs) = rw (word, one-add) refl in
    run_scanned Integer (b ∷ bs) (omega arith)
    (subst (λ n. IsToken Integer (take n (b ∷ bs)) (drop n (b ∷ bs))) (sym run)
    (number_token b (take (prefix_len is_word_byte bs) bs) (drop (prefix_len is_word_byte bs) bs) (subst (λ n. is_number (take n (b ∷ bs)) ≡ true) run is) (stops_after is_word_byte bs)))

pub no_number : (bytes : List ℕ) → begins is_ascii_digit bytes ≡ true → is_number (take (prefix_len is_word_byte bytes) bytes) ≡ false → IsBadNumber bytes
no_number [] first bad = absurd (false≢true first)
no_number (b ∷ bs) first bad = record { digit = first; none = bad_number b bs first bad }

-- a digit before what is no letter, digit or underscore
pub one_digit : (bytes : List ℕ) → begins is_ascii_digit bytes ≡ true → 1 < length bytes → is_word_byte (get_or bytes 1 0) ≡ false → word_length Integer bytes ≡ 1
one_digit [] first more after = absurd (false≢true first)
one_digit (b ∷ []) first more after = absurd (omega arith)
one_digit (b ∷ x ∷ bs) first more after =
    let word : is_word_byte b ≡ true = digit_word b first in
    let run : prefix_len is_word_byte (b ∷ x ∷ bs) ≡ 1 = rw (word, after) refl in
    rw (run, first) refl

pub measured_number : (bytes : List ℕ) (n : ℕ) → begins is_ascii_digit bytes ≡ true → n ≡ word_length Integer bytes → 0 < n → IsScanned bytes (record { kind = Integer; len = n; has_newline = false })
measured_number bytes n first is some = elim (cases_Bool (is_number (front_word bytes))) [
  | inl valid ↦ subst (λ k. IsScanned bytes (record { kind = Integer; len = k; has_newline = false })) (sym (rw valid at is)) (number_scanned bytes first valid)
  | inr invalid ↦ absurd (omega (arith, rw invalid at is, some))
]

pub no_measured_number : (bytes : List ℕ) → begins is_ascii_digit bytes ≡ true → 0 ≡ word_length Integer bytes → IsBadNumber bytes
no_measured_number bytes first is = elim (cases_Bool (is_number (front_word bytes))) [
  | inl valid ↦ absurd (omega (arith, rw valid at is, (number_scanned bytes first valid).some))
  | inr invalid ↦ no_number bytes first invalid
]

-- a run that begins with no digit
pub name_scanned : (kind : Kind) (bytes : List ℕ) → opening bytes ≡ None → begins is_word_byte bytes ≡ true → begins is_ascii_digit bytes ≡ false
    → (is_name (take (prefix_len is_word_byte bytes) bytes) ≡ true → is_text kind (take (prefix_len is_word_byte bytes) bytes) ≡ true) → IsScanned bytes (record { kind = kind; len = prefix_len is_word_byte bytes; has_newline = false })
name_scanned kind [] unquoted word plain is = absurd (false≢true word)
name_scanned kind (b ∷ bs) unquoted word plain is =
    let run : prefix_len is_word_byte (b ∷ bs) ≡ suc (prefix_len is_word_byte bs) = rw (word, one-add) refl in
    let all = all_front is_word_byte bs in
    let name : is_name (b ∷ take (prefix_len is_word_byte bs) bs) ≡ true = rw (word, plain, all) refl in
    let whole = subst (λ n. is_name (take n (b ∷ bs)) ≡ true → is_text kind (take n (b ∷ bs)) ≡ true) run is name in
    let place : opening (b ∷ take (prefix_len is_word_byte bs) bs ++ drop (prefix_len is_word_byte bs) bs) ≡ None = ap (λ xs. opening (b ∷ xs)) (take-append-drop (prefix_len is_word_byte bs) bs) ∙ unquoted in
    run_scanned kind (b ∷ bs) (omega arith)
    (subst (λ n. IsToken kind (take n (b ∷ bs)) (drop n (b ∷ bs))) (sym run)
    (name_token_at kind b (take (prefix_len is_word_byte bs) bs) (drop (prefix_len is_word_byte bs) bs) whole name place (no_word_after (drop (prefix_len is_word_byte bs) bs) (stops_after is_word_byte bs))))

pub line_scanned : (bytes : List ℕ) → 0 < length bytes → get_or bytes 0 0 ≡ 10 → IsScanned bytes (record { kind = Newline; len = 1; has_newline = true })
line_scanned [] some first = absurd (omega arith)
line_scanned (b ∷ bs) some first = record {
  some = omega arith;
  within = omega arith;
  token = rw first (line_token bs);
  one_line = λ h. absurd (false≢true (sym h));
  boundary = boundary_after (b ∷ bs) 1 (omega arith) (omega arith) (rw first (omega arith));
}

operators_line : (xs : List ℕ) → list_all is_operator_byte xs ≡ true → list_any is_newline xs ≡ false
operators_line [] h = refl
operators_line (x ∷ xs) h =
    let parts = and_parts (is_operator_byte x) (list_all is_operator_byte xs) h in
    or_from _ _ (operator_no_newline x parts.0) (operators_line xs parts.1)
  where
    operator_no_newline : (x : ℕ) → is_operator_byte x ≡ true → is_newline x ≡ false
    operator_no_newline x h = grind (arith, nat_tests)

all_at : (p : ℕ → Bool) (xs : List ℕ) (i : ℕ) → list_all p xs ≡ true → i < length xs → p (get_or xs i 0) ≡ true
all_at p [] i h less = absurd (omega arith)
all_at p (x ∷ xs) zero h less = (and_parts (p x) (list_all p xs) h).0
all_at p (x ∷ xs) (suc i) h less = all_at p xs i (and_parts (p x) (list_all p xs) h).1 (omega arith)

operator_ascii : (x : ℕ) → is_operator_byte x ≡ true → x < 128
operator_ascii x h = grind (arith, nat_tests)

pub operator_scanned : (bytes : List ℕ) (n : ℕ) → 0 < n → n ≤ length bytes → is_operator_text (take n bytes) ≡ true → stops_at Operator (take n bytes) (drop n bytes) ≡ true → IsScanned bytes (record { kind = Operator; len = n; has_newline = false })
operator_scanned [] n some fits is stop = absurd (omega arith)
operator_scanned (b ∷ bs) zero some fits is stop = absurd (omega arith)
operator_scanned (b ∷ bs) (suc n) some fits is stop =
    let bytes = operator_bytes (b ∷ take n bs) is in
    let size : length (take (suc n) (b ∷ bs)) ≡ suc n = length-take-le (suc n) (b ∷ bs) fits in
    let last : is_operator_byte (get_or (take (suc n) (b ∷ bs)) n 0) ≡ true = all_at is_operator_byte (take (suc n) (b ∷ bs)) n bytes (omega arith) in
    let here : get_or (b ∷ bs) (suc n - 1) 0 ≡ get_or (take (suc n) (b ∷ bs)) n 0 = rw sub-one (sym (get_or-take (suc n) (b ∷ bs) n 0 (omega arith))) in
    record {
      some = some;
      within = fits;
      token = operator_token b (take n bs) (drop n bs) is stop;
      one_line = λ h. operators_line (b ∷ take n bs) bytes;
      boundary = boundary_after (b ∷ bs) (suc n) some fits (subst (λ x. x < 128) (sym here) (operator_ascii _ last));
    }

-- what is left of a line
line_rest : (p : ℕ → Bool) (xs : List ℕ) (r : ℕ) → r ≤ prefix_len p xs → drop r (take (prefix_len p xs) xs) ≡ take (prefix_len p (drop r xs)) (drop r xs)
line_rest p [] r fits = ap (drop r) (take-nil (prefix_len p [])) ∙ drop-nil r ∙ sym (ap (λ xs. take (prefix_len p xs) xs) (drop-nil r) ∙ take-nil (prefix_len p []))
line_rest p (x ∷ xs) zero fits = refl
line_rest p (x ∷ xs) (suc r) fits = elim (cases_Bool (p x)) [
  | inl hit ↦ rw (hit, one-add) (line_rest p xs r (omega (arith, rw hit at fits)))
  | inr miss ↦ absurd (omega (arith, rw miss at fits))
]

-- a comment ends before white space, a newline or the end
comment_boundary : (bytes : List ℕ) (r : ℕ) → r ≤ prefix_len (λ b. not (is_newline b)) bytes → list_all is_blank (drop r (take (prefix_len (λ b. not (is_newline b)) bytes) bytes)) ≡ true → IsCharBoundary bytes r
comment_boundary bytes r fits blank =
    elim (cases_lt r (prefix_len (λ b. not (is_newline b)) bytes)) [
      | inl inside ↦
          let n = prefix_len (λ b. not (is_newline b)) bytes in
          let within : n ≤ length bytes = prefix_len-le-length (λ b. not (is_newline b)) bytes in
          let size : length (take n bytes) ≡ n = length-take-le n bytes within in
          let first = all_at is_blank (drop r (take n bytes)) 0 blank (omega (arith, length-drop r (take n bytes), size)) in
          let here : get_or (drop r (take n bytes)) 0 0 ≡ get_or bytes r 0 = get_or-drop r (take n bytes) 0 0 ∙ ap (λ k. get_or (take n bytes) k 0) (plus_zero r) ∙ get_or-take n bytes r 0 inside in
          IsCharBoundary-before_ascii bytes r (omega arith) (blank_ascii _ (ap is_blank (sym here) ∙ first))
      | inr at_end ↦
          elim (cases_lt r (length bytes)) [
            | inl less ↦
                let e : prefix_len (λ b. not (is_newline b)) bytes ≡ r = omega arith in
                let stop = prefix_len_stops (λ b. not (is_newline b)) bytes 0 (omega arith) in
                IsCharBoundary-before_ascii bytes r less (newline_ascii _ (not-false (is_newline (get_or bytes r 0)) (ap (λ k. not (is_newline (get_or bytes k 0))) (sym e) ∙ stop)))
            | inr past ↦
                let e : length bytes ≡ r = omega (arith, prefix_len-le-length (λ b. not (is_newline b)) bytes) in
                subst (λ k. IsCharBoundary bytes k) e (IsCharBoundary-end bytes)
          ]
    ]
  where
    plus_zero : (r : ℕ) → r + 0 ≡ r
    plus_zero r = omega arith

pub comment_scanned : (bytes : List ℕ) (r : ℕ) → 0 < r → r ≤ length bytes → r ≤ prefix_len (λ b. not (is_newline b)) bytes → is_comment (take r bytes) ≡ true → list_all is_blank (drop r (take (prefix_len (λ b. not (is_newline b)) bytes) bytes)) ≡ true
    → IsScanned bytes (record { kind = Comment; len = r; has_newline = false })
comment_scanned [] r some fits line is blank = absurd (omega arith)
comment_scanned (b ∷ bs) zero some fits line is blank = absurd (omega arith)
comment_scanned (b ∷ bs) (suc r) some fits line is blank = record {
  some = some;
  within = fits;
  token = comment_token b (take r bs) (drop r bs) is (subst (λ xs. list_all is_blank xs ≡ true) (line_rest (λ c. not (is_newline c)) (b ∷ bs) (suc r) line) blank);
  one_line = λ h. (comment_parts (b ∷ take r bs) is).1;
  boundary = λ utf8. comment_boundary (b ∷ bs) (suc r) line blank;
}

no_string_quote : (b : ℕ) (bs : List ℕ) → opening (b ∷ bs) ≡ None → is_word_byte b ≡ false → is_quote b ≡ false
no_string_quote b bs unquoted none = elim (cases_Bool (is_quote b)) [
  | inr miss ↦ miss
  | inl hit ↦
      let plain = opens_plain b bs (not_letter b 114 none refl) (not_letter b 98 none refl) in
      absurd (quoted b bs hit (sym plain ∙ unquoted))
]
  where
    not_letter : (b c : ℕ) → is_word_byte b ≡ false → is_word_byte c ≡ true → (b == c) ≡ false
    not_letter b c none word = elim (cases_Bool (b == c)) [
      | inl same ↦ absurd (false≢true (sym none ∙ ap is_word_byte (eqb-true b c same) ∙ word))
      | inr apart ↦ apart
    ]

    some_none : {o : Opening} → Some o ≡ None → ⊥
    some_none e = cc

    quoted : (b : ℕ) (bs : List ℕ) → is_quote b ≡ true → opens_after 0 (b ∷ bs) ≡ None → ⊥
    quoted b bs hit h = some_none (rw hit at h)

pub marks : (kind : Kind) → can_start kind mark ≡ true → kind ≡ Operator
marks Identifier h = absurd (false≢true h)
marks Keyword h = absurd (false≢true h)
marks Integer h = absurd (false≢true h)
marks String h = absurd (false≢true h)
marks Operator h = refl
marks Newline h = absurd (false≢true h)
marks Comment h = absurd (false≢true h)
marks Kept h = absurd (false≢true h)

unknowns : (kind : Kind) → can_start kind unknown ≡ true → kind ≡ Operator
unknowns Identifier h = absurd (false≢true h)
unknowns Keyword h = absurd (false≢true h)
unknowns Integer h = absurd (false≢true h)
unknowns String h = absurd (false≢true h)
unknowns Operator h = refl
unknowns Newline h = absurd (false≢true h)
unknowns Comment h = absurd (false≢true h)
unknowns Kept h = absurd (false≢true h)

-- a byte that begins nothing
pub no_character : (bytes : List ℕ) → 0 < length bytes → opening bytes ≡ None → begins is_word_byte bytes ≡ false → (get_or bytes 0 0 == 10) ≡ false → (get_or bytes 0 0 == 35) ≡ false → (get_or bytes 0 0 == 92) ≡ false
    → ((n : ℕ) → is_operator_text (take n bytes) ≡ false) → IsBadCharacter bytes
no_character [] some unquoted none line comment slash operator = absurd (omega arith)
no_character (b ∷ bs) some unquoted none line comment slash operator = record {
  some = some;
  unquoted = ap is_some unquoted;
  no_digit = plain;
  no_backslash = slash;
  none = elim (cases_Bool (is_mark b)) [
    | inl hit ↦ no_operator b bs mark (rw (none, quoteless, line, comment, hit) refl) marks operator
    | inr miss ↦ no_operator b bs unknown (rw (none, quoteless, line, comment, miss) refl) unknowns operator
  ];
}
  where
    quoteless : is_quote b ≡ false
    quoteless = no_string_quote b bs unquoted none

    plain : is_ascii_digit b ≡ false
    plain = elim (cases_Bool (is_ascii_digit b)) [
      | inl hit ↦ absurd (false≢true (sym none ∙ digit_word b hit))
      | inr miss ↦ miss
    ]

pub open_text : (bytes : List ℕ) (o : Opening) → opening bytes ≡ Some o → ((n : ℕ) → closes o.quotes 0 Unescaped (take n (drop (opening_length o) bytes)) ≡ false) → IsOpenText bytes
open_text bytes o opens never = record { quoted = ap is_some opens; none = open_string bytes o opens never }

-- the same value, known by its fields
pub scanned_as : (bytes : List ℕ) (s : Scanned) (kind : Kind) (len : ℕ) → s.kind ≡ kind → s.len ≡ len → s.has_newline ≡ false → IsScanned bytes (record { kind = kind; len = len; has_newline = false }) → IsScanned bytes s
scanned_as bytes s kind len k l n h =
    let same : record { kind = kind; len = len; has_newline = false } ≡ s = λ i. record { kind = sym k i; len = sym l i; has_newline = sym n i } in
    subst (λ x. IsScanned bytes x) same h
