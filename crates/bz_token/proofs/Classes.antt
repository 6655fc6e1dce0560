-- What a token's first byte tells of its kind.
use Rattle.std.proofs.Common.{◌≡◌, ℕ, ◌==◌, ◌&&◌, List, [], ◌∷◌, Bool, true, false, not, refl, sym, ap, ◌∙◌, arith, inl, inr}
use Rattle.std.specs.Prelude.{codes, bytes_eq, Option, Some, None, is_some, if◌then◌else◌}
use Rattle.std.specs.List.{list_all, list_any}
use Rattle.std.specs.Char.{is_ascii_digit}
use Rattle.std.proofs.lemmas.Bool.{cases_Bool, and_parts, or_cases, false≢true, eqb-true, not-true}
use Rattle.std.proofs.lemmas.Bool.Decides.{nat_tests}
use Rattle.std.proofs.lemmas.Slice.Eq.{bytes_eq-Decides}
use Rattle.bz_token.specs.declared.token.Kind.{Kind}
use Rattle.bz_token.specs.declared.token.Kind.TheVariants.{Identifier, Keyword, Integer, String, Operator, Newline, Comment, Kept}
use Rattle.bz_token.specs.Strings.{is_quote, is_string, opening}
use Rattle.bz_token.specs.Lexical.{is_word_byte, keywords, is_keyword, operators, is_operator_text, is_name, is_number, are_based, is_text, ends_blank}
use Rattle.bz_token.specs.declared.scan_string.Opening.{Opening}
use Rattle.bz_token.proofs.Prefixes.{opening_is}
use Rattle.bz_token.specs.Common.{begins, is_newline, is_one_of}
use Rattle.bz_token.specs.private.Closing.{is_closed}

pub data Class : Type 0 where
  letter : Class
  digit : Class
  quote : Class
  newline : Class
  hash : Class
  mark : Class
  unknown : Class

abbrev pub is_mark : ℕ → Bool
is_mark b = list_any (λ c. b == c) (codes "+-*/%~&|^<>.,=;:()[]{}!")

abbrev pub class_of : ℕ → Class
class_of b =
    if is_word_byte b then (if is_ascii_digit b then digit else letter)
    else (if is_quote b then quote else (if b == 10 then newline else (if b == 35 then hash else (if is_mark b then mark else unknown))))

abbrev pub can_start : Kind → Class → Bool
can_start Identifier letter = true
can_start Keyword letter = true
can_start Integer digit = true
can_start String letter = true
can_start String quote = true
can_start Operator mark = true
can_start Newline newline = true
can_start Comment hash = true
can_start _ _ = false

pub same_bytes : (xs ys : List ℕ) → bytes_eq xs ys ≡ true → xs ≡ ys
same_bytes xs ys h = (bytes_eq-Decides xs ys).0 h

-- what holds of each text of a table holds of a text in it
pub one_of : (p : List ℕ → Bool) (texts : List (List ℕ)) (text : List ℕ) → list_all p texts ≡ true → is_one_of texts text ≡ true → p text ≡ true
one_of p [] text all is = absurd (false≢true is)
one_of p (t ∷ texts) text all is =
    elim (or_cases (bytes_eq text t) (list_any (bytes_eq text) texts) is) [
      | inl here ↦ ap p (same_bytes text t here) ∙ (and_parts (p t) (list_all p texts) all).0
      | inr later ↦ one_of p texts text (and_parts (p t) (list_all p texts) all).1 later
    ]

keyword_starts : (text : List ℕ) → is_keyword text ≡ true → begins (λ b. can_start Keyword (class_of b)) text ≡ true
unfolding keywords
keyword_starts text is = one_of (λ s. begins (λ b. can_start Keyword (class_of b)) s) keywords text refl is

operator_starts : (text : List ℕ) → is_operator_text text ≡ true → begins (λ b. can_start Operator (class_of b)) text ≡ true
unfolding operators
operator_starts text is = one_of (λ s. begins (λ b. can_start Operator (class_of b)) s) operators text refl is

pub letter_class : (b : ℕ) → is_word_byte b ≡ true → is_ascii_digit b ≡ false → class_of b ≡ letter
letter_class b word none = rw (word, none) refl

digit_word : (b : ℕ) → is_ascii_digit b ≡ true → is_word_byte b ≡ true
digit_word b h = grind (arith, nat_tests)

pub digit_class : (b : ℕ) → is_ascii_digit b ≡ true → class_of b ≡ digit
digit_class b h = let word = digit_word b h in rw (word, h) refl

quote_no_word : (b : ℕ) → is_quote b ≡ true → is_word_byte b ≡ false
quote_no_word b h = grind (arith, nat_tests)

pub quote_class : (b : ℕ) → is_quote b ≡ true → class_of b ≡ quote
quote_class b h = let none = quote_no_word b h in rw (none, h) refl

-- the parts of a name
pub name_parts : (b : ℕ) (bs : List ℕ) → is_name (b ∷ bs) ≡ true → (is_ascii_digit b ≡ false) × (is_word_byte b ≡ true) × (list_all is_word_byte bs ≡ true)
name_parts b bs is =
    let both = and_parts (not (is_ascii_digit b)) (list_all is_word_byte (b ∷ bs)) is in
    let word = and_parts (is_word_byte b) (list_all is_word_byte bs) both.1 in
    (not-true (is_ascii_digit b) both.0, word.0, word.1)

pub keyword_name : (text : List ℕ) → is_keyword text ≡ true → is_name text ≡ true
unfolding keywords
keyword_name text is = one_of is_name keywords text refl is

pub number_starts : (b : ℕ) (bs : List ℕ) → is_number (b ∷ bs) ≡ true → is_ascii_digit b ≡ true
number_starts b bs is =
    elim (or_cases (list_all is_ascii_digit (b ∷ bs)) (b == 48 && are_based bs) is) [
      | inl decimal ↦ (and_parts (is_ascii_digit b) (list_all is_ascii_digit bs) decimal).0
      | inr based ↦ let zero_digit : b ≡ 48 = eqb-true b 48 (and_parts (b == 48) (are_based bs) based).0 in rw zero_digit refl
    ]

-- a string begins with a letter of its prefix or with a quote
pub opening_starts : (x : ℕ) (text : List ℕ) → is_some (opening (x ∷ text)) ≡ true → can_start String (class_of x) ≡ true
opening_starts x text is =
    elim (cases_Bool (x == 114)) [
      | inl r ↦ let same : x ≡ 114 = eqb-true x 114 r in rw same refl
      | inr no_r ↦ elim (cases_Bool (x == 98)) [
        | inl b ↦ let same : x ≡ 98 = eqb-true x 98 b in rw same refl
        | inr no_b ↦ elim (cases_Bool (is_quote x)) [
          | inl q ↦ rw (quote_class x q) refl
          | inr no_quote ↦ absurd (false≢true (rw (no_r, no_b, no_quote) at (sym (ap is_some (opening_is (x ∷ text))) ∙ is)))
        ]
      ]
    ]

string_starts : (x : ℕ) (text : List ℕ) → is_string (x ∷ text) ≡ true → can_start String (class_of x) ≡ true
string_starts x text is = opening_starts x text (some (opening (x ∷ text)) is)
  where
    some : (o : Option Opening) → is_closed o (x ∷ text) ≡ true → is_some o ≡ true
    some None h = absurd (false≢true h)
    some (Some o) h = refl

pub text_class : (kind : Kind) (x : ℕ) (text : List ℕ) → is_text kind (x ∷ text) ≡ true → can_start kind (class_of x) ≡ true
text_class Identifier x text is =
    let name = name_parts x text (and_parts (is_name (x ∷ text)) (not (is_keyword (x ∷ text))) is).0 in
    rw (letter_class x name.1 name.0) refl
text_class Keyword x text is = keyword_starts (x ∷ text) is
text_class Integer x text is = rw (digit_class x (number_starts x text is)) refl
text_class String x text is = string_starts x text is
text_class Operator x text is = operator_starts (x ∷ text) is
text_class Newline x text is = let same : x ≡ 10 = first_same (same_bytes (x ∷ text) (10 ∷ []) is) in rw same refl
  where
    first_same : x ∷ text ≡ 10 ∷ [] → x ≡ 10
    first_same e = cc
text_class Comment x text is =
    let same : x ≡ 35 = eqb-true x 35 (and_parts (x == 35) (not (list_any is_newline (x ∷ text))) (and_parts (begins (λ b. b == 35) (x ∷ text) && not (list_any is_newline (x ∷ text))) (not (ends_blank (x ∷ text))) is).0).0 in
    rw same refl
text_class Kept x text is = absurd (false≢true is)

pub empty_no_text : (kind : Kind) → is_text kind [] ≡ true → ⊥
empty_no_text Identifier is = false≢true is
empty_no_text Keyword is = false≢true (keyword_starts [] is)
empty_no_text Integer is = false≢true is
empty_no_text String is = false≢true is
empty_no_text Operator is = false≢true (operator_starts [] is)
empty_no_text Newline is = false≢true is
empty_no_text Comment is = false≢true is
empty_no_text Kept is = false≢true is
