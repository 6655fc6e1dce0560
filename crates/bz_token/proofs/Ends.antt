-- A text is the token at its place where what follows ends it.
use Rattle.std.proofs.Common.{◌≡◌, ℕ, zero, suc, ◌+◌, ◌<◌, ◌≤◌, ◌==◌, ◌&&◌, ◌||◌, List, [], ◌∷◌, ◌++◌, length, take, drop, Bool, true, false, not, refl, sym, ap, subst, ◌∙◌, arith, inl, inr, length-append, append_assoc, one-add, length-drop}
use Rattle.std.specs.Prelude.{Option, Some, None, nat_le}
use Rattle.std.specs.List.{list_all, list_any, prefix_len}
use Rattle.std.specs.Char.{is_ascii_digit, is_ascii_hexdigit}
use Rattle.std.proofs.lemmas.Bool.{cases_Bool, cases_lt, and_parts, or_cases, false≢true, eqb-true, not-true, or_parts}
use Rattle.std.proofs.lemmas.Bool.Decides.{nat_tests, Decides-eqb}
use Rattle.std.proofs.lemmas.List.{drop-append-le, take_at}
use Rattle.std.proofs.Math.Seq.{drop-nil}
use Rattle.std.proofs.lemmas.List.Folds.{list_any-append}
use Rattle.bz_token.specs.declared.scan_string.Opening.{Opening}
use Rattle.bz_token.specs.declared.scan_string.Quotes.{Quotes}
use Rattle.bz_token.specs.declared.scan_string.Escape.TheVariants.{Unescaped}
use Rattle.bz_token.specs.declared.token.Kind.{Kind}
use Rattle.bz_token.specs.declared.token.Kind.TheVariants.{Identifier, Keyword, Integer, String, Operator, Newline, Comment, Kept}
use Rattle.bz_token.specs.Strings.{is_quote, is_string, quote_count, are_two, opening}
use Rattle.bz_token.specs.Lexical.{is_word_byte, operators, is_operator_text, is_keyword, is_name, ends_blank, are_based, is_octal_digit, is_number, is_comment, is_text, counts, is_number_kind, is_string_kind, IsToken, HasNoToken}
use Rattle.bz_token.specs.private.Closing.{closes, opening_length, is_closed}
use Rattle.bz_token.specs.Ends.{is_prefix, is_empty_string, stops, stops_at}
use Rattle.bz_token.proofs.Classes.{Class, letter, digit, quote, newline, hash, mark, unknown, class_of, can_start, text_class, letter_class, digit_class, name_parts, keyword_name, number_starts, one_of, empty_no_text}
use Rattle.bz_token.proofs.StringUnits.{closes_units}
use Rattle.bz_token.proofs.Openings.{opening_more, name_opening, opening_facts, same_opening, opening_same, third_quote, no_opening, ends_name, closes_once}
use Rattle.bz_token.specs.Common.{is_empty, map_or, begins, is_newline}
use Rattle.bz_token.specs.Pieces.{is_blank}

-- what rules a longer token out
abbrev pub NoLonger : List ℕ → List ℕ → Type 0
NoLonger text after = (kind : Kind) (m : ℕ) (more rest : List ℕ) → after ≡ (m ∷ more) ++ rest → is_text kind (text ++ m ∷ more) ≡ true → counts (text ++ after) kind (text ++ m ∷ more) ≡ true → ⊥

pub token_from : (kind : Kind) (text after : List ℕ) → is_text kind text ≡ true → counts (text ++ after) kind text ≡ true → NoLonger text after → IsToken kind text after
token_from kind text after whole counted never = record {
  whole = whole;
  counted = counted;
  longest = λ other more rest. shorter other more rest;
}
  where
    shorter : (other : Kind) (more rest : List ℕ) → after ≡ more ++ rest → is_text other (text ++ more) ≡ true → counts (text ++ after) other (text ++ more) ≡ true → more ≡ []
    shorter other [] rest split is counted = refl
    shorter other (m ∷ more) rest split is counted = absurd (never other m more rest split is counted)

-- the first byte after stops the text
pub stops_first : (kind : Kind) (text after : List ℕ) (m : ℕ) (more rest : List ℕ) → stops_at kind text after ≡ true → after ≡ (m ∷ more) ++ rest → stops kind text m ≡ true
stops_first kind text after m more rest h split = rw split at h

-- at a place where no string and no number begins all texts count
pub counts_free : (place text : List ℕ) (kind : Kind) → opening place ≡ None → begins is_ascii_digit place ≡ false → counts place kind text ≡ true
counts_free place text kind unquoted plain = rw (unquoted, plain, counts) refl

all_last : (p : ℕ → Bool) (bs more : List ℕ) (m : ℕ) → list_all p (bs ++ m ∷ more) ≡ true → p m ≡ true
all_last p [] more m h = (and_parts (p m) (list_all p more) h).0
all_last p (b ∷ bs) more m h = all_last p bs more m (and_parts (p b) (list_all p (bs ++ m ∷ more)) h).1

-- a string text opens a string
pub string_opens : (text : List ℕ) → is_string text ≡ true → (o : Opening) × (opening text ≡ Some o) × (closes o.quotes 0 Unescaped (drop (opening_length o) text) ≡ true)
string_opens text is = opened (opening text) refl is
  where
    opened : (x : Option Opening) → opening text ≡ x → is_closed x text ≡ true → (o : Opening) × (opening text ≡ Some o) × (closes o.quotes 0 Unescaped (drop (opening_length o) text) ≡ true)
    opened None same h = absurd (false≢true h)
    opened (Some o) same h = (o, same, closes_units o.quotes (drop (opening_length o) text) (opening_facts text o same).quoted ∙ h)

-- no string stands where none opens
pub no_string : (place text rest : List ℕ) → opening place ≡ None → place ≡ text ++ rest → is_string text ≡ true → ⊥
no_string place text rest none split is =
    let s = string_opens text is in
    let m = opening_more text rest s.0 s.1 in
    absurd_some m.more (sym none ∙ ap opening split ∙ m.opens)
  where
    absurd_some : (b : Opening) → None ≡ Some b → ⊥
    absurd_some b e = cc

-- a name
pub name_token_at : (kind : Kind) (b : ℕ) (bs after : List ℕ) → is_text kind (b ∷ bs) ≡ true → is_name (b ∷ bs) ≡ true → opening ((b ∷ bs) ++ after) ≡ None → stops_at Integer [] after ≡ true → IsToken kind (b ∷ bs) after
name_token_at kind b bs after whole name unquoted stop =
    token_from kind (b ∷ bs) after whole (counts_free ((b ∷ bs) ++ after) (b ∷ bs) kind unquoted parts.0) longer
  where
    parts : (is_ascii_digit b ≡ false) × (is_word_byte b ≡ true) × (list_all is_word_byte bs ≡ true)
    parts = name_parts b bs name

    class : class_of b ≡ letter
    class = letter_class b parts.1 parts.0

    ends_word : (m : ℕ) (more rest : List ℕ) → after ≡ (m ∷ more) ++ rest → is_word_byte m ≡ false
    ends_word m more rest split =
        not-true (is_word_byte m) (rw split at stop)

    longer_name : (m : ℕ) (more rest : List ℕ) → after ≡ (m ∷ more) ++ rest → is_name ((b ∷ bs) ++ m ∷ more) ≡ true → ⊥
    longer_name m more rest split is =
        false≢true (sym (ends_word m more rest split) ∙ all_last is_word_byte bs more m (name_parts b (bs ++ m ∷ more) is).2)

    started : (other : Kind) (m : ℕ) (more : List ℕ) → is_text other ((b ∷ bs) ++ m ∷ more) ≡ true → can_start other letter ≡ true
    started other m more is = ap (can_start other) (sym class) ∙ text_class other b (bs ++ m ∷ more) is

    longer : NoLonger (b ∷ bs) after
    longer Identifier m more rest split is counted = longer_name m more rest split (and_parts (is_name ((b ∷ bs) ++ m ∷ more)) (not (is_keyword ((b ∷ bs) ++ m ∷ more))) is).0
    longer Keyword m more rest split is counted = longer_name m more rest split (keyword_name ((b ∷ bs) ++ m ∷ more) is)
    longer String m more rest split is counted = no_string ((b ∷ bs) ++ after) ((b ∷ bs) ++ m ∷ more) rest unquoted (ap (λ x. (b ∷ bs) ++ x) split ∙ simp append_assoc) is
    longer Integer m more rest split is counted = false≢true (started Integer m more is)
    longer Operator m more rest split is counted = false≢true (started Operator m more is)
    longer Newline m more rest split is counted = false≢true (started Newline m more is)
    longer Comment m more rest split is counted = false≢true (started Comment m more is)
    longer Kept m more rest split is counted = false≢true is

ends_word : (text after : List ℕ) → ends_name text after ≡ true → stops_at Integer [] after ≡ true
ends_word text [] stop = refl
ends_word text (b ∷ bs) stop = (and_parts (not (is_word_byte b)) (not (is_quote b && is_prefix text)) stop).0

pub name_token : (kind : Kind) (b : ℕ) (bs after : List ℕ) → is_text kind (b ∷ bs) ≡ true → is_name (b ∷ bs) ≡ true → ends_name (b ∷ bs) after ≡ true → IsToken kind (b ∷ bs) after
name_token kind b bs after whole name stop =
    let parts = name_parts b bs name in
    name_token_at kind b bs after whole name (name_opening b bs after parts.1 parts.2 stop) (ends_word (b ∷ bs) after stop)

-- all letters, digits and underscores of a run
pub run_length : (p : ℕ → Bool) (text after : List ℕ) → list_all p text ≡ true → prefix_len p after ≡ 0 → prefix_len p (text ++ after) ≡ length text
run_length p [] after all none = none
run_length p (b ∷ bs) after all none =
    let parts = and_parts (p b) (list_all p bs) all in
    rw (parts.0, one-add) (ap suc (run_length p bs after parts.1 none))

pub stops_run : (after : List ℕ) → stops_at Integer [] after ≡ true → prefix_len is_word_byte after ≡ 0
stops_run [] stop = refl
stops_run (b ∷ bs) stop = rw (not-true (is_word_byte b) stop) refl

digit_word : (b : ℕ) → is_ascii_digit b ≡ true → is_word_byte b ≡ true
digit_word b h = grind (arith, nat_tests)

digits_words : (bs : List ℕ) → list_all is_ascii_digit bs ≡ true → list_all is_word_byte bs ≡ true
digits_words [] h = refl
digits_words (b ∷ bs) h =
    let parts = and_parts (is_ascii_digit b) (list_all is_ascii_digit bs) h in
    rw (digit_word b parts.0, digits_words bs parts.1) refl

all_more : (p q : ℕ → Bool) → ((b : ℕ) → p b ≡ true → q b ≡ true) → (bs : List ℕ) → list_all p bs ≡ true → list_all q bs ≡ true
all_more p q imply [] h = refl
all_more p q imply (b ∷ bs) h =
    let parts = and_parts (p b) (list_all p bs) h in
    rw (imply b parts.0, all_more p q imply bs parts.1) refl

hex_word : (b : ℕ) → is_ascii_hexdigit b ≡ true → is_word_byte b ≡ true
hex_word b h = grind (arith, nat_tests)

octal_word : (b : ℕ) → is_octal_digit b ≡ true → is_word_byte b ≡ true
octal_word b h = grind (arith, nat_tests)

hex_letter : (x : ℕ) → (x == 120 || x == 88) ≡ true → is_word_byte x ≡ true
hex_letter x h = grind (arith, nat_tests)

octal_letter : (x : ℕ) → (x == 111 || x == 79) ≡ true → is_word_byte x ≡ true
octal_letter x h = grind (arith, nat_tests)

based_words : (bs : List ℕ) → are_based bs ≡ true → list_all is_word_byte bs ≡ true
based_words [] h = refl
based_words (x ∷ bs) h =
    elim (or_cases ((x == 120 || x == 88) && list_all is_ascii_hexdigit bs) ((x == 111 || x == 79) && list_all is_octal_digit bs) (and_parts (not (is_empty bs)) _ h).1) [
      | inl hex ↦
          let parts = and_parts (x == 120 || x == 88) (list_all is_ascii_hexdigit bs) hex in
          let first = hex_letter x parts.0 in
          let more = all_more is_ascii_hexdigit is_word_byte hex_word bs parts.1 in
          rw (first, more) refl
      | inr octal ↦
          let parts = and_parts (x == 111 || x == 79) (list_all is_octal_digit bs) octal in
          let first = octal_letter x parts.0 in
          let more = all_more is_octal_digit is_word_byte octal_word bs parts.1 in
          rw (first, more) refl
    ]

-- a number is letters and digits
pub number_words : (text : List ℕ) → is_number text ≡ true → list_all is_word_byte text ≡ true
number_words [] is = absurd (false≢true is)
number_words (b ∷ bs) is =
    elim (or_cases (list_all is_ascii_digit (b ∷ bs)) (b == 48 && are_based bs) is) [
      | inl decimal ↦ digits_words (b ∷ bs) decimal
      | inr based ↦
          let parts = and_parts (b == 48) (are_based bs) based in
          let zero_digit : b ≡ 48 = eqb-true b 48 parts.0 in
          let more = based_words bs parts.1 in
          rw (zero_digit, more) refl
    ]

-- a number's first byte
pub number_token : (b : ℕ) (bs after : List ℕ) → is_number (b ∷ bs) ≡ true → prefix_len is_word_byte after ≡ 0 → IsToken Integer (b ∷ bs) after
number_token b bs after whole stop = token_from Integer (b ∷ bs) after whole counted longer
  where
    first : is_ascii_digit b ≡ true
    first = number_starts b bs whole

    unquoted : opening ((b ∷ bs) ++ after) ≡ None
    unquoted = no_opening b (bs ++ after) (ap (can_start String) (digit_class b first))

    run : prefix_len is_word_byte ((b ∷ bs) ++ after) ≡ length (b ∷ bs)
    run = run_length is_word_byte (b ∷ bs) after (number_words (b ∷ bs) whole) stop

    counted : counts ((b ∷ bs) ++ after) Integer (b ∷ bs) ≡ true
    counted = rw (unquoted, first, counts) ((Decides-eqb (length (b ∷ bs)) (prefix_len is_word_byte ((b ∷ bs) ++ after))).1 (sym run))

    longer : NoLonger (b ∷ bs) after
    longer k m more rest split is counts_too =
        let test = rw (unquoted, first, counts) at counts_too in
        let same = eqb-true _ _ (and_parts (is_number_kind k) _ test).1 in
        absurd (omega (arith, same, run, length-append (b ∷ bs) (m ∷ more)))

-- a place whose first byte begins no string and no number
free : (kind : Kind) (b : ℕ) (bs after : List ℕ) → is_text kind (b ∷ bs) ≡ true → can_start String (class_of b) ≡ false → is_ascii_digit b ≡ false → NoLonger (b ∷ bs) after → IsToken kind (b ∷ bs) after
free kind b bs after whole unquoted plain never =
    token_from kind (b ∷ bs) after whole (counts_free ((b ∷ bs) ++ after) (b ∷ bs) kind (no_opening b (bs ++ after) unquoted) plain) never

pub no_digit : (b : ℕ) (c : Class) → class_of b ≡ c → can_start Integer c ≡ false → is_ascii_digit b ≡ false
no_digit b c is never = elim (cases_Bool (is_ascii_digit b)) [
  | inl hit ↦ absurd (false≢true (sym never ∙ ap (can_start Integer) (sym is ∙ digit_class b hit)))
  | inr miss ↦ miss
]

-- the operator byte's class is mark
pub mark_of : (b : ℕ) → can_start Operator (class_of b) ≡ true → class_of b ≡ mark
mark_of b h = only (class_of b) h
  where
    only : (c : Class) → can_start Operator c ≡ true → c ≡ mark
    only letter h = absurd (false≢true h)
    only digit h = absurd (false≢true h)
    only quote h = absurd (false≢true h)
    only newline h = absurd (false≢true h)
    only hash h = absurd (false≢true h)
    only mark h = refl
    only unknown h = absurd (false≢true h)

-- a longer operator goes on by an operator
abbrev pub is_in_steps : List ℕ → Bool
is_in_steps text = is_operator_text (take 2 text) && nat_le (length text) 3

pub operator_steps : (text : List ℕ) → is_operator_text text ≡ true → is_in_steps text ≡ true
unfolding operators
operator_steps text is = one_of is_in_steps operators text refl is

operator_goes_on : (a : ℕ) (bs more : List ℕ) (m : ℕ) → is_operator_text ((a ∷ bs) ++ m ∷ more) ≡ true → is_operator_text ((a ∷ bs) ++ m ∷ []) ≡ true
operator_goes_on a bs [] m is = is
operator_goes_on a [] (c ∷ more) m is = (and_parts (is_operator_text (a ∷ m ∷ [])) _ (operator_steps (a ∷ m ∷ c ∷ more) is)).0
operator_goes_on a (b ∷ bs) (c ∷ more) m is =
    absurd (too_long (length bs) (length more) _ (and_parts _ (nat_le (length ((a ∷ b ∷ bs) ++ m ∷ c ∷ more)) 3) (operator_steps ((a ∷ b ∷ bs) ++ m ∷ c ∷ more) is)).1 (length-append (a ∷ b ∷ bs) (m ∷ c ∷ more)))
  where
    too_long : (x y n : ℕ) → nat_le n 3 ≡ true → n ≡ suc (suc x) + suc (suc y) → ⊥
    too_long x y n h e = grind (arith, nat_tests)

pub operator_token : (b : ℕ) (bs after : List ℕ) → is_operator_text (b ∷ bs) ≡ true → stops_at Operator (b ∷ bs) after ≡ true → IsToken Operator (b ∷ bs) after
operator_token b bs after whole stop = free Operator b bs after whole (ap (can_start String) class) (no_digit b mark class refl) longer
  where
    class : class_of b ≡ mark
    class = mark_of b (text_class Operator b bs whole)

    started : (k : Kind) (m : ℕ) (more : List ℕ) → is_text k ((b ∷ bs) ++ m ∷ more) ≡ true → can_start k mark ≡ true
    started k m more is = ap (can_start k) (sym class) ∙ text_class k b (bs ++ m ∷ more) is

    longer : NoLonger (b ∷ bs) after
    longer Operator m more rest split is counted =
        false≢true (sym (not-true (is_operator_text ((b ∷ bs) ++ m ∷ [])) (stops_first Operator (b ∷ bs) after m more rest stop split)) ∙ operator_goes_on b bs more m is)
    longer Identifier m more rest split is counted = false≢true (started Identifier m more is)
    longer Keyword m more rest split is counted = false≢true (started Keyword m more is)
    longer Integer m more rest split is counted = false≢true (started Integer m more is)
    longer String m more rest split is counted = false≢true (started String m more is)
    longer Newline m more rest split is counted = false≢true (started Newline m more is)
    longer Comment m more rest split is counted = false≢true (started Comment m more is)
    longer Kept m more rest split is counted = false≢true is

pub line_token : (after : List ℕ) → IsToken Newline (10 ∷ []) after
line_token after = free Newline 10 [] after refl refl refl longer
  where
    longer : NoLonger (10 ∷ []) after
    longer Newline m more rest split is counted = false≢true is
    longer Identifier m more rest split is counted = false≢true (text_class Identifier 10 (m ∷ more) is)
    longer Keyword m more rest split is counted = false≢true (text_class Keyword 10 (m ∷ more) is)
    longer Integer m more rest split is counted = false≢true (text_class Integer 10 (m ∷ more) is)
    longer String m more rest split is counted = false≢true (text_class String 10 (m ∷ more) is)
    longer Operator m more rest split is counted = false≢true (text_class Operator 10 (m ∷ more) is)
    longer Comment m more rest split is counted = false≢true (text_class Comment 10 (m ∷ more) is)
    longer Kept m more rest split is counted = false≢true is

-- the parts of a comment
pub comment_parts : (text : List ℕ) → is_comment text ≡ true → (begins (λ b. b == 35) text ≡ true) × (list_any is_newline text ≡ false) × (ends_blank text ≡ false)
comment_parts text is =
    let front = and_parts (begins (λ b. b == 35) text && not (list_any is_newline text)) (not (ends_blank text)) is in
    let parts = and_parts (begins (λ b. b == 35) text) (not (list_any is_newline text)) front.0 in
    (parts.0, not-true (list_any is_newline text) parts.1, not-true (ends_blank text) front.1)

-- white space up to the line's end covers what stands there without a newline
blank_front : (xs rest : List ℕ) → list_any is_newline xs ≡ false → list_all is_blank (take (prefix_len (λ b. not (is_newline b)) (xs ++ rest)) (xs ++ rest)) ≡ true → list_all is_blank xs ≡ true
blank_front [] rest none blank = refl
blank_front (x ∷ xs) rest none blank =
    let parts = or_parts (is_newline x) (list_any is_newline xs) none in
    let here = parts.0 in
    let b = and_parts (is_blank x) (list_all is_blank (take (prefix_len (λ c. not (is_newline c)) (xs ++ rest)) (xs ++ rest))) (rw (here, one-add) at blank) in
    rw (b.0, blank_front xs rest parts.1 b.1) refl

blank_end : (xs more : List ℕ) (m : ℕ) → list_all is_blank (m ∷ more) ≡ true → ends_blank (xs ++ m ∷ more) ≡ true
blank_end [] [] m h = (and_parts (is_blank m) true h).0
blank_end [] (c ∷ more) m h = blank_end [] more c (and_parts (is_blank m) (list_all is_blank (c ∷ more)) h).1
blank_end (x ∷ []) more m h = blank_end [] more m h
blank_end (x ∷ y ∷ xs) more m h = blank_end (y ∷ xs) more m h

pub comment_token : (b : ℕ) (bs after : List ℕ) → is_comment (b ∷ bs) ≡ true → list_all is_blank (take (prefix_len (λ c. not (is_newline c)) after) after) ≡ true → IsToken Comment (b ∷ bs) after
comment_token b bs after whole stop = free Comment b bs after whole (ap (can_start String) class) (no_digit b hash class refl) longer
  where
    class : class_of b ≡ hash
    class = let same : b ≡ 35 = eqb-true b 35 (comment_parts (b ∷ bs) whole).0 in rw same refl

    started : (k : Kind) (m : ℕ) (more : List ℕ) → is_text k ((b ∷ bs) ++ m ∷ more) ≡ true → can_start k hash ≡ true
    started k m more is = ap (can_start k) (sym class) ∙ text_class k b (bs ++ m ∷ more) is

    longer_comment : (m : ℕ) (more rest : List ℕ) → after ≡ (m ∷ more) ++ rest → is_comment ((b ∷ bs) ++ m ∷ more) ≡ true → ⊥
    longer_comment m more rest split is =
        let parts = comment_parts ((b ∷ bs) ++ m ∷ more) is in
        let lines = or_parts (list_any is_newline (b ∷ bs)) (list_any is_newline (m ∷ more)) (sym (list_any-append is_newline (b ∷ bs) (m ∷ more)) ∙ parts.1) in
        let blank = blank_front (m ∷ more) rest lines.1 (rw split at stop) in
        false≢true (sym parts.2 ∙ blank_end (b ∷ bs) more m blank)

    longer : NoLonger (b ∷ bs) after
    longer Comment m more rest split is counted = longer_comment m more rest split is
    longer Identifier m more rest split is counted = false≢true (started Identifier m more is)
    longer Keyword m more rest split is counted = false≢true (started Keyword m more is)
    longer Integer m more rest split is counted = false≢true (started Integer m more is)
    longer String m more rest split is counted = false≢true (started String m more is)
    longer Operator m more rest split is counted = false≢true (started Operator m more is)
    longer Newline m more rest split is counted = false≢true (started Newline m more is)
    longer Kept m more rest split is counted = false≢true is

some_long : (text : List ℕ) (a : Opening) → opening text ≡ Some a → (long : Bool) → (map_or false (λ o. o.quotes.long) (opening text) || not long) ≡ true → long ≡ true → a.quotes.long ≡ true
some_long text a opens true h is = sym (ap (map_or false (λ o. o.quotes.long)) opens) ∙ or_false (map_or false (λ o. o.quotes.long) (opening text)) h
  where
    or_false : (x : Bool) → (x || false) ≡ true → x ≡ true
    or_false true h = refl
    or_false false h = h
some_long text a opens false h is = absurd (false≢true is)

-- a string that counts at a place opens as the place does
counted_string : (place text rest : List ℕ) (o : Opening) → opening place ≡ Some o → place ≡ text ++ rest → is_string text ≡ true → (map_or false (λ o. o.quotes.long) (opening text) || not o.quotes.long) ≡ true → closes o.quotes 0 Unescaped (drop (opening_length o) text) ≡ true
counted_string place text rest o opens split is counted =
    let s = string_opens text is in
    let same : s.0 ≡ o = same_opening text rest s.0 o s.1 (ap opening (sym split) ∙ opens) (some_long text s.0 s.1 o.quotes.long counted) in
    subst (λ x. closes x.quotes 0 Unescaped (drop (opening_length x) text) ≡ true) same s.2

-- where a string opens, strings alone count
counts_string : (place text : List ℕ) (kind : Kind) (o : Opening) → opening place ≡ Some o → counts place kind text ≡ true → (is_string_kind kind ≡ true) × ((map_or false (λ o. o.quotes.long) (opening text) || not o.quotes.long) ≡ true)
counts_string place text kind o opens counted = and_parts (is_string_kind kind) (map_or false (λ o. o.quotes.long) (opening text) || not o.quotes.long) (rw (opens, counts) at counted)

only_strings : (kind : Kind) (text : List ℕ) → is_string_kind kind ≡ true → is_text kind text ≡ true → is_string text ≡ true
only_strings String text h is = is
only_strings Identifier text h is = absurd (false≢true h)
only_strings Keyword text h is = absurd (false≢true h)
only_strings Integer text h is = absurd (false≢true h)
only_strings Operator text h is = absurd (false≢true h)
only_strings Newline text h is = absurd (false≢true h)
only_strings Comment text h is = absurd (false≢true h)
only_strings Kept text h is = absurd (false≢true h)

-- what closes stands after the opening quotes
closes_within : (q : Quotes) (n : ℕ) (text : List ℕ) → closes q 0 Unescaped (drop n text) ≡ true → n < length text
closes_within q n text h =
    elim (cases_lt n (length text)) [
      | inl less ↦ less
      | inr more ↦ absurd (false≢true (sym (ap (closes q 0 Unescaped) (drop-all n text more)) ∙ h))
    ]
  where
    drop-all : (n : ℕ) (xs : List ℕ) → length xs ≤ n → drop n xs ≡ []
    drop-all n [] h = drop-nil n
    drop-all zero (x ∷ xs) h = absurd (omega arith)
    drop-all (suc n) (x ∷ xs) h = drop-all n xs (omega arith)

-- a closed string opens the same whatever ends it
string_place : (text after : List ℕ) (o : Opening) → opening text ≡ Some o → closes o.quotes 0 Unescaped (drop (opening_length o) text) ≡ true → stops_at String text after ≡ true → opening (text ++ after) ≡ Some o
string_place text after o opens closed stop =
    let m = opening_more text after o opens in
    let same : m.more ≡ o = opening_same m.more o m.prefix m.byte (long m.more m.opens m.prefix m.byte m.long) in
    m.opens ∙ ap (λ x. Some x) same
  where
    long : (more : Opening) → opening (text ++ after) ≡ Some more → more.prefix ≡ o.prefix → more.quotes.byte ≡ o.quotes.byte → (o.quotes.long ≡ true → more.quotes.long ≡ true) → more.quotes.long ≡ o.quotes.long
    long more opens_more prefix byte keeps = elim (cases_Bool o.quotes.long) [
      | inl is ↦ keeps is ∙ sym is
      | inr short ↦ elim (cases_Bool more.quotes.long) [
        | inr also ↦ also ∙ sym short
        | inl three ↦
            let front = opening_facts text o opens in
            let whole = opening_facts (text ++ after) more opens_more in
            let qs = drop (o.prefix + 1) text in
            let none : are_two o.quotes.byte qs ≡ false = sym front.long ∙ short in
            let two : are_two o.quotes.byte (qs ++ after) ≡ true =
            sym (ap (are_two o.quotes.byte) (drop-append-le (o.prefix + 1) text after (omega (arith, front.within))))
            ∙ sym (ap (λ n. are_two o.quotes.byte (drop (n + 1) (text ++ after))) prefix)
            ∙ sym (ap (λ q. are_two q (drop (more.prefix + 1) (text ++ after))) byte)
            ∙ sym whole.long ∙ three in
            let quotes : o.quotes ≡ record { byte = o.quotes.byte; long = false } = λ i. record { byte = o.quotes.byte; long = short i } in
            let short_closed : closes (record { byte = o.quotes.byte; long = false }) 0 Unescaped qs ≡ true =
            sym (ap (λ x. closes x 0 Unescaped (drop (o.prefix + quote_count x.long) text)) quotes) ∙ closed in
            let third = third_quote o.quotes.byte qs after short_closed none two in
            let size : length text ≡ o.prefix + 2 = omega (arith, third.0, length-drop (o.prefix + 1) text, front.within) in
            absurd (never_third after third.1 short size stop)
      ]
    ]
      where
        never_third : (xs : List ℕ) → begins (λ b. b == o.quotes.byte) xs ≡ true → o.quotes.long ≡ false → length text ≡ o.prefix + 2 → stops_at String text xs ≡ true → ⊥
        never_third [] first short size stop = false≢true first
        never_third (x ∷ xs) first short size stop =
            let here = (Decides-eqb (length text) (o.prefix + 2)).1 size in
            let empty : is_empty_string (opening text) text x ≡ true = ap (λ y. is_empty_string y text x) opens ∙ rw (short, here, first) refl in
            false≢true (sym (rw empty refl) ∙ stop)

pub string_token_at : (text after : List ℕ) (o : Opening) → opening text ≡ Some o → opening (text ++ after) ≡ Some o → closes o.quotes 0 Unescaped (drop (opening_length o) text) ≡ true → IsToken String text after
string_token_at text after o opens place closed = token_from String text after whole counted longer
  where
    whole : is_string text ≡ true
    whole = rw (opens, is_closed) (sym (closes_units o.quotes (drop (opening_length o) text) (opening_facts text o opens).quoted) ∙ closed)

    long_or_not : (b : Bool) → (b || not b) ≡ true
    long_or_not true = refl
    long_or_not false = refl

    counted : counts (text ++ after) String text ≡ true
    counted = rw (place, counts) (ap (λ x. map_or false (λ o. o.quotes.long) x || not o.quotes.long) opens ∙ long_or_not o.quotes.long)

    longer : NoLonger text after
    longer k m more rest split is counts_too =
        let parts = counts_string (text ++ after) (text ++ m ∷ more) k o place counts_too in
        let string = only_strings k (text ++ m ∷ more) parts.0 is in
        let e : text ++ after ≡ (text ++ m ∷ more) ++ rest = ap (λ x. text ++ x) split ∙ simp append_assoc in
        let again = counted_string (text ++ after) (text ++ m ∷ more) rest o place e string parts.1 in
        let within = closes_within o.quotes (opening_length o) text closed in
        closes_once o.quotes 0 Unescaped (drop (opening_length o) text) more m closed
        (ap (closes o.quotes 0 Unescaped) (sym (drop-append-le (opening_length o) text (m ∷ more) (omega (arith, within)))) ∙ again)

pub string_token : (text after : List ℕ) (o : Opening) → opening text ≡ Some o → closes o.quotes 0 Unescaped (drop (opening_length o) text) ≡ true → stops_at String text after ≡ true → IsToken String text after
string_token text after o opens closed stop = string_token_at text after o opens (string_place text after o opens closed stop) closed

-- where a string opens that no front closes there is no token
pub open_string : (place : List ℕ) (o : Opening) → opening place ≡ Some o → ((n : ℕ) → closes o.quotes 0 Unescaped (take n (drop (opening_length o) place)) ≡ false) → HasNoToken place
open_string place o opens never kind text rest split is counted =
    let parts = counts_string place text kind o opens counted in
    let closed = counted_string place text rest o opens split (only_strings kind text parts.0 is) parts.1 in
    let within = closes_within o.quotes (opening_length o) text closed in
    let n = length (drop (opening_length o) text) in
    let back : drop (opening_length o) place ≡ drop (opening_length o) text ++ rest = ap (drop (opening_length o)) split ∙ drop-append-le (opening_length o) text rest (omega (arith, within)) in
    let front : take n (drop (opening_length o) place) ≡ drop (opening_length o) text = ap (take n) back ∙ take_at (drop (opening_length o) text) rest n refl in
    false≢true (sym (never n) ∙ ap (closes o.quotes 0 Unescaped) front ∙ closed)

only_numbers : (kind : Kind) (text : List ℕ) → is_number_kind kind ≡ true → is_text kind text ≡ true → is_number text ≡ true
only_numbers Integer text h is = is
only_numbers Identifier text h is = absurd (false≢true h)
only_numbers Keyword text h is = absurd (false≢true h)
only_numbers String text h is = absurd (false≢true h)
only_numbers Operator text h is = absurd (false≢true h)
only_numbers Newline text h is = absurd (false≢true h)
only_numbers Comment text h is = absurd (false≢true h)
only_numbers Kept text h is = absurd (false≢true h)

-- at a digit where the whole run is no number there is no token
pub bad_number : (b : ℕ) (bs : List ℕ) → is_ascii_digit b ≡ true → is_number (take (prefix_len is_word_byte (b ∷ bs)) (b ∷ bs)) ≡ false → HasNoToken (b ∷ bs)
bad_number b bs first bad kind text rest split is counted =
    let unquoted = no_opening b bs (ap (can_start String) (digit_class b first)) in
    let test = and_parts (is_number_kind kind) (length text == prefix_len is_word_byte (b ∷ bs)) (rw (unquoted, first, counts) at counted) in
    let same : length text ≡ prefix_len is_word_byte (b ∷ bs) = eqb-true _ _ test.1 in
    let front : take (prefix_len is_word_byte (b ∷ bs)) (b ∷ bs) ≡ text = ap (take (prefix_len is_word_byte (b ∷ bs))) split ∙ take_at text rest (prefix_len is_word_byte (b ∷ bs)) same in
    false≢true (sym bad ∙ ap is_number front ∙ only_numbers kind text test.0 is)

-- at a byte that begins nothing there is no token
pub bad_byte : (b : ℕ) (bs : List ℕ) → ((kind : Kind) → is_text kind [] ≡ true → ⊥) → ((kind : Kind) (text rest : List ℕ) → b ∷ bs ≡ (b ∷ text) ++ rest → is_text kind (b ∷ text) ≡ true → ⊥) → HasNoToken (b ∷ bs)
bad_byte b bs none never kind [] rest split is counted = none kind is
bad_byte b bs none never kind (x ∷ text) rest split is counted =
    let same : x ≡ b = cc in
    let again : b ∷ bs ≡ (b ∷ text) ++ rest = cc in
    never kind text rest again (ap (λ y. is_text kind (y ∷ text)) (sym same) ∙ is)

-- at a byte of no class, or one of an operator where no operator stands
pub no_operator : (b : ℕ) (bs : List ℕ) → (c : Class) → class_of b ≡ c → ((kind : Kind) → can_start kind c ≡ true → kind ≡ Operator) → ((n : ℕ) → is_operator_text (take n (b ∷ bs)) ≡ false) → HasNoToken (b ∷ bs)
no_operator b bs c is only none = bad_byte b bs empty_no_text never
  where
    never : (kind : Kind) (text rest : List ℕ) → b ∷ bs ≡ (b ∷ text) ++ rest → is_text kind (b ∷ text) ≡ true → ⊥
    never kind text rest split whole =
        let operator : kind ≡ Operator = only kind (ap (can_start kind) (sym is) ∙ text_class kind b text whole) in
        let front : take (length (b ∷ text)) (b ∷ bs) ≡ b ∷ text = ap (take (length (b ∷ text))) split ∙ take_at (b ∷ text) rest (length (b ∷ text)) refl in
        false≢true (sym (none (length (b ∷ text))) ∙ ap is_operator_text front ∙ subst (λ k. is_text k (b ∷ text) ≡ true) operator whole)
