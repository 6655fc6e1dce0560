-- What stands at a place before a newline stays the same, whatever follows the newline.
use Rattle.std.proofs.Common.{◌≡◌, ℕ, ◌<◌, ◌==◌, ◌&&◌, ◌||◌, List, [], ◌∷◌, ◌++◌, length, Bool, true, false, not, refl, sym, ap, ◌∙◌, arith, inl, inr, length-append}
use Rattle.std.specs.Prelude.{Option, Some, None}
use Rattle.std.specs.List.{list_all, list_any, prefix_len}
use Rattle.std.specs.Char.{is_ascii_digit}
use Rattle.std.proofs.lemmas.Bool.{cases_Bool, cases_lt, and_parts, or_cases, false≢true, eqb-true}
use Rattle.std.proofs.lemmas.Bool.Decides.{nat_tests}
use Rattle.bz_token.specs.declared.token.Kind.{Kind}
use Rattle.bz_token.specs.declared.token.Kind.TheVariants.{Identifier, Keyword, Integer, String, Operator, Newline, Comment, Kept}
use Rattle.bz_token.specs.declared.scan_string.Opening.{Opening}
use Rattle.bz_token.specs.Strings.{is_quote, opens_after, opening, is_string}
use Rattle.bz_token.specs.Lexical.{is_word_byte, is_name, is_keyword, is_text, is_string_kind, is_number_kind, counts, HasNoToken}
use Rattle.bz_token.specs.private.Gaps.{continues}
use Rattle.bz_token.proofs.Classes.{keyword_name, same_bytes}
use Rattle.bz_token.proofs.Openings.{opens_r, opens_rb, opens_b, opens_br, opens_plain}
use Rattle.bz_token.proofs.Ends.{number_words, comment_parts}
use Rattle.bz_token.proofs.Agree.{is_operator_plain, operator_plain}
use Rattle.bz_token.proofs.Unique.{longer_front}
use Rattle.bz_token.proofs.Joins.{any_left}
use Rattle.bz_token.specs.Common.{map_or, begins, is_newline}

abbrev pub has_newline : List ℕ → Bool
has_newline xs = list_any is_newline xs

-- a newline after another byte
newline_after : (x c : ℕ) (xs : List ℕ) → (x == c) ≡ true → (c == 10) ≡ false → has_newline (x ∷ xs) ≡ true → has_newline xs ≡ true
newline_after x c xs hit other h = sym (ap (λ y. y || has_newline xs) (ap is_newline (eqb-true x c hit) ∙ other)) ∙ h

only_newline : (x : ℕ) → has_newline (x ∷ []) ≡ true → x ≡ 10
only_newline x h = elim (or_cases (x == 10) false h) [
  | inl hit ↦ eqb-true x 10 hit
  | inr none ↦ absurd (false≢true none)
]

pub begins_more : (p : ℕ → Bool) (xs r : List ℕ) → has_newline xs ≡ true → begins p (xs ++ r) ≡ begins p xs
begins_more p [] r h = absurd (false≢true h)
begins_more p (x ∷ xs) r h = refl

pub continues_more : (xs r : List ℕ) → has_newline xs ≡ true → continues (xs ++ r) ≡ continues xs
continues_more [] r h = absurd (false≢true h)
continues_more (a ∷ []) r h = let same : a ≡ 10 = only_newline a h in rw same refl
continues_more (a ∷ b ∷ []) r h = elim (or_cases (a == 10) (has_newline (b ∷ [])) h) [
  | inl first ↦ let same : a ≡ 10 = eqb-true a 10 first in rw same refl
  | inr second ↦ let same : b ≡ 10 = only_newline b second in rw same (split (a == 92))
]
  where
    split : (x : Bool) → ((x && true) || (x && false)) ≡ ((x && true) || (x && false))
    split x = refl
continues_more (a ∷ b ∷ c ∷ cs) r h = refl

word_no_newline : (b : ℕ) → is_word_byte b ≡ true → is_newline b ≡ false
word_no_newline b h = grind (arith, nat_tests)

operator_no_newline : (b : ℕ) → is_operator_plain b ≡ true → is_newline b ≡ false
operator_no_newline b h = grind (arith, nat_tests)

pub words_more : (xs r : List ℕ) → has_newline xs ≡ true → prefix_len is_word_byte (xs ++ r) ≡ prefix_len is_word_byte xs
words_more [] r h = absurd (false≢true h)
words_more (x ∷ xs) r h = elim (cases_Bool (is_word_byte x)) [
  | inr miss ↦ rw miss refl
  | inl hit ↦
      let more = words_more xs r (sym (ap (λ y. y || has_newline xs) (word_no_newline x hit)) ∙ h) in
      rw (hit, more) refl
]

quote_no_newline : (q : ℕ) → is_quote q ≡ true → (q == 10) ≡ false
quote_no_newline q h = grind (arith, nat_tests)

newline_no_quote : (q : ℕ) → is_quote q ≡ true → (10 == q) ≡ false
newline_no_quote q h = grind (arith, nat_tests)

opens_same : (n : ℕ) (ys r : List ℕ) → has_newline ys ≡ true → opens_after n (ys ++ r) ≡ opens_after n ys
opens_same n [] r h = absurd (false≢true h)
opens_same n (q ∷ []) r h = let same : q ≡ 10 = only_newline q h in rw same refl
opens_same n (q ∷ a ∷ []) r h = elim (cases_Bool (is_quote q)) [
  | inr none ↦ rw none refl
  | inl quoted ↦
      let after : has_newline (a ∷ []) ≡ true = sym (ap (λ y. y || has_newline (a ∷ [])) (quote_no_newline q quoted)) ∙ h in
      let same : a ≡ 10 = only_newline a after in
      let other : (a == q) ≡ false = ap (λ x. x == q) same ∙ newline_no_quote q quoted in
      rw other refl
]
opens_same n (q ∷ a ∷ b ∷ bs) r h = refl

-- the string that opens at a place
pub opening_same_more : (xs r : List ℕ) → has_newline xs ≡ true → opening (xs ++ r) ≡ opening xs
opening_same_more [] r h = absurd (false≢true h)
opening_same_more (a ∷ bs) r h = elim (cases_Bool (a == 114)) [
  | inl hit ↦ after_r bs hit (newline_after a 114 bs hit refl h)
  | inr no_r ↦ elim (cases_Bool (a == 98)) [
    | inl hit ↦ after_b bs no_r hit (newline_after a 98 bs hit refl h)
    | inr no_b ↦ opens_plain a (bs ++ r) no_r no_b ∙ opens_same 0 (a ∷ bs) r h ∙ sym (opens_plain a bs no_r no_b)
  ]
]
  where
    after_r : (bs : List ℕ) → (a == 114) ≡ true → has_newline bs ≡ true → opening (a ∷ bs ++ r) ≡ opening (a ∷ bs)
    after_r [] hit h = absurd (false≢true h)
    after_r (c ∷ cs) hit h = elim (cases_Bool (c == 98)) [
      | inl b ↦ opens_rb a c (cs ++ r) hit b ∙ opens_same 2 cs r (newline_after c 98 cs b refl h) ∙ sym (opens_rb a c cs hit b)
      | inr no_b ↦ opens_r a (c ∷ cs ++ r) hit no_b ∙ opens_same 1 (c ∷ cs) r h ∙ sym (opens_r a (c ∷ cs) hit no_b)
    ]

    after_b : (bs : List ℕ) → (a == 114) ≡ false → (a == 98) ≡ true → has_newline bs ≡ true → opening (a ∷ bs ++ r) ≡ opening (a ∷ bs)
    after_b [] no_r hit h = absurd (false≢true h)
    after_b (c ∷ cs) no_r hit h = elim (cases_Bool (c == 114)) [
      | inl b ↦ opens_br a c (cs ++ r) no_r hit b ∙ opens_same 2 cs r (newline_after c 114 cs b refl h) ∙ sym (opens_br a c cs no_r hit b)
      | inr none ↦ opens_b a (c ∷ cs ++ r) no_r hit none ∙ opens_same 1 (c ∷ cs) r h ∙ sym (opens_b a (c ∷ cs) no_r hit none)
    ]

-- what counts, by what opens at the place, whether a digit stands there, and how many letters, digits and underscores
abbrev counts_by : Option Opening → Bool → ℕ → Kind → List ℕ → Bool
counts_by opens digit words kind text = elim opens [
  | Some o ↦ is_string_kind kind && (map_or false (λ o. o.quotes.long) (opening text) || not o.quotes.long)
  | None ↦ elim digit [
    | true ↦ is_number_kind kind && (length text == words)
    | false ↦ true
  ]
]

counts_more : (place r : List ℕ) (kind : Kind) (text : List ℕ) → has_newline place ≡ true → counts (place ++ r) kind text ≡ counts place kind text
counts_more place r kind text h = λ i. counts_by (opening_same_more place r h i) (begins_more is_ascii_digit place r h i) (words_more place r h i) kind text

all_no_newline : (p : ℕ → Bool) → ((b : ℕ) → p b ≡ true → is_newline b ≡ false) → (xs : List ℕ) → list_all p xs ≡ true → has_newline xs ≡ true → ⊥
all_no_newline p none [] all h = false≢true h
all_no_newline p none (x ∷ xs) all h =
    let parts = and_parts (p x) (list_all p xs) all in
    all_no_newline p none xs parts.1 (sym (ap (λ y. y || has_newline xs) (none x parts.0)) ∙ h)

-- only strings and Line tokens hold newlines
newline_text : (kind : Kind) (text : List ℕ) → is_text kind text ≡ true → has_newline text ≡ true → (is_string text ≡ true → ⊥) → text ≡ 10 ∷ []
newline_text Identifier text is h none = absurd (in_name text (and_parts (is_name text) (not (is_keyword text)) is).0 h)
  where
    in_name : (text : List ℕ) → is_name text ≡ true → has_newline text ≡ true → ⊥
    in_name [] name h = false≢true h
    in_name (b ∷ bs) name h = all_no_newline is_word_byte word_no_newline (b ∷ bs) (and_parts (not (is_ascii_digit b)) (list_all is_word_byte (b ∷ bs)) name).1 h
newline_text Keyword text is h none = absurd (in_name text (keyword_name text is) h)
  where
    in_name : (text : List ℕ) → is_name text ≡ true → has_newline text ≡ true → ⊥
    in_name [] name h = false≢true h
    in_name (b ∷ bs) name h = all_no_newline is_word_byte word_no_newline (b ∷ bs) (and_parts (not (is_ascii_digit b)) (list_all is_word_byte (b ∷ bs)) name).1 h
newline_text Integer text is h none = absurd (all_no_newline is_word_byte word_no_newline text (number_words text is) h)
newline_text String text is h none = absurd (none is)
newline_text Operator text is h none = absurd (all_no_newline is_operator_plain operator_no_newline text (and_parts (list_all is_operator_plain text) _ (operator_plain text is)).0 h)
newline_text Newline text is h none = same_bytes text (10 ∷ []) is
newline_text Comment text is h none = absurd (false≢true (sym (comment_parts text is).1 ∙ h))
newline_text Kept text is h none = absurd (false≢true is)

some_bytes : (xs : List ℕ) → has_newline xs ≡ true → 0 < length xs
some_bytes [] h = absurd (false≢true h)
some_bytes (x ∷ xs) h = omega arith

-- no token stands at a place before a newline unless a string goes on after it
pub none_more : (place r : List ℕ) → has_newline place ≡ true → HasNoToken place → ((more : List ℕ) → 0 < length more → is_string (place ++ more) ≡ true → ⊥) → HasNoToken (place ++ r)
none_more place r h none longer kind text rest same is counted = elim (cases_lt (length place) (length text)) [
  | inr short ↦
      let f = longer_front text place rest r (sym same) short in
      none kind text f.0 f.1 is (sym (counts_more place r kind text h) ∙ counted)
  | inl long ↦
      let f = longer_front place text r rest same (omega arith) in
      let held : has_newline text ≡ true = ap has_newline f.1 ∙ any_left is_newline place f.0 h in
      let one = newline_text kind text is held (λ s. longer f.0 (omega (arith, ap length f.1, length-append place f.0)) (ap is_string (sym f.1) ∙ s)) in
      absurd (omega (arith, ap length one, some_bytes place h))
]
