-- What opens a string, of a text and of a longer one.
use Rattle.std.proofs.Common.{◌≡◌, ℕ, zero, suc, ◌+◌, ◌<◌, ◌≤◌, ◌==◌, ◌&&◌, ◌||◌, List, [], ◌∷◌, ◌++◌, length, take, drop, Bool, true, false, not, refl, sym, ap, ◌∙◌, arith, inl, inr, get_or, ◌-◌, sub-one, subst, length-drop, take-append-drop, one-add}
use Rattle.std.specs.Prelude.{Option, Some, None, is_some}
use Rattle.std.specs.List.{list_all, list_any}
use Rattle.std.proofs.lemmas.Bool.{cases_Bool, and_parts, false≢true, eqb-true, not-true}
use Rattle.std.proofs.lemmas.List.{drop-drop}
use Rattle.std.proofs.Math.Seq.{take-nil}
use Rattle.std.proofs.lemmas.Bool.Decides.{nat_tests}
use Rattle.bz_token.specs.declared.scan_string.Opening.{Opening}
use Rattle.bz_token.specs.declared.scan_string.Quotes.{Quotes}
use Rattle.bz_token.specs.declared.scan_string.Escape.{Escape}
use Rattle.bz_token.specs.declared.scan_string.Escape.TheVariants.{Unescaped}
use Rattle.bz_token.specs.declared.token.Kind.TheVariants.{String}
use Rattle.bz_token.specs.Strings.{is_quote, quote_count, are_two, opens_after, opening}
use Rattle.bz_token.specs.Lexical.{is_word_byte}
use Rattle.bz_token.specs.private.Closing.{is_escaped, escape_after, closes, prefix_letters, opening_length}
use Rattle.bz_token.specs.Ends.{is_prefix}
use Rattle.bz_token.proofs.Prefixes.{opening_is}
use Rattle.bz_token.proofs.Classes.{class_of, can_start, opening_starts}
use Rattle.bz_token.specs.Common.{is_empty, begins, is_newline}

-- a longer text opens the same string, or a long one where the shorter text opened a short one
pub record OpensMore (o : Opening) (bytes : List ℕ) : Type 0 where
  pub more : Opening
  pub opens : opening bytes ≡ Some more
  pub prefix : more.prefix ≡ o.prefix
  pub byte : more.quotes.byte ≡ o.quotes.byte
  pub long : o.quotes.long ≡ true → more.quotes.long ≡ true

are_two-more : (q : ℕ) (qs xs : List ℕ) → are_two q qs ≡ true → are_two q (qs ++ xs) ≡ true
are_two-more q [] xs h = absurd (false≢true h)
are_two-more q (a ∷ []) xs h = absurd (false≢true ((and_parts (a == q) false h).1))
are_two-more q (a ∷ b ∷ qs) xs h = h

-- the same after the prefix
record OpensAfter (n : ℕ) (o : Opening) (bytes : List ℕ) : Type 0 where
  pub more : Opening
  pub opens : opens_after n bytes ≡ Some more
  pub prefix : more.prefix ≡ o.prefix
  pub byte : more.quotes.byte ≡ o.quotes.byte
  pub long : o.quotes.long ≡ true → more.quotes.long ≡ true

opens_after-more : (n : ℕ) (ys xs : List ℕ) (o : Opening) → opens_after n ys ≡ Some o → OpensAfter n o (ys ++ xs)
opens_after-more n [] xs o h = absurd cc
opens_after-more n (q ∷ qs) xs o h =
    elim (cases_Bool (is_quote q)) [
      | inl is ↦
          let same : record { prefix = n; quotes = record { byte = q; long = are_two q qs } } ≡ o = some_same _ o (rw is at h) in
          record {
            more = record { prefix = n; quotes = record { byte = q; long = are_two q (qs ++ xs) } };
            opens = rw is refl;
            prefix = ap (λ x. x.prefix) same;
            byte = ap (λ x. x.quotes.byte) same;
            long = λ l. are_two-more q qs xs (ap (λ x. x.quotes.long) same ∙ l);
          }
      | inr none ↦ absurd (none_some o (rw none at h))
    ]
  where
    some_same : (a b : Opening) → Some a ≡ Some b → a ≡ b
    some_same a b e = cc

    none_some : (b : Opening) → None ≡ Some b → ⊥
    none_some b e = cc

from_after : (n : ℕ) (bytes tail : List ℕ) (o : Opening) → opening bytes ≡ opens_after n tail → OpensAfter n o tail → OpensMore o bytes
from_after n bytes tail o same b = record { more = b.more; opens = same ∙ b.opens; prefix = b.prefix; byte = b.byte; long = b.long }

-- the four ways to open a string, by the first two bytes
pub opens_r : (a : ℕ) (bs : List ℕ) → (a == 114) ≡ true → begins (λ b. b == 98) bs ≡ false → opening (a ∷ bs) ≡ opens_after 1 bs
opens_r a bs r none = opening_is (a ∷ bs) ∙ rw (r, none) refl

pub opens_rb : (a c : ℕ) (cs : List ℕ) → (a == 114) ≡ true → (c == 98) ≡ true → opening (a ∷ c ∷ cs) ≡ opens_after 2 cs
opens_rb a c cs r b = opening_is (a ∷ c ∷ cs) ∙ rw (r, b) refl

pub opens_b : (a : ℕ) (bs : List ℕ) → (a == 114) ≡ false → (a == 98) ≡ true → begins (λ b. b == 114) bs ≡ false → opening (a ∷ bs) ≡ opens_after 1 bs
opens_b a bs no_r b none = opening_is (a ∷ bs) ∙ rw (no_r, b, none) refl

pub opens_br : (a c : ℕ) (cs : List ℕ) → (a == 114) ≡ false → (a == 98) ≡ true → (c == 114) ≡ true → opening (a ∷ c ∷ cs) ≡ opens_after 2 cs
opens_br a c cs no_r b r = opening_is (a ∷ c ∷ cs) ∙ rw (no_r, b, r) refl

pub opens_plain : (a : ℕ) (bs : List ℕ) → (a == 114) ≡ false → (a == 98) ≡ false → opening (a ∷ bs) ≡ opens_after 0 (a ∷ bs)
opens_plain a bs no_r no_b = opening_is (a ∷ bs) ∙ rw (no_r, no_b) refl

pub none_some : (b : Opening) → None ≡ Some b → ⊥
none_some b e = cc

pub opening_more : (text xs : List ℕ) (o : Opening) → opening text ≡ Some o → OpensMore o (text ++ xs)
opening_more [] xs o h = absurd (none_some o h)
opening_more (a ∷ bs) xs o h =
    elim (cases_Bool (a == 114)) [
      | inl r ↦ prefixed_r bs r h
      | inr no_r ↦ elim (cases_Bool (a == 98)) [
        | inl b ↦ prefixed_b bs no_r b h
        | inr no_b ↦ from_after 0 _ _ o (opens_plain a (bs ++ xs) no_r no_b) (opens_after-more 0 (a ∷ bs) xs o (sym (opens_plain a bs no_r no_b) ∙ h))
      ]
    ]
  where
    prefixed_r : (bs : List ℕ) → (a == 114) ≡ true → opening (a ∷ bs) ≡ Some o → OpensMore o ((a ∷ bs) ++ xs)
    prefixed_r [] r h = absurd (none_some o (sym (opens_r a [] r refl) ∙ h))
    prefixed_r (c ∷ cs) r h =
        elim (cases_Bool (c == 98)) [
          | inl b ↦ from_after 2 _ _ o (opens_rb a c (cs ++ xs) r b) (opens_after-more 2 cs xs o (sym (opens_rb a c cs r b) ∙ h))
          | inr no_b ↦ from_after 1 _ _ o (opens_r a (c ∷ cs ++ xs) r no_b) (opens_after-more 1 (c ∷ cs) xs o (sym (opens_r a (c ∷ cs) r no_b) ∙ h))
        ]

    prefixed_b : (bs : List ℕ) → (a == 114) ≡ false → (a == 98) ≡ true → opening (a ∷ bs) ≡ Some o → OpensMore o ((a ∷ bs) ++ xs)
    prefixed_b [] no_r b h = absurd (none_some o (sym (opens_b a [] no_r b refl) ∙ h))
    prefixed_b (c ∷ cs) no_r b h =
        elim (cases_Bool (c == 114)) [
          | inl r ↦ from_after 2 _ _ o (opens_br a c (cs ++ xs) no_r b r) (opens_after-more 2 cs xs o (sym (opens_br a c cs no_r b r) ∙ h))
          | inr none ↦ from_after 1 _ _ o (opens_b a (c ∷ cs ++ xs) no_r b none) (opens_after-more 1 (c ∷ cs) xs o (sym (opens_b a (c ∷ cs) no_r b none) ∙ h))
        ]

opens_none : (n q : ℕ) (qs : List ℕ) → is_quote q ≡ false → opens_after n (q ∷ qs) ≡ None
opens_none n q qs none = rw none refl

word_no_quote : (b : ℕ) → is_word_byte b ≡ true → is_quote b ≡ false
word_no_quote b h = grind (arith, nat_tests)

no_word_other : (b c : ℕ) → is_word_byte b ≡ false → is_word_byte c ≡ true → (b == c) ≡ false
no_word_other b c none word = elim (cases_Bool (b == c)) [
  | inl same ↦ absurd (false≢true (sym none ∙ ap is_word_byte (eqb-true b c same) ∙ word))
  | inr other ↦ other
]

-- what may stand after a name, so that no string opens at its first byte
abbrev pub ends_name : List ℕ → List ℕ → Bool
ends_name text [] = true
ends_name text (b ∷ bs) = not (is_word_byte b) && not (is_quote b && is_prefix text)

-- after a prefix that is the whole name no quote stands
opens_after_name : (n : ℕ) (text after : List ℕ) → is_prefix text ≡ true → ends_name text after ≡ true → opens_after n after ≡ None
opens_after_name n text [] is ends = refl
opens_after_name n text (q ∷ qs) is ends =
    opens_none n q qs (quoteless (is_quote q) (not-true (is_quote q && is_prefix text) (and_parts (not (is_word_byte q)) (not (is_quote q && is_prefix text)) ends).1))
  where
    quoteless : (x : Bool) → (x && is_prefix text) ≡ false → x ≡ false
    quoteless true h = absurd (false≢true (sym h ∙ is))
    quoteless false h = refl

-- no string opens at a name
pub name_opening : (a : ℕ) (bs after : List ℕ) → is_word_byte a ≡ true → list_all is_word_byte bs ≡ true → ends_name (a ∷ bs) after ≡ true → opening ((a ∷ bs) ++ after) ≡ None
name_opening a bs after word words ends =
    elim (cases_Bool (a == 114)) [
      | inl r ↦ prefixed_r bs words ends r
      | inr no_r ↦ elim (cases_Bool (a == 98)) [
        | inl b ↦ prefixed_b bs words ends no_r b
        | inr no_b ↦ opens_plain a (bs ++ after) no_r no_b ∙ opens_none 0 a (bs ++ after) (word_no_quote a word)
      ]
    ]
  where
    first_byte : (c : ℕ) → is_word_byte c ≡ true → ends_name (a ∷ []) after ≡ true → begins (λ b. b == c) after ≡ false
    first_byte c is ends = first after ends
      where
        first : (xs : List ℕ) → ends_name (a ∷ []) xs ≡ true → begins (λ b. b == c) xs ≡ false
        first [] h = refl
        first (x ∷ xs) h = no_word_other x c (not-true (is_word_byte x) (and_parts (not (is_word_byte x)) (not (is_quote x && is_prefix (a ∷ []))) h).0) is

    is_r : (a == 114) ≡ true → is_prefix (a ∷ []) ≡ true
    is_r r = let same : a ≡ 114 = eqb-true a 114 r in rw same refl

    is_b : (a == 98) ≡ true → is_prefix (a ∷ []) ≡ true
    is_b b = let same : a ≡ 98 = eqb-true a 98 b in rw same refl

    is_rb : (c : ℕ) → (a == 114) ≡ true → (c == 98) ≡ true → is_prefix (a ∷ c ∷ []) ≡ true
    is_rb c r b = let same : a ≡ 114 = eqb-true a 114 r in let next : c ≡ 98 = eqb-true c 98 b in rw (same, next) refl

    is_br : (c : ℕ) → (a == 98) ≡ true → (c == 114) ≡ true → is_prefix (a ∷ c ∷ []) ≡ true
    is_br c b r = let same : a ≡ 98 = eqb-true a 98 b in let next : c ≡ 114 = eqb-true c 114 r in rw (same, next) refl

    after_two : (c : ℕ) (cs : List ℕ) → is_prefix (a ∷ c ∷ []) ≡ true → list_all is_word_byte (c ∷ cs) ≡ true → ends_name (a ∷ c ∷ cs) after ≡ true → opens_after 2 (cs ++ after) ≡ None
    after_two c [] is words ends = opens_after_name 2 (a ∷ c ∷ []) after is ends
    after_two c (d ∷ cs) is words ends =
        opens_none 2 d (cs ++ after) (word_no_quote d (and_parts (is_word_byte d) (list_all is_word_byte cs) (and_parts (is_word_byte c) (list_all is_word_byte (d ∷ cs)) words).1).0)

    prefixed_r : (bs : List ℕ) → list_all is_word_byte bs ≡ true → ends_name (a ∷ bs) after ≡ true → (a == 114) ≡ true → opening ((a ∷ bs) ++ after) ≡ None
    prefixed_r [] words ends r = opens_r a after r (first_byte 98 refl ends) ∙ opens_after_name 1 (a ∷ []) after (is_r r) ends
    prefixed_r (c ∷ cs) words ends r =
        elim (cases_Bool (c == 98)) [
          | inl b ↦ opens_rb a c (cs ++ after) r b ∙ after_two c cs (is_rb c r b) words ends
          | inr none ↦ opens_r a (c ∷ cs ++ after) r none ∙ opens_none 1 c (cs ++ after) (word_no_quote c (and_parts (is_word_byte c) (list_all is_word_byte cs) words).0)
        ]

    prefixed_b : (bs : List ℕ) → list_all is_word_byte bs ≡ true → ends_name (a ∷ bs) after ≡ true → (a == 114) ≡ false → (a == 98) ≡ true → opening ((a ∷ bs) ++ after) ≡ None
    prefixed_b [] words ends no_r b = opens_b a after no_r b (first_byte 114 refl ends) ∙ opens_after_name 1 (a ∷ []) after (is_b b) ends
    prefixed_b (c ∷ cs) words ends no_r b =
        elim (cases_Bool (c == 114)) [
          | inl r ↦ opens_br a c (cs ++ after) no_r b r ∙ after_two c cs (is_br c b r) words ends
          | inr none ↦ opens_b a (c ∷ cs ++ after) no_r b none ∙ opens_none 1 c (cs ++ after) (word_no_quote c (and_parts (is_word_byte c) (list_all is_word_byte cs) words).0)
        ]

-- no string opens at a byte of a class that begins none
pub no_opening : (x : ℕ) (text : List ℕ) → can_start String (class_of x) ≡ false → opening (x ∷ text) ≡ None
no_opening x text never = none_of (opening (x ∷ text)) (λ is. false≢true (sym never ∙ opening_starts x text is))
  where
    none_of : (o : Option Opening) → (is_some o ≡ true → ⊥) → o ≡ None
    none_of None h = refl
    none_of (Some o) h = absurd (h refl)

never_empty : (bs more : List ℕ) (m : ℕ) → is_empty (bs ++ m ∷ more) ≡ true → ⊥
never_empty [] more m h = false≢true h
never_empty (b ∷ bs) more m h = false≢true h

-- a string that closes does not go on
pub closes_once : (q : Quotes) (row : ℕ) (e : Escape) (bs more : List ℕ) (m : ℕ) → closes q row e bs ≡ true → closes q row e (bs ++ m ∷ more) ≡ true → ⊥
closes_once q row e [] more m a b = false≢true a
closes_once q row e (x ∷ bs) more m a b =
    elim (cases_Bool (is_escaped e x)) [
      | inl escaped ↦ closes_once q 0 (escape_after e x) bs more m (rw (escaped, closes) at a) (rw (escaped, closes) at b)
      | inr plain ↦ elim (cases_Bool (x == q.byte)) [
        | inl quoted ↦ elim (cases_Bool (row + 1 == quote_count q.long)) [
          | inl closed ↦ never_empty bs more m (rw (plain, quoted, closed, closes) at b)
          | inr short ↦ closes_once q (row + 1) (escape_after e x) bs more m (rw (plain, quoted, short, closes) at a) (rw (plain, quoted, short, closes) at b)
        ]
        | inr other ↦
            closes_once q 0 (escape_after e x) bs more m
            (and_parts (q.long || not (x == 10)) (closes q 0 (escape_after e x) bs) (rw (plain, other, closes) at a)).1
            (and_parts (q.long || not (x == 10)) (closes q 0 (escape_after e x) (bs ++ m ∷ more)) (rw (plain, other, closes) at b)).1
      ]
    ]

-- a closed string ends in its quote
pub closes_last : (q : Quotes) (row : ℕ) (e : Escape) (bs : List ℕ) → closes q row e bs ≡ true → get_or bs (length bs - 1) 0 ≡ q.byte
closes_last q row e [] h = absurd (false≢true h)
closes_last q row e (x ∷ bs) h =
    elim (cases_Bool (is_escaped e x)) [
      | inl escaped ↦ let h' = rw (escaped, closes) at h in following bs 0 (escape_after e x) h' (closes_last q 0 (escape_after e x) bs h')
      | inr plain ↦ elim (cases_Bool (x == q.byte)) [
        | inl quoted ↦ elim (cases_Bool (row + 1 == quote_count q.long)) [
          | inl closed ↦ last bs (rw (plain, quoted, closed, closes) at h) quoted
          | inr short ↦ let h' = rw (plain, quoted, short, closes) at h in following bs (row + 1) (escape_after e x) h' (closes_last q (row + 1) (escape_after e x) bs h')
        ]
        | inr other ↦
            let h' = (and_parts (q.long || not (x == 10)) (closes q 0 (escape_after e x) bs) (rw (plain, other, closes) at h)).1 in
            following bs 0 (escape_after e x) h' (closes_last q 0 (escape_after e x) bs h')
      ]
    ]
  where
    following : (ys : List ℕ) (row : ℕ) (e : Escape) → closes q row e ys ≡ true → get_or ys (length ys - 1) 0 ≡ q.byte → get_or (x ∷ ys) (length (x ∷ ys) - 1) 0 ≡ q.byte
    following [] row e h last = absurd (false≢true h)
    following (y ∷ ys) row e h last = rw sub-one (rw sub-one at last)

    last : (ys : List ℕ) → is_empty ys ≡ true → (x == q.byte) ≡ true → get_or (x ∷ ys) (length (x ∷ ys) - 1) 0 ≡ q.byte
    last [] h same = eqb-true x q.byte same
    last (y ∷ ys) h same = absurd (false≢true h)

-- what is known of what opens at a place
pub record OpensAt (o : Opening) (bytes : List ℕ) : Type 0 where
  pub within : o.prefix < length bytes
  pub quoted : is_quote o.quotes.byte ≡ true
  pub long : o.quotes.long ≡ are_two o.quotes.byte (drop (o.prefix + 1) bytes)

opens_facts : (n : ℕ) (bytes ys : List ℕ) (o : Opening) → drop n bytes ≡ ys → opens_after n ys ≡ Some o → OpensAt o bytes
opens_facts n bytes [] o here h = absurd (none_some o h)
opens_facts n bytes (q ∷ qs) o here h =
    elim (cases_Bool (is_quote q)) [
      | inr none ↦ absurd (none_some o (rw none at h))
      | inl is ↦
          let same : record { prefix = n; quotes = record { byte = q; long = are_two q qs } } ≡ o = some_same _ o (rw is at h) in
          let following : drop (n + 1) bytes ≡ qs = sym (drop-drop 1 n bytes) ∙ ap (drop 1) here in
          subst (λ x. OpensAt x bytes) same
          (record { within = omega (arith, ap length here, length-drop n bytes); quoted = is; long = ap (are_two q) (sym following) })
    ]
  where
    some_same : (a b : Opening) → Some a ≡ Some b → a ≡ b
    some_same a b e = cc

pub opening_facts : (bytes : List ℕ) (o : Opening) → opening bytes ≡ Some o → OpensAt o bytes
opening_facts bytes o h = opens_facts (prefix_letters bytes) bytes (drop (prefix_letters bytes) bytes) o refl (sym (opening_is bytes) ∙ h)

pub same_bool : (a b : Bool) → (a ≡ true → b ≡ true) → (b ≡ true → a ≡ true) → a ≡ b
same_bool true b f g = sym (f refl)
same_bool false true f g = absurd (false≢true (g refl))
same_bool false false f g = refl

pub opening_same : (a b : Opening) → a.prefix ≡ b.prefix → a.quotes.byte ≡ b.quotes.byte → a.quotes.long ≡ b.quotes.long → a ≡ b
opening_same a b p q l = λ i. record { prefix = p i; quotes = record { byte = q i; long = l i } }

-- a front opens what its place opens, where it opens three quotes if the place does
pub same_opening : (front rest : List ℕ) (a b : Opening) → opening front ≡ Some a → opening (front ++ rest) ≡ Some b → (b.quotes.long ≡ true → a.quotes.long ≡ true) → a ≡ b
same_opening front rest a b opens whole long =
    let m = opening_more front rest a opens in
    let same : m.more ≡ b = some_same m.more b (sym m.opens ∙ whole) in
    opening_same a b (sym m.prefix ∙ ap (λ x. x.prefix) same) (sym m.byte ∙ ap (λ x. x.quotes.byte) same)
    (same_bool a.quotes.long b.quotes.long (λ h. sym (ap (λ x. x.quotes.long) same) ∙ m.long h) long)
  where
    some_same : (a b : Opening) → Some a ≡ Some b → a ≡ b
    some_same a b e = cc

-- a short string to which one quote more gives a third one is empty
pub third_quote : (q : ℕ) (qs after : List ℕ) → closes (record { byte = q; long = false }) 0 Unescaped qs ≡ true → are_two q qs ≡ false → are_two q (qs ++ after) ≡ true → (length qs ≡ 1) × (begins (λ b. b == q) after ≡ true)
third_quote q [] after closed none two = absurd (false≢true closed)
third_quote q (c ∷ []) after closed none two = (refl, (and_parts (c == q) (begins (λ b. b == q) after) two).1)
third_quote q (c ∷ d ∷ qs) after closed none two = absurd (false≢true (sym none ∙ two))

are_two-front : (q : ℕ) (qs : List ℕ) (k : ℕ) → are_two q qs ≡ true → 2 ≤ k → are_two q (take k qs) ≡ true
are_two-front q [] k two h = absurd (false≢true two)
are_two-front q (a ∷ []) k two h = absurd (false≢true ((and_parts (a == q) false two).1))
are_two-front q (a ∷ b ∷ qs) zero two h = absurd (omega arith)
are_two-front q (a ∷ b ∷ qs) (suc zero) two h = absurd (omega arith)
are_two-front q (a ∷ b ∷ qs) (suc (suc k)) two h = two

are_two-take : (q : ℕ) (qs : List ℕ) (k : ℕ) → quote_count (are_two q qs) ≤ suc k → are_two q (take k qs) ≡ are_two q qs
are_two-take q qs k enough = elim (cases_Bool (are_two q qs)) [
  | inl two ↦ are_two-front q qs k two (omega (arith, rw two at enough)) ∙ sym two
  | inr none ↦ elim (cases_Bool (are_two q (take k qs))) [
    | inr also ↦ also ∙ sym none
    | inl two ↦ absurd (false≢true (sym none ∙ ap (are_two q) (sym (take-append-drop k qs)) ∙ are_two-more q (take k qs) (drop k qs) two))
  ]
]

opens_front : (n : ℕ) (ys : List ℕ) (o : Opening) (m : ℕ) → opens_after n ys ≡ Some o → quote_count o.quotes.long ≤ m → opens_after n (take m ys) ≡ Some o
opens_front n [] o m h enough = absurd (none_some o h)
opens_front n (q ∷ qs) o zero h enough = absurd (row_some o.quotes.long enough)
  where
    row_some : (b : Bool) → quote_count b ≤ 0 → ⊥
    row_some true h = absurd (omega arith)
    row_some false h = absurd (omega arith)
opens_front n (q ∷ qs) o (suc k) h enough =
    elim (cases_Bool (is_quote q)) [
      | inr none ↦ absurd (none_some o (rw none at h))
      | inl is ↦
          let same : record { prefix = n; quotes = record { byte = q; long = are_two q qs } } ≡ o = some_same _ o (rw is at h) in
          let fits : quote_count (are_two q qs) ≤ suc k = subst (λ x. quote_count x.quotes.long ≤ suc k) (sym same) enough in
          rw (is, are_two-take q qs k fits) (ap (λ x. Some x) same)
    ]
  where
    some_same : (a b : Opening) → Some a ≡ Some b → a ≡ b
    some_same a b e = cc

begins_front : (p : ℕ → Bool) (bs : List ℕ) (k : ℕ) → begins p bs ≡ false → begins p (take k bs) ≡ false
begins_front p [] k h = ap (begins p) (take-nil k)
begins_front p (b ∷ bs) zero h = refl
begins_front p (b ∷ bs) (suc k) h = h

prefix_is : (n : ℕ) (ys : List ℕ) (o : Opening) → opens_after n ys ≡ Some o → o.prefix ≡ n
prefix_is n [] o h = absurd (none_some o h)
prefix_is n (q ∷ qs) o h =
    elim (cases_Bool (is_quote q)) [
      | inr none ↦ absurd (none_some o (rw none at h))
      | inl is ↦ ap (λ x. x.prefix) (sym (some_same _ o (rw is at h)))
    ]
  where
    some_same : (a b : Opening) → Some a ≡ Some b → a ≡ b
    some_same a b e = cc

-- a front that has the opening quotes opens the same, and no newline stands in them
pub record OpensFront (o : Opening) (bytes : List ℕ) : Type 0 where
  pub front : (m : ℕ) → opening_length o ≤ m → opening (take m bytes) ≡ Some o
  pub one_line : list_any is_newline (take (opening_length o) bytes) ≡ false

quote_no_newline : (q : ℕ) → is_quote q ≡ true → is_newline q ≡ false
quote_no_newline q h = grind (arith, nat_tests)

same_no_newline : (q b : ℕ) → is_newline q ≡ false → (b == q) ≡ true → is_newline b ≡ false
same_no_newline q b h same = ap is_newline (eqb-true b q same) ∙ h

quotes_line : (n : ℕ) (ys : List ℕ) (o : Opening) → opens_after n ys ≡ Some o → list_any is_newline (take (quote_count o.quotes.long) ys) ≡ false
quotes_line n [] o h = absurd (none_some o h)
quotes_line n (q ∷ qs) o h =
    elim (cases_Bool (is_quote q)) [
      | inr none ↦ absurd (none_some o (rw none at h))
      | inl is ↦
          let same : record { prefix = n; quotes = record { byte = q; long = are_two q qs } } ≡ o = some_same _ o (rw is at h) in
          subst (λ x. list_any is_newline (take (quote_count x.quotes.long) (q ∷ qs)) ≡ false) same (row qs (are_two q qs) refl (quote_no_newline q is))
    ]
  where
    some_same : (a b : Opening) → Some a ≡ Some b → a ≡ b
    some_same a b e = cc

    row : (qs : List ℕ) (b : Bool) → are_two q qs ≡ b → is_newline q ≡ false → list_any is_newline (take (quote_count b) (q ∷ qs)) ≡ false
    row qs false two first = rw first refl
    row [] true two first = absurd (false≢true two)
    row (x ∷ []) true two first = absurd (false≢true ((and_parts (x == q) false two).1))
    row (x ∷ y ∷ qs) true two first =
        let parts = and_parts (x == q) (y == q) two in
        let second = same_no_newline q x first parts.0 in
        let third = same_no_newline q y first parts.1 in
        rw (first, second, third) refl

letter_no_newline : (a c : ℕ) → (a == c) ≡ true → is_newline c ≡ false → is_newline a ≡ false
letter_no_newline a c same h = ap is_newline (eqb-true a c same) ∙ h

some_row : (b : Bool) → 0 < quote_count b
some_row true = omega arith
some_row false = omega arith

length_is : (n : ℕ) (ys : List ℕ) (o : Opening) → opens_after n ys ≡ Some o → opening_length o ≡ n + quote_count o.quotes.long
length_is n ys o h = ap (λ x. x + quote_count o.quotes.long) (prefix_is n ys o h)

front_0 : (bytes : List ℕ) (o : Opening) → opens_after 0 bytes ≡ Some o → ((m : ℕ) → 0 < m → opening (take m bytes) ≡ opens_after 0 (take m bytes)) → OpensFront o bytes
front_0 bytes o h same =
    let size : opening_length o ≡ quote_count o.quotes.long = length_is 0 bytes o h ∙ omega arith in
    record {
      front = λ m enough. same m (omega (arith, some_row o.quotes.long, size, enough)) ∙ opens_front 0 bytes o m h (omega (arith, size, enough));
      one_line = ap (λ n. list_any is_newline (take n bytes)) size ∙ quotes_line 0 bytes o h;
    }

front_1 : (a : ℕ) (bs : List ℕ) (o : Opening) → is_newline a ≡ false → opens_after 1 bs ≡ Some o → ((k : ℕ) → opening (a ∷ take k bs) ≡ opens_after 1 (take k bs)) → OpensFront o (a ∷ bs)
front_1 a bs o plain h same =
    let size : opening_length o ≡ 1 + quote_count o.quotes.long = length_is 1 bs o h in
    record {
      front = λ m enough. front m (omega (arith, size, enough));
      one_line = ap (λ n. list_any is_newline (take n (a ∷ bs))) size ∙ rw (one-add, plain) (quotes_line 1 bs o h);
    }
  where
    front : (m : ℕ) → 1 + quote_count o.quotes.long ≤ m → opening (take m (a ∷ bs)) ≡ Some o
    front zero enough = absurd (omega arith)
    front (suc k) enough = same k ∙ opens_front 1 bs o k h (omega arith)

front_2 : (a c : ℕ) (cs : List ℕ) (o : Opening) → is_newline a ≡ false → is_newline c ≡ false → opens_after 2 cs ≡ Some o → ((k : ℕ) → opening (a ∷ c ∷ take k cs) ≡ opens_after 2 (take k cs)) → OpensFront o (a ∷ c ∷ cs)
front_2 a c cs o plain plain2 h same =
    let size : opening_length o ≡ suc (suc (quote_count o.quotes.long)) = length_is 2 cs o h ∙ omega arith in
    record {
      front = λ m enough. front m (omega (arith, size, enough));
      one_line = ap (λ n. list_any is_newline (take n (a ∷ c ∷ cs))) size ∙ rw (plain, plain2) (quotes_line 2 cs o h);
    }
  where
    front : (m : ℕ) → 2 + quote_count o.quotes.long ≤ m → opening (take m (a ∷ c ∷ cs)) ≡ Some o
    front zero enough = absurd (omega arith)
    front (suc zero) enough = absurd (omega (arith, some_row o.quotes.long))
    front (suc (suc k)) enough = same k ∙ opens_front 2 cs o k h (omega arith)

pub opening_front : (bytes : List ℕ) (o : Opening) → opening bytes ≡ Some o → OpensFront o bytes
opening_front [] o h = absurd (none_some o h)
opening_front (a ∷ bs) o h =
    elim (cases_Bool (a == 114)) [
      | inl r ↦ prefixed_r bs r h
      | inr no_r ↦ elim (cases_Bool (a == 98)) [
        | inl b ↦ prefixed_b bs no_r b h
        | inr no_b ↦ front_0 (a ∷ bs) o (sym (opens_plain a bs no_r no_b) ∙ h) (λ m some. plain_front m some no_r no_b)
      ]
    ]
  where
    plain_front : (m : ℕ) → 0 < m → (a == 114) ≡ false → (a == 98) ≡ false → opening (take m (a ∷ bs)) ≡ opens_after 0 (take m (a ∷ bs))
    plain_front zero some no_r no_b = absurd (omega arith)
    plain_front (suc k) some no_r no_b = opens_plain a (take k bs) no_r no_b

    prefixed_r : (bs : List ℕ) → (a == 114) ≡ true → opening (a ∷ bs) ≡ Some o → OpensFront o (a ∷ bs)
    prefixed_r [] r h = absurd (none_some o (sym (opens_r a [] r refl) ∙ h))
    prefixed_r (c ∷ cs) r h =
        elim (cases_Bool (c == 98)) [
          | inl b ↦ front_2 a c cs o (letter_no_newline a 114 r refl) (letter_no_newline c 98 b refl) (sym (opens_rb a c cs r b) ∙ h) (λ k. opens_rb a c (take k cs) r b)
          | inr no_b ↦ front_1 a (c ∷ cs) o (letter_no_newline a 114 r refl) (sym (opens_r a (c ∷ cs) r no_b) ∙ h) (λ k. opens_r a (take k (c ∷ cs)) r (begins_front (λ b. b == 98) (c ∷ cs) k no_b))
        ]

    prefixed_b : (bs : List ℕ) → (a == 114) ≡ false → (a == 98) ≡ true → opening (a ∷ bs) ≡ Some o → OpensFront o (a ∷ bs)
    prefixed_b [] no_r b h = absurd (none_some o (sym (opens_b a [] no_r b refl) ∙ h))
    prefixed_b (c ∷ cs) no_r b h =
        elim (cases_Bool (c == 114)) [
          | inl r ↦ front_2 a c cs o (letter_no_newline a 98 b refl) (letter_no_newline c 114 r refl) (sym (opens_br a c cs no_r b r) ∙ h) (λ k. opens_br a c (take k cs) no_r b r)
          | inr none ↦ front_1 a (c ∷ cs) o (letter_no_newline a 98 b refl) (sym (opens_b a (c ∷ cs) no_r b none) ∙ h) (λ k. opens_b a (take k (c ∷ cs)) no_r b (begins_front (λ b. b == 114) (c ∷ cs) k none))
        ]
