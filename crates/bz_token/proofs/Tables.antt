-- The tables hold what their definitions say of each byte, and what a class tells of its bytes.
use Rattle.std.proofs.Common.{◌≡◌, ℕ, ◌<◌, ◌==◌, ◌⊎◌, ◌||◌, List, [], ◌∷◌, length, drop, Bool, true, false, map, get_or, refl, ap, sym, subst, ◌∙◌, arith, inl, inr}
use Rattle.std.specs.Prelude.{Some, None}
use Rattle.std.specs.List.{range_with_len}
use Rattle.std.specs.Char.{is_ascii_digit}
use Rattle.std.proofs.lemmas.List.FromFn.{get_or-map-range_with_len}
use Rattle.std.proofs.lemmas.Bool.{cases_Bool, or_cases, eqb-true, false≢true, or_left, or_right}
use Rattle.std.proofs.lemmas.Bool.Decides.{nat_tests}
use Rattle.bz_token.specs.Strings.{is_quote, are_two, opening}
use Rattle.bz_token.specs.Lexical.{is_word_byte}
use Rattle.bz_token.specs.Brackets.{is_opening_bracket, is_closing_bracket}
use Rattle.bz_token.specs.private.Tables.{is_prefix_letter, is_point, is_operator_start, is_single, class_of, IsMark, IsSolid}
use Rattle.bz_token.specs.declared.table.ByteClass.{ByteClass}
use Rattle.bz_token.specs.declared.table.ByteClass.TheVariants.{Unknown, Space, Newline, Letter, Prefix, Digit, Quote, Hash, Backslash, Open, Close, Point, Operator}
use Rattle.bz_token.specs.declared.table.TheConstants.{CLASS, WORD}
use Rattle.bz_token.proofs.Openings.{opens_plain}
use Rattle.bz_token.specs.Common.{begins}
use Rattle.bz_token.specs.Pieces.{is_blank}

classes : CLASS ≡ map class_of (range_with_len 0 256)
classes = refl

words : WORD ≡ map is_word_byte (range_with_len 0 256)
words = refl

pub class_read : (b : ℕ) → b < 256 → get_or CLASS b Unknown ≡ class_of b
class_read b h = ap (λ t. get_or t b Unknown) classes ∙ get_or-map-range_with_len class_of 0 256 b b Unknown h (omega arith)

pub word_read : (b : ℕ) → b < 256 → get_or WORD b false ≡ is_word_byte b
word_read b h = ap (λ t. get_or t b false) words ∙ get_or-map-range_with_len is_word_byte 0 256 b b false h (omega arith)

abbrev pub Fact : ByteClass → ℕ → Type 0
Fact Letter b = (is_word_byte b ≡ true) × (is_ascii_digit b ≡ false) × (is_prefix_letter b ≡ false) × IsSolid b
Fact Prefix b = (is_word_byte b ≡ true) × (is_ascii_digit b ≡ false) × IsSolid b
Fact Digit b = (is_ascii_digit b ≡ true) × IsSolid b
Fact Space b = is_blank b ≡ true
Fact Newline b = b ≡ 10
Fact Quote b = (is_quote b ≡ true) × IsSolid b
Fact Hash b = ((b == 35) ≡ true) × IsSolid b
Fact Backslash b = b ≡ 92
Fact Open b = (is_opening_bracket b ≡ true) × IsSolid b
Fact Close b = (is_closing_bracket b ≡ true) × IsSolid b
Fact Point b = (is_point b ≡ true) × IsSolid b
Fact Operator b = (is_blank b ≡ false) × IsMark b
Fact Unknown b = (is_blank b ≡ false) × IsMark b

word_solid : (b : ℕ) → is_word_byte b ≡ true → IsSolid b
word_solid b h = (grind (arith, nat_tests), grind (arith, nat_tests), grind (arith, nat_tests))

quote_slash : (b : ℕ) → is_quote b ≡ true → (b == 92) ≡ false
quote_slash b h = grind (arith, nat_tests)

hash_slash : (b : ℕ) → (b == 35) ≡ true → (b == 92) ≡ false
hash_slash b h = grind (arith, nat_tests)

word_fact : (b : ℕ) → is_word_byte b ≡ true → Fact (class_of b) b
word_fact b word = elim (cases_Bool (is_ascii_digit b)) [
  | inl digit ↦ rw (word, digit) (digit, word_solid b word)
  | inr none ↦ elim (cases_Bool (is_prefix_letter b)) [
    | inl prefix ↦ rw (word, none, prefix) (word, none, word_solid b word)
    | inr letter ↦ rw (word, none, letter) (word, none, letter, word_solid b word)
  ]
]

mark_fact : (b : ℕ) → is_word_byte b ≡ false → is_blank b ≡ false → (b == 10) ≡ false → is_quote b ≡ false → (b == 35) ≡ false → (b == 92) ≡ false → Fact (class_of b) b
mark_fact b word blank line quote hash slash =
    let solid : IsSolid b = (blank, line, slash) in
    let told : (is_blank b ≡ false) × IsMark b = (blank, (word, quote, line, hash, slash)) in
    elim (cases_Bool (is_opening_bracket b)) [
      | inl opens ↦ rw (word, blank, line, quote, hash, slash, opens) (opens, solid)
      | inr no_open ↦ elim (cases_Bool (is_closing_bracket b)) [
        | inl closing ↦ rw (word, blank, line, quote, hash, slash, no_open, closing) (closing, solid)
        | inr no_close ↦ elim (cases_Bool (is_point b)) [
          | inl point ↦ rw (word, blank, line, quote, hash, slash, no_open, no_close, point) (point, solid)
          | inr no_point ↦ elim (cases_Bool (is_operator_start b)) [
            | inl operator ↦ rw (word, blank, line, quote, hash, slash, no_open, no_close, no_point, operator) told
            | inr none ↦ rw (word, blank, line, quote, hash, slash, no_open, no_close, no_point, none) told
          ]
        ]
      ]
    ]

fact_of : (b : ℕ) → Fact (class_of b) b
fact_of b = elim (cases_Bool (is_word_byte b)) [
  | inl word ↦ word_fact b word
  | inr no_word ↦ elim (cases_Bool (is_blank b)) [
    | inl blank ↦ rw (no_word, blank) blank
    | inr no_blank ↦ elim (cases_Bool (b == 10)) [
      | inl line ↦ rw (no_word, no_blank, line) (eqb-true b 10 line)
      | inr no_line ↦ elim (cases_Bool (is_quote b)) [
        | inl quote ↦ rw (no_word, no_blank, no_line, quote) (quote, (no_blank, no_line, quote_slash b quote))
        | inr no_quote ↦ elim (cases_Bool (b == 35)) [
          | inl hash ↦ rw (no_word, no_blank, no_line, no_quote, hash) (hash, (no_blank, no_line, hash_slash b hash))
          | inr no_hash ↦ elim (cases_Bool (b == 92)) [
            | inl slash ↦ rw (no_word, no_blank, no_line, no_quote, no_hash, slash) (eqb-true b 92 slash)
            | inr no_slash ↦ mark_fact b no_word no_blank no_line no_quote no_hash no_slash
          ]
        ]
      ]
    ]
  ]
]

pub fact_at : (b : ℕ) (c : ByteClass) → class_of b ≡ c → Fact c b
fact_at b c is = subst (λ x. Fact x b) is (fact_of b)

-- a byte of three has the class that each of them has
one_class : (b x y z : ℕ) (c : ByteClass) → class_of x ≡ c → class_of y ≡ c → class_of z ≡ c → (b == x || b == y || b == z) ≡ true → class_of b ≡ c
one_class b x y z c first second third h = elim (or_cases (b == x || b == y) (b == z) h) [
  | inr is ↦ ap class_of (eqb-true b z is) ∙ third
  | inl two ↦ elim (or_cases (b == x) (b == y) two) [
    | inl is ↦ ap class_of (eqb-true b x is) ∙ first
    | inr is ↦ ap class_of (eqb-true b y is) ∙ second
  ]
]

pub opens_no_other : (b : ℕ) (c : ByteClass) → class_of b ≡ c → (c ≡ Open → ⊥) → is_opening_bracket b ≡ false
opens_no_other b c is other = elim (cases_Bool (is_opening_bracket b)) [
  | inl opens ↦ absurd (other (sym is ∙ one_class b 40 91 123 Open refl refl refl opens))
  | inr none ↦ none
]

pub closes_no_other : (b : ℕ) (c : ByteClass) → class_of b ≡ c → (c ≡ Close → ⊥) → is_closing_bracket b ≡ false
closes_no_other b c is other = elim (cases_Bool (is_closing_bracket b)) [
  | inl closes ↦ absurd (other (sym is ∙ one_class b 41 93 125 Close refl refl refl closes))
  | inr none ↦ none
]

pub begins_so : (test : ℕ → Bool) (t : Bool) (bytes : List ℕ) → 0 < length bytes → test (get_or bytes 0 0) ≡ t → begins test bytes ≡ t
begins_so test t [] some h = absurd (omega arith)
begins_so test t (b ∷ bs) some h = h

-- a letter that begins no string
pub letter_opens : (bytes : List ℕ) → 0 < length bytes → is_word_byte (get_or bytes 0 0) ≡ true → is_prefix_letter (get_or bytes 0 0) ≡ false → opening bytes ≡ None
letter_opens [] some word letter = absurd (omega arith)
letter_opens (b ∷ bs) some word letter =
    let r : (b == 114) ≡ false = grind (arith, nat_tests) in
    let l : (b == 98) ≡ false = grind (arith, nat_tests) in
    let none : is_quote b ≡ false = grind (arith, nat_tests) in
    opens_plain b bs r l ∙ rw none refl

-- a mark begins no string
pub mark_opens : (bytes : List ℕ) → 0 < length bytes → IsMark (get_or bytes 0 0) → opening bytes ≡ None
mark_opens [] some is = absurd (omega arith)
mark_opens (b ∷ bs) some is =
    let word = is.0 in
    let none = is.1 in
    let r : (b == 114) ≡ false = grind (arith, nat_tests) in
    let l : (b == 98) ≡ false = grind (arith, nat_tests) in
    opens_plain b bs r l ∙ rw none refl

-- a quote begins a string
pub quote_opens : (bytes : List ℕ) (long : Bool) → 0 < length bytes → is_quote (get_or bytes 0 0) ≡ true → long ≡ are_two (get_or bytes 0 0) (drop 1 bytes)
    → opening bytes ≡ Some (record { prefix = 0; quotes = record { byte = get_or bytes 0 0; long = long } })
quote_opens [] long some quote two = absurd (omega arith)
quote_opens (b ∷ bs) long some quote two =
    let r : (b == 114) ≡ false = grind (arith, nat_tests) in
    let l : (b == 98) ≡ false = grind (arith, nat_tests) in
    opens_plain b bs r l ∙ rw (quote, two) refl

-- no gap begins with a byte of this class
abbrev pub is_solid_class : ByteClass → Bool
is_solid_class Space = false
is_solid_class Newline = false
is_solid_class Backslash = false
is_solid_class _ = true

pub solid_at : (b : ℕ) (c : ByteClass) → class_of b ≡ c → is_solid_class c ≡ true → IsSolid b
solid_at b Space is solid = absurd (false≢true solid)
solid_at b Newline is solid = absurd (false≢true solid)
solid_at b Backslash is solid = absurd (false≢true solid)
solid_at b Letter is solid = (fact_at b Letter is).3
solid_at b Prefix is solid = (fact_at b Prefix is).2
solid_at b Digit is solid = (fact_at b Digit is).1
solid_at b Quote is solid = (fact_at b Quote is).1
solid_at b Hash is solid = (fact_at b Hash is).1
solid_at b Open is solid = (fact_at b Open is).1
solid_at b Close is solid = (fact_at b Close is).1
solid_at b Point is solid = (fact_at b Point is).1
solid_at b Operator is solid = let m = fact_at b Operator is in (m.0, m.1.2, m.1.4)
solid_at b Unknown is solid = let m = fact_at b Unknown is in (m.0, m.1.2, m.1.4)

-- one of these classes
pub single_at : (b : ℕ) (c : ByteClass) → class_of b ≡ c → (c ≡ Open) ⊎ ((c ≡ Close) ⊎ (c ≡ Point)) → (is_single b ≡ true) × IsSolid b
single_at b c is one = elim one [
  | inl e ↦ let f = fact_at b Open (is ∙ e) in let opens = f.0 in (rw opens refl, f.1)
  | inr one ↦ elim one [
    | inl e ↦ let f = fact_at b Close (is ∙ e) in (or_left (is_opening_bracket b || is_closing_bracket b) (is_point b) (or_right (is_opening_bracket b) (is_closing_bracket b) f.0), f.1)
    | inr e ↦ let f = fact_at b Point (is ∙ e) in (or_right (is_opening_bracket b || is_closing_bracket b) (is_point b) f.0, f.1)
  ]
]

pub mark_at : (b : ℕ) (c : ByteClass) → class_of b ≡ c → (c ≡ Operator) ⊎ (c ≡ Unknown) → IsMark b × IsSolid b
mark_at b c is one = elim one [
  | inl e ↦ let m = fact_at b Operator (is ∙ e) in (m.1, (m.0, m.1.2, m.1.4))
  | inr e ↦ let m = fact_at b Unknown (is ∙ e) in (m.1, (m.0, m.1.2, m.1.4))
]
