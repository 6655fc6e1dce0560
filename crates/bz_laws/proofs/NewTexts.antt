-- What commands write are texts of their kinds.
use Rattle.std.proofs.Common.{◌≡◌, ℕ, ◌==◌, ◌&&◌, ◌||◌, not, List, [], ◌∷◌, ◌++◌, Bool, true, false, refl, sym, ap, ◌∙◌, inl, inr, append_assoc}
use Rattle.std.specs.Prelude.{codes, bytes_eq, if◌then◌else◌}
use Rattle.std.specs.List.{list_all, list_any, flat_map}
use Rattle.std.specs.Char.{is_ascii_digit}
use Rattle.std.proofs.lemmas.Bool.{cases_Bool, and_parts, or_left, or_parts, false≢true}
use Rattle.bz_token.specs.declared.token.Kind.TheVariants.{Identifier, Integer, String, Operator}
use Rattle.bz_token.specs.declared.scan_string.Quotes.{Quotes}
use Rattle.bz_token.specs.declared.scan_string.Escape.TheVariants.{Unescaped}
use Rattle.bz_token.specs.Lexical.{ends_blank, is_comment, is_number, is_text, keywords, operators}
use Rattle.bz_token.specs.Common.{is_newline}
use Rattle.bz_token.specs.private.Closing.{closes}
use Rattle.bz_token.proofs.StringUnits.{closes_units}
use Rattle.bz_token.proofs.Classes.{same_bytes}
use Rattle.bz_label.specs.Values.{written, quoted}
use Rattle.bz_label.specs.Arguments.{breaks_line}
use Rattle.bz_rule.specs.Set.{is_constant, is_number as is_digits}
use Rattle.bz_rule.specs.Comment.{comment_line, is_blank as is_space, trimmed}
use Rattle.bz_token.specs.Strings.{are_two}
use Rattle.bz_token.specs.Pieces.{is_blank}

abbrev double : Quotes
double = record { byte = 34; long = false }

abbrev is_closed : List ℕ → Bool
is_closed bytes = closes double 0 Unescaped bytes

plain_goes_on : (b : ℕ) (rest : List ℕ) → b == 92 ≡ false → b == 34 ≡ false → b == 10 ≡ false → is_closed rest ≡ true → is_closed (b ∷ rest) ≡ true
plain_goes_on b rest back quote line h = rw (closes, quote, line, back) h

-- a byte as it is written does not close the string
byte_goes_on : (b : ℕ) (rest : List ℕ) → is_closed rest ≡ true → is_closed (written b ++ rest) ≡ true
byte_goes_on b rest h = elim (cases_Bool (b == 92)) [
  | inl is ↦ rw is h
  | inr back ↦ elim (cases_Bool (b == 34)) [
    | inl is ↦ rw (back, is) h
    | inr quote ↦ elim (cases_Bool (b == 10)) [
      | inl is ↦ rw (back, quote, is) h
      | inr line ↦ elim (cases_Bool (b == 13)) [
        | inl is ↦ rw (back, quote, line, is) h
        | inr return ↦ elim (cases_Bool (b == 9)) [
          | inl is ↦ rw (back, quote, line, return, is) h
          | inr tab ↦ rw (back, quote, line, return, tab) (plain_goes_on b rest back quote line h)
        ]
      ]
    ]
  ]
]

written_closed : (value : List ℕ) → is_closed (flat_map written value ++ 34 ∷ []) ≡ true
written_closed [] = refl
written_closed (b ∷ value) =
    ap is_closed (append_assoc (written b) (flat_map written value) (34 ∷ [])) ∙ byte_goes_on b (flat_map written value ++ 34 ∷ []) (written_closed value)

-- nor does it begin with a quote
one_quote : (b : ℕ) (rest : List ℕ) → are_two 34 (written b ++ rest) ≡ false
one_quote b rest = elim (cases_Bool (b == 92)) [
  | inl is ↦ rw is refl
  | inr back ↦ elim (cases_Bool (b == 34)) [
    | inl is ↦ rw (back, is) refl
    | inr quote ↦ elim (cases_Bool (b == 10)) [
      | inl is ↦ rw (back, quote, is) refl
      | inr line ↦ elim (cases_Bool (b == 13)) [
        | inl is ↦ rw (back, quote, line, is) refl
        | inr return ↦ elim (cases_Bool (b == 9)) [
          | inl is ↦ rw (back, quote, line, return, is) refl
          | inr tab ↦ rw (back, quote, line, return, tab, quote) refl
        ]
      ]
    ]
  ]
]

opens_once : (value : List ℕ) → are_two 34 (flat_map written value ++ 34 ∷ []) ≡ false
opens_once [] = refl
opens_once (b ∷ value) = ap (are_two 34) (append_assoc (written b) (flat_map written value) (34 ∷ [])) ∙ one_quote b (flat_map written value ++ 34 ∷ [])

pub quoted_text : (value : List ℕ) → is_text String (quoted value) ≡ true
quoted_text value = rw (opens_once value) (sym (closes_units double (flat_map written value ++ 34 ∷ []) refl) ∙ written_closed value)

pub equals_text : is_text Operator (codes "=") ≡ true
unfolding operators
equals_text = refl

pub dot_text : is_text Operator (codes ".") ≡ true
unfolding operators
dot_text = refl

digits : (bs : List ℕ) → list_all is_ascii_digit bs ≡ true → list_all is_ascii_digit bs ≡ true
digits bs h = h

pub number_text : (bs : List ℕ) → is_digits bs ≡ true → is_text Integer bs ≡ true
number_text [] h = absurd (false≢true h)
number_text (b ∷ bs) h = elim (cases_Bool (bytes_eq (b ∷ bs) (codes "0"))) [
  | inl zero_ ↦ ap is_number (same_bytes (b ∷ bs) (codes "0") zero_)
  | inr other ↦
      let more : (false || list_all is_ascii_digit (b ∷ bs) && not (b == 48)) ≡ true = rw other at h in
      or_left (list_all is_ascii_digit (b ∷ bs)) _ (digits (b ∷ bs) (and_parts (list_all is_ascii_digit (b ∷ bs)) (not (b == 48)) more).0)
]

true_text : is_text Identifier (codes "True") ≡ true
unfolding keywords
true_text = refl

false_text : is_text Identifier (codes "False") ≡ true
unfolding keywords
false_text = refl

none_text : is_text Identifier (codes "None") ≡ true
unfolding keywords
none_text = refl

pub constant_text : (word : List ℕ) → is_constant word ≡ true → is_text Identifier word ≡ true
constant_text word h = elim (cases_Bool (bytes_eq word (codes "True"))) [
  | inl is ↦ ap (is_text Identifier) (same_bytes word (codes "True") is) ∙ true_text
  | inr first ↦ elim (cases_Bool (bytes_eq word (codes "False"))) [
    | inl is ↦ ap (is_text Identifier) (same_bytes word (codes "False") is) ∙ false_text
    | inr second ↦ elim (cases_Bool (bytes_eq word (codes "None"))) [
      | inl is ↦ ap (is_text Identifier) (same_bytes word (codes "None") is) ∙ none_text
      | inr third ↦ absurd (false≢true (rw (first, second, third) at h))
    ]
  ]
]

-- a comment line has no blanks at its end
all_trimmed : (bs : List ℕ) → list_all is_space bs ≡ true → trimmed bs ≡ []
all_trimmed [] h = refl
all_trimmed (b ∷ bs) h = rw h refl

last_blank : (b : ℕ) → is_space b ≡ false → breaks_line b ≡ false → is_blank b ≡ false
last_blank b h k = let p = or_parts (b == 32) (b == 9) h in let q = or_parts (b == 10) (b == 13) k in rw (p.0, p.1, q.1) refl

not_both : (a b : Bool) → (a && b) ≡ false → b ≡ true → a ≡ false
not_both false b h k = refl
not_both true b h k = absurd (false≢true (sym h ∙ k))

trimmed_end : (b : ℕ) (bs : List ℕ) → list_all is_space bs ≡ false → list_any breaks_line bs ≡ false → ends_blank (b ∷ trimmed bs) ≡ false
trimmed_end b [] h k = absurd (false≢true (sym h))
trimmed_end b (c ∷ bs) h k =
    let p = or_parts (breaks_line c) (list_any breaks_line bs) k in
    elim (cases_Bool (list_all is_space bs)) [
      | inl all ↦ rw (h, all_trimmed bs all) (last_blank c (not_both (is_space c) (list_all is_space bs) h all) p.0)
      | inr some ↦ rw h (trimmed_end c bs some p.1)
    ]

trimmed_line : (bs : List ℕ) → list_any breaks_line bs ≡ false → list_any is_newline (trimmed bs) ≡ false
trimmed_line [] h = refl
trimmed_line (b ∷ bs) h =
    let p = or_parts (breaks_line b) (list_any breaks_line bs) h in
    let q = or_parts (b == 10) (b == 13) p.0 in
    elim (list_all is_space (b ∷ bs)) as (λ t. list_any is_newline (if t then [] else b ∷ trimmed bs) ≡ false) [
      | true ↦ refl
      | false ↦ rw (q.0, trimmed_line bs p.1) refl
    ]

no_blank : (text : List ℕ) → list_any breaks_line text ≡ false → ends_blank (35 ∷ trimmed (32 ∷ text)) ≡ false
no_blank text h = elim (cases_Bool (list_all is_space (32 ∷ text))) [
  | inl all ↦ ap (λ bs. ends_blank (35 ∷ bs)) (all_trimmed (32 ∷ text) all)
  | inr some ↦ trimmed_end 35 (32 ∷ text) some h
]

pub line_text : (text : List ℕ) → list_any breaks_line text ≡ false → is_comment (comment_line text) ≡ true
line_text text h = rw (trimmed_line (32 ∷ text) h, no_blank text h) refl
