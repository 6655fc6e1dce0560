-- At each place stands a token, or it is a bad place.
use Rattle.std.proofs.Common.{◌≡◌, ℕ, zero, suc, ◌+◌, ◌-◌, ◌<◌, ◌≤◌, ◌==◌, ◌⊎◌, List, [], ◌∷◌, length, take, drop, get_or, Bool, true, false, not, refl, sym, ap, ◌∙◌, arith, inl, inr, sub-one, one-add}
use Rattle.std.specs.Prelude.{Option, Some, None}
use Rattle.std.specs.List.{list_all, prefix_len}
use Rattle.std.specs.Char.{is_ascii_digit}
use Rattle.std.proofs.lemmas.List.{length-take-le}
use Rattle.std.proofs.lemmas.List.Sums.{prefix_len-le-length}
use Rattle.std.proofs.lemmas.Bool.{cases_Bool, cases_lt, false≢true, eqb-true}
use Rattle.bz_token.specs.declared.scan_string.Opening.{Opening}
use Rattle.bz_token.specs.declared.scan_string.Escape.TheVariants.{Unescaped}
use Rattle.bz_token.specs.declared.scan_token.Scanned.{Scanned}
use Rattle.bz_token.specs.declared.scan_token.Bad.{Bad}
use Rattle.bz_token.specs.declared.scan_token.Bad.TheVariants.{Character, Number, OpenText, Backslash}
use Rattle.bz_token.specs.declared.token.Kind.TheVariants.{Identifier, Keyword, Integer, String, Operator, Newline, Comment}
use Rattle.bz_token.specs.Lexical.{is_word_byte, is_keyword, is_number, is_operator_text}
use Rattle.bz_token.specs.private.Closing.{closes, opening_length}
use Rattle.bz_token.specs.private.Scans.{IsScanned, IsBadPlace}
use Rattle.bz_token.proofs.Gaps.{comment_front}
use Rattle.bz_token.proofs.Operators.{IsOperatorLength, operator_at}
use Rattle.bz_token.proofs.Scanning.{string_scanned, open_text, number_scanned, no_number, name_scanned, line_scanned, operator_scanned, comment_scanned, no_character}
use Rattle.bz_token.specs.Common.{begins, is_newline}
use Rattle.bz_token.specs.Strings.{opening}
use Rattle.bz_token.specs.Pieces.{is_blank}

abbrev pub HasTokenOrIsBad : List ℕ → Type 0
HasTokenOrIsBad place = ((s : Scanned) × IsScanned place s) ⊎ ((bad : Bad) × IsBadPlace place bad)

-- the greatest number up to n that passes a test, if one does
pub greatest : (test : ℕ → Bool) (n : ℕ) → ((k : ℕ) × (k ≤ n) × (test k ≡ true) × ((j : ℕ) → k < j → j ≤ n → test j ≡ false)) ⊎ ((j : ℕ) → j ≤ n → test j ≡ false)
greatest test zero = elim (cases_Bool (test 0)) [
  | inl hit ↦ inl (0, omega arith, hit, λ j more less. absurd (omega arith))
  | inr miss ↦ inr (λ j less. only j less miss)
]
  where
    only : (j : ℕ) → j ≤ 0 → test 0 ≡ false → test j ≡ false
    only zero less miss = miss
    only (suc j) less miss = absurd (omega arith)
greatest test (suc n) = elim (cases_Bool (test (suc n))) [
  | inl hit ↦ inl (suc n, omega arith, hit, λ j more less. absurd (omega arith))
  | inr miss ↦ elim (greatest test n) [
    | inl r ↦ inl (r.0, omega (arith, r.1), r.2, λ j more less. last j less miss (r.3 j more))
    | inr none ↦ inr (λ j less. last j less miss (none j))
  ]
]
  where
    last : (j : ℕ) → j ≤ suc n → test (suc n) ≡ false → (j ≤ n → test j ≡ false) → test j ≡ false
    last j less miss before = elim (cases_lt n j) [
      | inr small ↦ before small
      | inl big ↦ let e : j ≡ suc n = omega arith in ap test e ∙ miss
    ]

take_past : (xs : List ℕ) (n : ℕ) → length xs ≤ n → take n xs ≡ take (length xs) xs
take_past [] zero h = refl
take_past [] (suc n) h = refl
take_past (x ∷ xs) zero h = absurd (omega arith)
take_past (x ∷ xs) (suc n) h = ap (λ ys. x ∷ ys) (take_past xs n (omega arith))

string_or_open : (bytes : List ℕ) (o : Opening) → opening bytes ≡ Some o → HasTokenOrIsBad bytes
string_or_open bytes o opens = elim (greatest test (length inside)) [
  | inl r ↦ inl (record { kind = String; len = opening_length o + r.0; has_newline = true }, string_scanned bytes o r.0 true opens (some r.0 r.2) r.1 r.2 (λ h. absurd (false≢true (sym h))))
  | inr none ↦ inr (OpenText, open_text bytes o opens (λ n. never none n))
]
  where
    inside : List ℕ
    inside = drop (opening_length o) bytes

    test : ℕ → Bool
    test n = closes o.quotes 0 Unescaped (take n (drop (opening_length o) bytes))

    some : (n : ℕ) → closes o.quotes 0 Unescaped (take n (drop (opening_length o) bytes)) ≡ true → 0 < n
    some zero h = absurd (false≢true h)
    some (suc n) h = omega arith

    never : ((j : ℕ) → j ≤ length (drop (opening_length o) bytes) → closes o.quotes 0 Unescaped (take j (drop (opening_length o) bytes)) ≡ false) → (n : ℕ) → closes o.quotes 0 Unescaped (take n (drop (opening_length o) bytes)) ≡ false
    never none n = elim (cases_lt n (length (drop (opening_length o) bytes))) [
      | inl less ↦ none n (omega arith)
      | inr past ↦ ap (closes o.quotes 0 Unescaped) (take_past (drop (opening_length o) bytes) n past) ∙ none (length (drop (opening_length o) bytes)) (omega arith)
    ]

number_or_bad : (bytes : List ℕ) → begins is_ascii_digit bytes ≡ true → HasTokenOrIsBad bytes
number_or_bad bytes digit = elim (cases_Bool (is_number (take (prefix_len is_word_byte bytes) bytes))) [
  | inl is ↦ inl (record { kind = Integer; len = prefix_len is_word_byte bytes; has_newline = false }, number_scanned bytes digit is)
  | inr none ↦ inr (Number, no_number bytes digit none)
]

name_or_word : (bytes : List ℕ) → opening bytes ≡ None → begins is_word_byte bytes ≡ true → begins is_ascii_digit bytes ≡ false → HasTokenOrIsBad bytes
name_or_word bytes unquoted word plain = elim (cases_Bool (is_keyword (take (prefix_len is_word_byte bytes) bytes))) [
  | inl is ↦ inl (record { kind = Keyword; len = prefix_len is_word_byte bytes; has_newline = false }, name_scanned Keyword bytes unquoted word plain (λ name. is))
  | inr none ↦ inl (record { kind = Identifier; len = prefix_len is_word_byte bytes; has_newline = false }, name_scanned Identifier bytes unquoted word plain (λ name. rw (name, none) refl))
]

operator_length : (a b c : ℕ) → (r : ℕ) × IsOperatorLength a b c r
operator_length a b c = elim (greatest (λ n. is_operator_text (take n (a ∷ b ∷ c ∷ []))) 3) [
  | inl r ↦ (r.0, record { at_most = r.1; operator = λ h. r.2; longer_1 = λ h. r.3 1 h (omega arith); longer_2 = λ h. r.3 2 h (omega arith); longer_3 = λ h. r.3 3 h (omega arith) })
  | inr none ↦ (0, record { at_most = omega arith; operator = λ h. absurd (omega arith); longer_1 = λ h. none 1 (omega arith); longer_2 = λ h. none 2 (omega arith); longer_3 = λ h. none 3 (omega arith) })
]

operator_or_bad : (bytes : List ℕ) → 0 < length bytes → opening bytes ≡ None → begins is_word_byte bytes ≡ false → (get_or bytes 0 0 == 10) ≡ false → (get_or bytes 0 0 == 35) ≡ false → (get_or bytes 0 0 == 92) ≡ false → HasTokenOrIsBad bytes
operator_or_bad bytes some unquoted none line comment slash =
    let r = operator_length (get_or bytes 0 0) (get_or bytes 1 0) (get_or bytes 2 0) in
    let at = operator_at bytes r.0 r.1 in
    elim (cases_lt 0 r.0) [
      | inl long ↦ inl (record { kind = Operator; len = r.0; has_newline = false }, operator_scanned bytes r.0 long at.in_range (at.operator long) (at.stops long))
      | inr empty ↦ inr (Character, no_character bytes some unquoted none line comment slash (at.none (omega arith)))
    ]

-- a list without its last white space
trimmed : (xs : List ℕ) → (r : ℕ) × (r ≤ length xs) × (0 < r → is_blank (get_or xs (r - 1) 0) ≡ false) × (list_all is_blank (drop r xs) ≡ true)
trimmed [] = (0, omega arith, λ h. absurd (omega arith), refl)
trimmed (x ∷ xs) = longer (trimmed xs).0 (trimmed xs).1 (trimmed xs).2 (trimmed xs).3
  where
    longer : (r : ℕ) → r ≤ length xs → (0 < r → is_blank (get_or xs (r - 1) 0) ≡ false) → list_all is_blank (drop r xs) ≡ true → (r : ℕ) × (r ≤ length (x ∷ xs)) × (0 < r → is_blank (get_or (x ∷ xs) (r - 1) 0) ≡ false) × (list_all is_blank (drop r (x ∷ xs)) ≡ true)
    longer (suc r) fits last blank = (suc (suc r), omega arith, λ h. rw sub-one (rw sub-one at (last (omega arith))), blank)
    longer zero fits last blank = elim (cases_Bool (is_blank x)) [
      | inl hit ↦ (0, omega arith, λ h. absurd (omega arith), rw (hit, blank) refl)
      | inr miss ↦ (1, omega arith, λ h. miss, blank)
    ]

comment_here : (b : ℕ) (bs : List ℕ) → (b == 35) ≡ true → HasTokenOrIsBad (b ∷ bs)
comment_here b bs hash =
    let n = prefix_len (λ c. not (is_newline c)) (b ∷ bs) in
    let t = trimmed (take n (b ∷ bs)) in
    let within : n ≤ length (b ∷ bs) = prefix_len-le-length (λ c. not (is_newline c)) (b ∷ bs) in
    let size : length (take n (b ∷ bs)) ≡ n = length-take-le n (b ∷ bs) within in
    let some : 0 < t.0 = more t.0 t.3 in
    let fits : t.0 ≤ n = omega (arith, t.1, size) in
    inl (
      record { kind = Comment; len = t.0; has_newline = false },
      comment_scanned (b ∷ bs) t.0 some (omega arith) fits (comment_front (b ∷ bs) n t.0 hash refl some fits (λ h. t.2 some)) t.3,
    )
  where
    more : (r : ℕ) → list_all is_blank (drop r (take (prefix_len (λ c. not (is_newline c)) (b ∷ bs)) (b ∷ bs))) ≡ true → 0 < r
    more (suc r) blank = omega arith
    more zero blank = let same : b ≡ 35 = eqb-true b 35 hash in absurd (false≢true (rw (same, one-add) at blank))

mark_or_bad : (b : ℕ) (bs : List ℕ) → opening (b ∷ bs) ≡ None → is_word_byte b ≡ false → HasTokenOrIsBad (b ∷ bs)
mark_or_bad b bs unquoted none = elim (cases_Bool (b == 10)) [
  | inl newline ↦ inl (record { kind = Newline; len = 1; has_newline = true }, line_scanned (b ∷ bs) (omega arith) (eqb-true b 10 newline))
  | inr no_line ↦ elim (cases_Bool (b == 35)) [
    | inl hash ↦ comment_here b bs hash
    | inr no_comment ↦ elim (cases_Bool (b == 92)) [
      | inl slash ↦ inr (Backslash, slash)
      | inr no_slash ↦ operator_or_bad (b ∷ bs) (omega arith) unquoted none no_line no_comment no_slash
    ]
  ]
]

pub token_or_bad : (b : ℕ) (bs : List ℕ) → HasTokenOrIsBad (b ∷ bs)
token_or_bad b bs = by_opening (opening (b ∷ bs)) refl
  where
    by_opening : (o : Option Opening) → opening (b ∷ bs) ≡ o → HasTokenOrIsBad (b ∷ bs)
    by_opening (Some o) opens = string_or_open (b ∷ bs) o opens
    by_opening None unquoted = elim (cases_Bool (is_ascii_digit b)) [
      | inl digit ↦ number_or_bad (b ∷ bs) digit
      | inr plain ↦ elim (cases_Bool (is_word_byte b)) [
        | inl word ↦ name_or_word (b ∷ bs) unquoted word plain
        | inr none ↦ mark_or_bad b bs unquoted none
      ]
    ]
