-- A string in single quotes with plain content is one in double quotes, and of nothing else a string is made.
use Rattle.std.proofs.Common.{◌≡◌, ℕ, ◌==◌, ◌&&◌, List, [], ◌∷◌, ◌++◌, Bool, true, false, not, refl, sym, ap, ◌∙◌, inl, inr}
use Rattle.std.specs.Prelude.{count_by, if◌then◌else◌, Option, Some}
use Rattle.std.specs.List.{list_all}
use Rattle.std.specs.Str.{bytes_eq}
use Rattle.std.proofs.lemmas.Bool.{cases_Bool, and_parts, not-true, false≢true}
use Rattle.bz_token.proofs.Openings.{opens_plain}
use Rattle.bz_token.specs.declared.token.Kind.{Kind}
use Rattle.bz_token.specs.declared.token.Kind.TheVariants.{String}
use Rattle.bz_token.specs.declared.scan_string.Quotes.{Quotes}
use Rattle.bz_token.specs.declared.scan_string.Opening.{Opening}
use Rattle.bz_token.specs.declared.scan_string.Escape.TheVariants.{Unescaped, AfterBackslash}
use Rattle.bz_token.specs.Strings.{is_quote, is_string, opening}
use Rattle.bz_token.specs.Lexical.{is_text, is_string_kind}
use Rattle.bz_token.specs.private.Closing.{closes, starts_escape, is_closed}
use Rattle.bz_token.proofs.StringUnits.{closes_units}
use Rattle.bz_token.proofs.Classes.{same_bytes}
use Rattle.bz_token.proofs.Progress.{newlines-append}
use Rattle.bz_layout.specs.Respell.{is_plain, content, is_single, respell}
use Rattle.bz_token.specs.Common.{is_empty}

abbrev short : ℕ → Quotes
short q = record { byte = q; long = false }

abbrev pub within : ℕ → List ℕ → List ℕ
within q inner = q ∷ (inner ++ q ∷ [])

abbrev opened : ℕ → Bool → Option Opening
opened q long = Some (record { prefix = 0; quotes = record { byte = q; long = long } })

-- whether a short string closes, by what its next byte is: its quote, a newline, a backslash
abbrev closed : Bool → Bool → Bool → ℕ → List ℕ → Bool
closed true newline backslash q bs = is_empty bs
closed false newline backslash q bs = not newline && closes (short q) 0 (if backslash then AfterBackslash else Unescaped) bs

by_tests : (q b : ℕ) (bs : List ℕ) → closes (short q) 0 Unescaped (b ∷ bs) ≡ closed (b == q) (b == 10) (b == 92) q bs
by_tests q b bs = by (b == q)
  where
    by : (t : Bool) → elim t [ true ↦ is_empty bs | false ↦ not (b == 10) && closes (short q) 0 (starts_escape b) bs ] ≡ closed t (b == 10) (b == 92) q bs
    by true = refl
    by false = refl

-- a byte that is plain: neither quote, nor a backslash
pub plain_byte : (b : ℕ) → is_plain b ≡ true → ((b == 34) ≡ false) × ((b == 39) ≡ false) × ((b == 92) ≡ false)
plain_byte b h =
    let p = and_parts (not (b == 34) && not (b == 39)) (not (b == 92)) h in
    let q = and_parts (not (b == 34)) (not (b == 39)) p.0 in
    (not-true _ q.0, not-true _ q.1, not-true _ p.1)

-- plain content is closed by the one quote where it is by the other
other_closes : (inner : List ℕ) → list_all is_plain inner ≡ true → closes (short 39) 0 Unescaped (inner ++ 39 ∷ []) ≡ true → closes (short 34) 0 Unescaped (inner ++ 34 ∷ []) ≡ true
other_closes [] plain h = refl
other_closes (b ∷ bs) plain h =
    let p = and_parts (is_plain b) (list_all is_plain bs) plain in
    let none = plain_byte b p.0 in
    by_tests 34 b (bs ++ 34 ∷ []) ∙ by (b == 34) (b == 39) (b == 10) (b == 92) none.0 none.1 none.2 (sym (by_tests 39 b (bs ++ 39 ∷ [])) ∙ h) (other_closes bs p.1)
  where
    by : (double single newline backslash : Bool) → double ≡ false → single ≡ false → backslash ≡ false → closed single newline backslash 39 (bs ++ 39 ∷ []) ≡ true
        → (closes (short 39) 0 Unescaped (bs ++ 39 ∷ []) ≡ true → closes (short 34) 0 Unescaped (bs ++ 34 ∷ []) ≡ true) → closed double newline backslash 34 (bs ++ 34 ∷ []) ≡ true
    by false false false false d s k h rest = rest h
    by false false true false d s k h rest = absurd (false≢true h)
    by true single newline backslash d s k h rest = absurd (false≢true (sym d))
    by false true newline backslash d s k h rest = absurd (false≢true (sym s))
    by false false newline true d s k h rest = absurd (false≢true (sym k))

-- such a text is a string where its quote closes the content
string_by_closing : (q : ℕ) (inner : List ℕ) → (q == 114) ≡ false → (q == 98) ≡ false → is_quote q ≡ true → ((b : ℕ) → is_plain b ≡ true → (b == q) ≡ false) → list_all is_plain inner ≡ true → is_string (within q inner) ≡ closes (short q) 0 Unescaped (inner ++ q ∷ [])
string_by_closing q inner r b quote other plain =
    ap (λ o. is_closed o (within q inner)) (opens inner plain) ∙ sym (closes_units (short q) (inner ++ q ∷ []) quote)
  where
    opens : (inner : List ℕ) → list_all is_plain inner ≡ true → opening (within q inner) ≡ opened q false
    opens [] plain = opens_plain q (q ∷ []) r b ∙ rw quote (two (q == q))
      where
        two : (x : Bool) → opened q (x && false) ≡ opened q false
        two true = refl
        two false = refl
    opens (c ∷ cs) plain = let none = other c (and_parts (is_plain c) (list_all is_plain cs) plain).0 in opens_plain q (c ∷ (cs ++ q ∷ [])) r b ∙ rw (quote, none) refl

pub single_parts : (text : List ℕ) → is_single text ≡ true → (text ≡ within 39 (content text)) × (list_all is_plain (content text) ≡ true)
single_parts text h =
    let p = and_parts (bytes_eq text (within 39 (content text))) (list_all is_plain (content text)) h in
    (same_bytes text (within 39 (content text)) p.0, p.1)

string_stays : (inner : List ℕ) → list_all is_plain inner ≡ true → is_string (within 39 inner) ≡ true → is_string (within 34 inner) ≡ true
string_stays inner plain h =
    string_by_closing 34 inner refl refl refl (λ b p. (plain_byte b p).0) plain
    ∙ other_closes inner plain (sym (string_by_closing 39 inner refl refl refl (λ b p. (plain_byte b p).1) plain) ∙ h)

respelled_string : (text : List ℕ) → is_string text ≡ true → is_string (respell String text) ≡ true
respelled_string text h = elim (cases_Bool (is_single text)) [
  | inr miss ↦ rw miss h
  | inl hit ↦
      let p = single_parts text hit in
      rw hit (string_stays (content text) p.1 (ap is_string (sym p.0) ∙ h))
]

pub respelled_text : (kind : Kind) (text : List ℕ) → is_text kind text ≡ true → is_text kind (respell kind text) ≡ true
respelled_text String text h = respelled_string text h
respelled_text _ text h = h

double_again : (inner : List ℕ) → respell String (within 34 inner) ≡ within 34 inner
double_again inner = refl

respelled_string_once : (text : List ℕ) → respell String (respell String text) ≡ respell String text
respelled_string_once text = elim (cases_Bool (is_single text)) [
  | inl hit ↦ rw hit (double_again (content text))
  | inr miss ↦ rw (miss, miss) refl
]

pub respelled_once : (kind : Kind) (text : List ℕ) → respell kind (respell kind text) ≡ respell kind text
respelled_once String text = respelled_string_once text
respelled_once _ text = refl

lines_within : (inner : List ℕ) → count_by (λ b. b == 10) (inner ++ 34 ∷ []) ≡ count_by (λ b. b == 10) (inner ++ 39 ∷ [])
lines_within inner = newlines-append inner (34 ∷ []) ∙ sym (newlines-append inner (39 ∷ []))

pub respelled_lines : (kind : Kind) (text : List ℕ) → count_by (λ b. b == 10) (respell kind text) ≡ count_by (λ b. b == 10) text
respelled_lines String text = elim (cases_Bool (is_single text)) [
  | inr miss ↦ rw miss refl
  | inl hit ↦
      let p = single_parts text hit in
      rw hit (lines_within (content text) ∙ ap (count_by (λ b. b == 10)) (sym p.0))
]
respelled_lines _ text = refl

pub others_stand : (kind : Kind) (text : List ℕ) → is_string_kind kind ≡ false → respell kind text ≡ text
others_stand String text h = absurd (false≢true (sym h))
others_stand _ text h = refl
