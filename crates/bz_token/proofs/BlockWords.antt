-- A statement line begins a block only where its first token is the block's word.
use Rattle.std.proofs.Common.{◌≡◌, ℕ, ◌==◌, ◌&&◌, ◌||◌, List, [], ◌∷◌, ◌++◌, Bool, true, false, not, cond, refl, sym, ap, ◌∙◌, inl, inr}
use Rattle.std.specs.Prelude.{Option, Some, None, is_some}
use Rattle.std.specs.List.{list_all}
use Rattle.std.specs.Char.{is_ascii_digit}
use Rattle.std.proofs.lemmas.Bool.{cases_Bool, and_parts, or_parts, or_cases, false≢true, eqb-true}
use Rattle.std.proofs.lemmas.List.Sums.{take_while-cons}
use Rattle.bz_token.specs.declared.token.Kind.{Kind}
use Rattle.bz_token.specs.declared.token.Kind.TheVariants.{Identifier, Keyword, Integer, String, Operator, Newline, Comment, Kept}
use Rattle.bz_token.specs.declared.scan_string.Opening.{Opening}
use Rattle.bz_token.specs.Strings.{is_quote, is_string, opening}
use Rattle.bz_token.specs.Lexical.{is_name, is_keyword, IsToken, is_word_byte}
use Rattle.bz_token.specs.Ends.{stops_at, is_prefix}
use Rattle.bz_token.specs.Brackets.{is_line}
use Rattle.bz_token.specs.Blocks.{word_at, opener_of, opener}
use Rattle.bz_token.proofs.Prefixes.{opening_is}
use Rattle.bz_token.proofs.Units.{opener_is}
use Rattle.bz_token.proofs.Classes.{can_start, class_of, text_class, keyword_name, empty_no_text}
use Rattle.bz_token.proofs.Stops.{token_ends}
use Rattle.bz_token.proofs.Agree.{visible}
use Rattle.bz_token.proofs.Stands.{apart}
use Rattle.bz_token.specs.private.Closing.{is_closed}
use Rattle.bz_token.specs.Pieces.{is_blank, is_white}
use Rattle.bz_token.specs.private.Gaps.{continues_after, head_from}

-- at a byte that is no white space and no backslash the line's head is there, if this is column 1
head_here : (first : Bool) (b : ℕ) (bs : List ℕ) → is_blank b ≡ false → (b == 10) ≡ false → (b == 92) ≡ false → head_from first (b ∷ bs) ≡ cond first (b ∷ bs) []
head_here first b bs blank line slash = let visible = none in rw (visible, head_from) refl
  where
    none : (is_white true b || continues_after b bs) ≡ false
    none = rw (blank, line, slash) refl

-- a word that begins with none of d, f and i opens no block
other_word : (b : ℕ) (xs : List ℕ) → (b == 100) ≡ false → (b == 102) ≡ false → (b == 105) ≡ false → opener_of (word_at (b ∷ xs)) ≡ None
other_word b xs d f i = ap opener_of (take_while-cons is_word_byte b xs) ∙ by (is_word_byte b)
  where
    by : (word : Bool) → opener_of (cond word (b ∷ word_at xs) []) ≡ None
    by true = rw (d, f, i) refl
    by false = refl

-- letters, digits and underscores up to another byte
abbrev stops_word : List ℕ → Bool
stops_word [] = true
stops_word (b ∷ bs) = not (is_word_byte b)

whole_word : (xs after : List ℕ) → list_all is_word_byte xs ≡ true → stops_word after ≡ true → word_at (xs ++ after) ≡ xs
whole_word [] [] all stop = refl
whole_word [] (b ∷ bs) all stop = take_while-cons is_word_byte b bs ∙ none (is_word_byte b) stop
  where
    none : (x : Bool) → not x ≡ true → cond x (b ∷ word_at bs) [] ≡ []
    none true h = absurd (false≢true h)
    none false h = refl
whole_word (x ∷ xs) after all stop =
    let p = and_parts (is_word_byte x) (list_all is_word_byte xs) all in
    take_while-cons is_word_byte x (xs ++ after) ∙ ap (λ w. cond w (x ∷ word_at (xs ++ after)) []) p.0 ∙ ap (λ ys. x ∷ ys) (whole_word xs after p.1 stop)

-- a string begins with a letter of its prefix or with a quote
string_first : (x : ℕ) (text : List ℕ) → is_string (x ∷ text) ≡ true → (x == 100 || x == 102 || x == 105) ≡ false
string_first x text is =
    elim (cases_Bool (x == 114)) [
      | inl r ↦ let same : x ≡ 114 = eqb-true x 114 r in rw same refl
      | inr no_r ↦ elim (cases_Bool (x == 98)) [
        | inl b ↦ let same : x ≡ 98 = eqb-true x 98 b in rw same refl
        | inr no_b ↦ elim (cases_Bool (is_quote x)) [
          | inl q ↦ elim (or_cases (x == 34) (x == 39) q) [
            | inl double ↦ let same : x ≡ 34 = eqb-true x 34 double in rw same refl
            | inr single ↦ let same : x ≡ 39 = eqb-true x 39 single in rw same refl
          ]
          | inr no_quote ↦ let h : is_some (opening (x ∷ text)) ≡ true = some (opening (x ∷ text)) is in absurd (false≢true (rw (no_r, no_b, no_quote) at (sym (ap is_some (opening_is (x ∷ text))) ∙ h)))
        ]
      ]
    ]
  where
    some : (o : Option Opening) → is_closed o (x ∷ text) ≡ true → is_some o ≡ true
    some None h = absurd (false≢true h)
    some (Some o) h = refl

first_word : (kind : Kind) (b : ℕ) (bs after : List ℕ) → IsToken kind (b ∷ bs) after → opener_of (b ∷ bs) ≡ None → opener_of (word_at ((b ∷ bs) ++ after)) ≡ None
first_word Identifier b bs after token none = ap opener_of (whole_word (b ∷ bs) after (words (and_parts (is_name (b ∷ bs)) (not (is_keyword (b ∷ bs))) token.whole).0) (stop after (token_ends Identifier (b ∷ bs) after token))) ∙ none
  where
    words : is_name (b ∷ bs) ≡ true → list_all is_word_byte (b ∷ bs) ≡ true
    words name = (and_parts (not (is_ascii_digit b)) (list_all is_word_byte (b ∷ bs)) name).1

    stop : (after : List ℕ) → stops_at Identifier (b ∷ bs) after ≡ true → stops_word after ≡ true
    stop [] h = refl
    stop (c ∷ cs) h = (and_parts (not (is_word_byte c)) (not (is_quote c && is_prefix (b ∷ bs))) h).0
first_word Keyword b bs after token none = ap opener_of (whole_word (b ∷ bs) after (words (keyword_name (b ∷ bs) token.whole)) (stop after (token_ends Keyword (b ∷ bs) after token))) ∙ none
  where
    words : is_name (b ∷ bs) ≡ true → list_all is_word_byte (b ∷ bs) ≡ true
    words name = (and_parts (not (is_ascii_digit b)) (list_all is_word_byte (b ∷ bs)) name).1

    stop : (after : List ℕ) → stops_at Keyword (b ∷ bs) after ≡ true → stops_word after ≡ true
    stop [] h = refl
    stop (c ∷ cs) h = h
first_word String b bs after token none =
    let p = or_parts (b == 100 || b == 102) (b == 105) (string_first b bs token.whole) in
    let q = or_parts (b == 100) (b == 102) p.0 in
    other_word b (bs ++ after) q.0 q.1 p.1
first_word Integer b bs after token none = let h = text_class Integer b bs token.whole in other_word b (bs ++ after) (apart Integer b 100 h refl) (apart Integer b 102 h refl) (apart Integer b 105 h refl)
first_word Operator b bs after token none = let h = text_class Operator b bs token.whole in other_word b (bs ++ after) (apart Operator b 100 h refl) (apart Operator b 102 h refl) (apart Operator b 105 h refl)
first_word Comment b bs after token none = let h = text_class Comment b bs token.whole in other_word b (bs ++ after) (apart Comment b 100 h refl) (apart Comment b 102 h refl) (apart Comment b 105 h refl)
first_word Newline b bs after token none = let h = text_class Newline b bs token.whole in other_word b (bs ++ after) (apart Newline b 100 h refl) (apart Newline b 102 h refl) (apart Newline b 105 h refl)
first_word Kept b bs after token none = absurd (false≢true token.whole)

no_line : (kind : Kind) → is_line kind ≡ false → can_start kind (class_of 10) ≡ false
no_line Newline h = absurd (false≢true (sym h))
no_line Identifier h = refl
no_line Keyword h = refl
no_line Integer h = refl
no_line String h = refl
no_line Operator h = refl
no_line Comment h = refl
no_line Kept h = refl

no_slash : (kind : Kind) → can_start kind (class_of 92) ≡ false
no_slash Newline = refl
no_slash Identifier = refl
no_slash Keyword = refl
no_slash Integer = refl
no_slash String = refl
no_slash Operator = refl
no_slash Comment = refl
no_slash Kept = refl

-- the same wherever the token stands on its line
pub no_block_from : (first : Bool) (kind : Kind) (text after : List ℕ) → IsToken kind text after → is_line kind ≡ false → opener_of text ≡ None → opener_of (word_at (head_from first (text ++ after))) ≡ None
no_block_from first kind [] after token line none = absurd (empty_no_text kind token.whole)
no_block_from first kind (b ∷ bs) after token line none =
    let h = text_class kind b bs token.whole in
    ap (λ x. opener_of (word_at x)) (head_here first b (bs ++ after) (visible kind b bs token.whole) (apart kind b 10 h (no_line kind line)) (apart kind b 92 h (no_slash kind)))
    ∙ by first
  where
    by : (first : Bool) → opener_of (word_at (cond first (b ∷ (bs ++ after)) [])) ≡ None
    by true = first_word kind b bs after token none
    by false = refl

pub no_block : (kind : Kind) (text after : List ℕ) → IsToken kind text after → is_line kind ≡ false → opener_of text ≡ None → opener (text ++ after) ≡ None
no_block kind text after token line none = opener_is (text ++ after) ∙ no_block_from true kind text after token line none
