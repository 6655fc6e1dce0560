-- A block goes on with no text that begins with a token, where that is no word of a branch.
use Rattle.std.proofs.Common.{◌≡◌, ℕ, ◌==◌, ◌&&◌, ◌||◌, List, [], ◌∷◌, ◌++◌, Bool, true, false, not, cond, refl, sym, ap, ◌∙◌, inl, inr}
use Rattle.std.specs.Prelude.{codes, bytes_eq}
use Rattle.std.specs.List.{list_all}
use Rattle.std.specs.Char.{is_ascii_digit}
use Rattle.std.proofs.lemmas.Bool.{cases_Bool, and_parts, false≢true, eqb-true}
use Rattle.std.proofs.lemmas.List.Sums.{take_while-cons}
use Rattle.bz_token.proofs.Openings.{opens_plain}
use Rattle.bz_token.specs.private.Closing.{is_closed}
use Rattle.bz_token.specs.declared.token.Kind.{Kind}
use Rattle.bz_token.specs.declared.token.Kind.TheVariants.{Identifier, Keyword, Integer, String, Operator, Newline, Comment, Kept}
use Rattle.bz_token.specs.declared.cutter.block.Opener.TheVariants.{If}
use Rattle.bz_token.specs.Strings.{is_quote, is_string}
use Rattle.bz_token.specs.Lexical.{is_name, is_keyword, IsToken, is_word_byte}
use Rattle.bz_token.specs.Ends.{stops_at, is_prefix}
use Rattle.bz_token.specs.Brackets.{is_line}
use Rattle.bz_token.specs.Blocks.{word_at, goes_on}
use Rattle.bz_token.proofs.Classes.{can_start, class_of, text_class, keyword_name, empty_no_text}
use Rattle.bz_token.proofs.Stops.{token_ends}
use Rattle.bz_token.proofs.Agree.{visible}
use Rattle.bz_token.proofs.Stands.{apart}
use Rattle.bz_token.specs.Pieces.{is_white}

abbrev pub is_branch : List ℕ → Bool
is_branch text = bytes_eq text (codes "elif") || bytes_eq text (codes "else")

-- both words begin with `e`
pub other_word : (b : ℕ) (xs : List ℕ) → (b == 101) ≡ false → is_branch (word_at (b ∷ xs)) ≡ false
other_word b xs e = ap is_branch (take_while-cons is_word_byte b xs) ∙ by (is_word_byte b)
  where
    by : (word : Bool) → is_branch (cond word (b ∷ word_at xs) []) ≡ false
    by true = rw e refl
    by false = refl

-- letters, digits and underscores up to another byte
abbrev pub stops_word : List ℕ → Bool
stops_word [] = true
stops_word (b ∷ bs) = not (is_word_byte b)

pub whole_word : (xs after : List ℕ) → list_all is_word_byte xs ≡ true → stops_word after ≡ true → word_at (xs ++ after) ≡ xs
whole_word [] [] all stop = refl
whole_word [] (b ∷ bs) all stop = take_while-cons is_word_byte b bs ∙ none (is_word_byte b) stop
  where
    none : (x : Bool) → not x ≡ true → cond x (b ∷ word_at bs) [] ≡ []
    none true h = absurd (false≢true h)
    none false h = refl
whole_word (x ∷ xs) after all stop =
    let p = and_parts (is_word_byte x) (list_all is_word_byte xs) all in
    take_while-cons is_word_byte x (xs ++ after) ∙ ap (λ w. cond w (x ∷ word_at (xs ++ after)) []) p.0 ∙ ap (λ ys. x ∷ ys) (whole_word xs after p.1 stop)

-- no string begins with `e`
string_first : (x : ℕ) (text : List ℕ) → is_string (x ∷ text) ≡ true → (x == 101) ≡ false
string_first x text is = elim (cases_Bool (x == 101)) [
  | inr miss ↦ miss
  | inl hit ↦ absurd (false≢true (sym (ap (λ o. is_closed o (101 ∷ text)) (opens_plain 101 text refl refl)) ∙ sym (ap (λ y. is_string (y ∷ text)) (eqb-true x 101 hit)) ∙ is))
]

first_word : (kind : Kind) (b : ℕ) (bs after : List ℕ) → IsToken kind (b ∷ bs) after → is_branch (b ∷ bs) ≡ false → is_branch (word_at ((b ∷ bs) ++ after)) ≡ false
first_word Identifier b bs after token none = ap is_branch (whole_word (b ∷ bs) after (words (and_parts (is_name (b ∷ bs)) (not (is_keyword (b ∷ bs))) token.whole).0) (stop after (token_ends Identifier (b ∷ bs) after token))) ∙ none
  where
    words : is_name (b ∷ bs) ≡ true → list_all is_word_byte (b ∷ bs) ≡ true
    words name = (and_parts (not (is_ascii_digit b)) (list_all is_word_byte (b ∷ bs)) name).1

    stop : (after : List ℕ) → stops_at Identifier (b ∷ bs) after ≡ true → stops_word after ≡ true
    stop [] h = refl
    stop (c ∷ cs) h = (and_parts (not (is_word_byte c)) (not (is_quote c && is_prefix (b ∷ bs))) h).0
first_word Keyword b bs after token none = ap is_branch (whole_word (b ∷ bs) after (words (keyword_name (b ∷ bs) token.whole)) (stop after (token_ends Keyword (b ∷ bs) after token))) ∙ none
  where
    words : is_name (b ∷ bs) ≡ true → list_all is_word_byte (b ∷ bs) ≡ true
    words name = (and_parts (not (is_ascii_digit b)) (list_all is_word_byte (b ∷ bs)) name).1

    stop : (after : List ℕ) → stops_at Keyword (b ∷ bs) after ≡ true → stops_word after ≡ true
    stop [] h = refl
    stop (c ∷ cs) h = h
first_word String b bs after token none = other_word b (bs ++ after) (string_first b bs token.whole)
first_word Integer b bs after token none = other_word b (bs ++ after) (apart Integer b 101 (text_class Integer b bs token.whole) refl)
first_word Operator b bs after token none = other_word b (bs ++ after) (apart Operator b 101 (text_class Operator b bs token.whole) refl)
first_word Comment b bs after token none = other_word b (bs ++ after) (apart Comment b 101 (text_class Comment b bs token.whole) refl)
first_word Newline b bs after token none = other_word b (bs ++ after) (apart Newline b 101 (text_class Newline b bs token.whole) refl)
first_word Kept b bs after token none = absurd (false≢true token.whole)

no_line : (kind : Kind) → is_line kind ≡ false → can_start kind (class_of 10) ≡ false
no_line Newline h = absurd (false≢true (sym h))
no_line _ h = refl

pub no_branch : (kind : Kind) (text after : List ℕ) → IsToken kind text after → is_line kind ≡ false → is_branch text ≡ false → goes_on If (text ++ after) ≡ false
no_branch kind [] after token line none = absurd (empty_no_text kind token.whole)
no_branch kind (b ∷ bs) after token line none =
    let blank = visible kind b bs token.whole in
    let newline = apart kind b 10 (text_class kind b bs token.whole) (no_line kind line) in
    let white : is_white true b ≡ false = rw (blank, newline) refl in
    ap (λ w. w || is_branch (word_at (b ∷ (bs ++ after)))) white ∙ first_word kind b bs after token none
