-- What is wrong at a place, and that no token fits there.
use Rattle.bz_memory.specs.NoMemory.{no_memory}
use Rattle.std.proofs.Common.{◌≡◌, ℕ, ◌<◌, ◌≤◌, ◌==◌, List, [], ◌∷◌, ◌++◌, length, true, false, not, refl, sym, ap, ◌∙◌, arith, inl, inr}
use Rattle.std.specs.Prelude.{Option, Some, None, is_some, nat_lt}
use Rattle.std.specs.Char.{is_ascii_digit}
use Rattle.std.proofs.lemmas.Bool.{cases_Bool, and_parts, false≢true, eqb-true, not-true, or_parts, or_right}
use Rattle.std.proofs.lemmas.Bool.Decides.{nat_tests}
use Rattle.bz_token.specs.declared.fault.LexFault.{LexFault}
use Rattle.bz_token.specs.declared.fault.LexFault.TheVariants as faults
use Rattle.bz_token.specs.declared.scan_string.Opening.{Opening}
use Rattle.bz_token.specs.declared.token.Kind.{Kind}
use Rattle.bz_token.specs.declared.token.Kind.TheVariants.{String, Operator}
use Rattle.bz_token.specs.Places.{Placed, line_at, column_at}
use Rattle.bz_token.specs.Lexical.{is_operator_text, operators, counts, IsToken, HasNoToken}
use Rattle.bz_token.specs.Brackets.{is_inside, is_opening_bracket, is_closing_bracket, closes_innermost, bracket_fits, fits}
use Rattle.bz_token.specs.Reading.{is_gap, begins_gap, Piece, IsReading, open_after, bytes_of}
use Rattle.bz_token.specs.Faults.{fault_at, IsFirstFault, IsFault}
use Rattle.bz_token.specs.private.BadPlaces.{IsOpenText, IsBadNumber, IsBadBackslash, IsBadCharacter, IsBadBracket, IsTooDeep}
use Rattle.bz_token.proofs.Classes.{mark, unknown, class_of, can_start, text_class, empty_no_text, digit_class}
use Rattle.bz_token.proofs.Openings.{no_opening}
use Rattle.bz_token.proofs.Ends.{counts_free, no_digit}
use Rattle.bz_token.proofs.Fitting.{is_bracket_byte, bracket_class, no_bracket}
use Rattle.bz_token.proofs.Unique.{nothing_unknown, place_stuck}
use Rattle.bz_token.specs.Strings.{opening}

-- the sorts of bad places, and their faults
pub data Sort : Type 0 where
  open_text : Sort
  bad_number : Sort
  bad_backslash : Sort
  bad_bracket : Sort
  too_deep : Sort
  bad_character : Sort

abbrev pub told : Sort → ℕ → ℕ → LexFault
told open_text line col = faults.OpenText line col
told bad_number line col = faults.BadNumber line col
told bad_backslash line col = faults.BadBackslash line col
told bad_bracket line col = faults.BadBracket line col
told too_deep line col = faults.TooDeep line col
told bad_character line col = faults.BadCharacter line col

abbrev pub IsBadAt : ℕ → List ℕ → List ℕ → Sort → Type 0
IsBadAt depth opened place open_text = IsOpenText place
IsBadAt depth opened place bad_number = IsBadNumber place
IsBadAt depth opened place bad_backslash = IsBadBackslash place
IsBadAt depth opened place bad_bracket = IsBadBracket opened place
IsBadAt depth opened place too_deep = IsTooDeep depth opened place
IsBadAt depth opened place bad_character = IsBadCharacter place

-- what a bad place says of the fault, and that no token fits there
pub record SaysFault (depth : ℕ) (opened place : List ℕ) (sort : Sort) : Type 0 where
  pub some : 0 < length place
  pub told_is : (os : List Placed) (line col : ℕ) → fault_at place os line col ≡ Some (told sort line col)
  pub never : (kind : Kind) (text after : List ℕ) → place ≡ text ++ after → IsToken kind text after → fits depth opened kind text ≡ true → ⊥

no_token_fits : (depth : ℕ) (opened place : List ℕ) → HasNoToken place → (kind : Kind) (text after : List ℕ) → place ≡ text ++ after → IsToken kind text after → fits depth opened kind text ≡ true → ⊥
no_token_fits depth opened place none kind text after split token fit = none kind text after split token.whole (ap (λ p. counts p kind text) split ∙ token.counted)

open_text_sort : (depth : ℕ) (opened place : List ℕ) → IsOpenText place → SaysFault depth opened place open_text
open_text_sort depth opened [] bad = absurd (false≢true bad.quoted)
open_text_sort depth opened (b ∷ bs) bad = record { some = omega arith; told_is = λ os line col. let q = bad.quoted in rw q refl; never = no_token_fits depth opened (b ∷ bs) bad.none }

unopened : (b : ℕ) (bs : List ℕ) → can_start String (class_of b) ≡ false → is_some (opening (b ∷ bs)) ≡ false
unopened b bs none = ap is_some (no_opening b bs none)

number_sort : (depth : ℕ) (opened place : List ℕ) → IsBadNumber place → SaysFault depth opened place bad_number
number_sort depth opened [] bad = absurd (false≢true bad.digit)
number_sort depth opened (b ∷ bs) bad =
    let unquoted = unopened b bs (ap (can_start String) (digit_class b bad.digit)) in
    let d = bad.digit in
    record { some = omega arith; told_is = λ os line col. rw (unquoted, d) refl; never = no_token_fits depth opened (b ∷ bs) bad.none }

backslash_class : (b : ℕ) → (b == 92) ≡ true → class_of b ≡ unknown
backslash_class b h = let same : b ≡ 92 = eqb-true b 92 h in rw same refl

backslash_sort : (depth : ℕ) (opened place : List ℕ) → IsBadBackslash place → SaysFault depth opened place bad_backslash
backslash_sort depth opened [] bad = absurd (false≢true bad)
backslash_sort depth opened (b ∷ bs) bad =
    let class = backslash_class b bad in
    let unquoted = unopened b bs (ap (can_start String) class) in
    let plain = no_digit b unknown class refl in
    record { some = omega arith; told_is = λ os line col. rw (unquoted, plain, bad) refl; never = never }
  where
    never : (kind : Kind) (text after : List ℕ) → b ∷ bs ≡ text ++ after → IsToken kind text after → fits depth opened kind text ≡ true → ⊥
    never kind [] after split token fit = empty_no_text kind token.whole
    never kind (t ∷ text) after split token fit =
        let same : b ≡ t = cc in
        nothing_unknown kind (ap (can_start kind) (sym (ap class_of (sym same) ∙ backslash_class b bad)) ∙ text_class kind t text token.whole)

-- a bracket that fits is a token
bracket_parts : (b : ℕ) (bs : List ℕ) → is_bracket_byte b ≡ true → (is_some (opening (b ∷ bs)) ≡ false) × (is_ascii_digit b ≡ false) × ((b == 92) ≡ false)
bracket_parts b bs h =
    let class = bracket_class b h in
    (unopened b bs (ap (can_start String) class), no_digit b mark class refl, no_slash class)
  where
    no_slash : class_of b ≡ mark → (b == 92) ≡ false
    no_slash class = elim (cases_Bool (b == 92)) [
      | inr miss ↦ miss
      | inl hit ↦ absurd (differ (sym class ∙ backslash_class b hit))
    ]
      where
        differ : mark ≡ unknown → ⊥
        differ e = cc

-- a token at a bracket is the bracket alone, so it fits as the bracket does
bracket_never : (depth : ℕ) (opened : List ℕ) (b : ℕ) (bs : List ℕ) → is_bracket_byte b ≡ true → bracket_fits depth opened b ≡ false → (kind : Kind) (text after : List ℕ) → b ∷ bs ≡ text ++ after → IsToken kind text after → fits depth opened kind text ≡ true → ⊥
bracket_never depth opened b bs h none kind [] after split token fit = empty_no_text kind token.whole
bracket_never depth opened b bs h none kind (t ∷ []) after split token fit =
    let same : b ≡ t = cc in
    false≢true (sym (ap (bracket_fits depth opened) (sym same) ∙ none) ∙ (and_parts _ (bracket_fits depth opened t) fit).1)
bracket_never depth opened b bs h none kind (t ∷ u ∷ text) after split token fit =
    let same : b ≡ t = cc in
    false≢true (sym (no_bracket kind t u text token.whole) ∙ ap is_bracket_byte (sym same) ∙ h)

not_opening : (b : ℕ) → is_closing_bracket b ≡ true → is_opening_bracket b ≡ false
not_opening b h = grind (arith, nat_tests)

not_closing : (b : ℕ) → is_opening_bracket b ≡ true → is_closing_bracket b ≡ false
not_closing b h = grind (arith, nat_tests)

bracket_sort : (depth : ℕ) (opened place : List ℕ) → IsBadBracket opened place → SaysFault depth opened place bad_bracket
bracket_sort depth opened [] bad = absurd (false≢true bad)
bracket_sort depth opened (b ∷ bs) bad =
    let parts = and_parts (is_closing_bracket b) (not (closes_innermost opened b)) bad in
    let closing = parts.0 in
    let bracket = or_right (is_opening_bracket b) (is_closing_bracket b) closing in
    let p = bracket_parts b bs bracket in
    let unquoted = p.0 in
    let plain = p.1 in
    let slash = p.2 in
    let opens = not_opening b closing in
    record {
      some = omega arith;
      told_is = λ os line col. rw (unquoted, plain, slash, closing) refl;
      never = bracket_never depth opened b bs bracket (rw (opens, closing) (not-true (closes_innermost opened b) parts.1));
    }

deep_sort : (depth : ℕ) (opened place : List ℕ) → IsTooDeep depth opened place → SaysFault depth opened place too_deep
deep_sort depth opened [] bad = absurd (false≢true bad.bracket)
deep_sort depth opened (b ∷ bs) bad =
    let opens = bad.bracket in
    let bracket : is_bracket_byte b ≡ true = first opens in
    let p = bracket_parts b bs bracket in
    let unquoted = p.0 in
    let plain = p.1 in
    let slash = p.2 in
    let closing = not_closing b opens in
    record {
      some = omega arith;
      told_is = λ os line col. rw (unquoted, plain, slash, closing, opens) refl;
      never = bracket_never depth opened b bs bracket (rw opens (no_room (length opened) depth bad.deep));
    }
  where
    no_room : (n m : ℕ) → m ≤ n → nat_lt n m ≡ false
    no_room n m h = grind (arith, nat_tests)

    first : is_opening_bracket b ≡ true → is_bracket_byte b ≡ true
    first h = rw h refl

-- a bracket is an operator
bracket_operator : (b : ℕ) → is_bracket_byte b ≡ true → is_operator_text (b ∷ []) ≡ true
unfolding operators
bracket_operator b h = grind (arith, nat_tests)

character_sort : (depth : ℕ) (opened place : List ℕ) → IsBadCharacter place → SaysFault depth opened place bad_character
character_sort depth opened [] bad = absurd (omega (arith, bad.some))
character_sort depth opened (b ∷ bs) bad =
    let unquoted = bad.unquoted in
    let plain = bad.no_digit in
    let slash = bad.no_backslash in
    let brackets = no_brackets in
    let opens = brackets.0 in
    let closing = brackets.1 in
    record { some = bad.some; told_is = λ os line col. rw (unquoted, plain, slash, closing, opens) refl; never = no_token_fits depth opened (b ∷ bs) bad.none }
  where
    none_of : (o : Option Opening) → is_some o ≡ false → o ≡ None
    none_of None h = refl
    none_of (Some o) h = absurd (false≢true (sym h))

    no_brackets : (is_opening_bracket b ≡ false) × (is_closing_bracket b ≡ false)
    no_brackets = elim (cases_Bool (is_bracket_byte b)) [
      | inr miss ↦ or_parts (is_opening_bracket b) (is_closing_bracket b) miss
      | inl hit ↦ absurd (bad.none Operator (b ∷ []) bs refl (bracket_operator b hit) (counts_free (b ∷ bs) (b ∷ []) Operator (none_of (opening (b ∷ bs)) bad.unquoted) bad.no_digit))
    ]

pub bad_says : (depth : ℕ) (opened place : List ℕ) (sort : Sort) → IsBadAt depth opened place sort → SaysFault depth opened place sort
bad_says depth opened place open_text bad = open_text_sort depth opened place bad
bad_says depth opened place bad_number bad = number_sort depth opened place bad
bad_says depth opened place bad_backslash bad = backslash_sort depth opened place bad
bad_says depth opened place bad_bracket bad = bracket_sort depth opened place bad
bad_says depth opened place too_deep bad = deep_sort depth opened place bad
bad_says depth opened place bad_character bad = character_sort depth opened place bad

-- the fault of a bad place after pieces and a gap
unfoldable pub bad_fault_at : (first depth : ℕ) (bytes : List ℕ) (ps : List Piece) (gap place : List ℕ) (sort : Sort) → IsReading depth [] ps (gap ++ place) bytes → is_gap (is_inside (open_after [] ps)) gap ≡ true → begins_gap (is_inside (open_after [] ps)) place ≡ false
    → IsBadAt depth (open_after [] ps) place sort → IsFirstFault first depth bytes (told sort (line_at first (bytes_of ps ++ gap)) (column_at (bytes_of ps ++ gap)))
bad_fault_at first depth bytes ps gap place sort reading is none bad =
    let says = bad_says depth (open_after [] ps) place sort bad in
    record {
      pieces = ps;
      gap = gap;
      place = place;
      reading = reading;
      stuck = place_stuck depth (open_after [] ps) gap place is none says.never;
      is_gap = is;
      after_gap = none;
      is = says.told_is _ _ _;
    }

-- a fault of a text is one that the code may answer
pub answered : (first depth : ℕ) (bytes : List ℕ) (f : LexFault) → IsFirstFault first depth bytes f → IsFault first depth bytes f
answered first depth bytes (faults.OutOfMemory _) is = tt
answered first depth bytes (faults.BadCharacter line col) is = is
answered first depth bytes (faults.BadNumber line col) is = is
answered first depth bytes (faults.OpenText line col) is = is
answered first depth bytes (faults.BadBracket line col) is = is
answered first depth bytes (faults.OpenBracket line col) is = is
answered first depth bytes (faults.TooDeep line col) is = is
answered first depth bytes (faults.BadBackslash line col) is = is

-- and what the code answers is one, where no memory was refused
pub first_of_text : (first depth : ℕ) (bytes : List ℕ) (f : LexFault) → (f ≡ faults.OutOfMemory no_memory → ⊥) → IsFault first depth bytes f → IsFirstFault first depth bytes f
first_of_text first depth bytes (faults.OutOfMemory _) some is = absurd (some refl)
first_of_text first depth bytes (faults.BadCharacter line col) some is = is
first_of_text first depth bytes (faults.BadNumber line col) some is = is
first_of_text first depth bytes (faults.OpenText line col) some is = is
first_of_text first depth bytes (faults.BadBracket line col) some is = is
first_of_text first depth bytes (faults.OpenBracket line col) some is = is
first_of_text first depth bytes (faults.TooDeep line col) some is = is
first_of_text first depth bytes (faults.BadBackslash line col) some is = is
