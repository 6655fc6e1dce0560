-- On which lines tokens and faults stand.
use Rattle.std.proofs.Common.{◌≡◌, ℕ, ◌<◌, ◌≤◌, List, [], ◌∷◌, ◌++◌, length, drop, Bool, true, false, refl, sym, ap, subst, ◌∙◌, arith, inl, inr, append_assoc, append-nil}
use Rattle.std.specs.Prelude.{Option, Some, None, nat_le, nat_lt}
use Rattle.std.specs.List.{list_all, filter}
use Rattle.std.proofs.lemmas.Bool.{cases_Bool, and_parts, and_from, and_left, and_right}
use Rattle.std.proofs.lemmas.Bool.Decides.{nat_tests}
use Rattle.bz_token.specs.declared.fault.LexFault.{LexFault}
use Rattle.bz_token.specs.declared.fault.LexFault.TheVariants as faults
use Rattle.bz_token.specs.declared.token.Kind.{Kind}
use Rattle.bz_token.specs.Cuts.{ends_in_newline}
use Rattle.bz_token.specs.Places.{Placed, line_at, column_at}
use Rattle.bz_token.specs.Lexical.{is_text}
use Rattle.bz_token.specs.Brackets.{is_inside, is_opening_bracket, is_closing_bracket, open_after_token, open_tokens}
use Rattle.bz_token.specs.Reading.{is_gap, begins_gap, Piece, IsReading, open_after, bytes_of, tokens_of}
use Rattle.bz_token.specs.Faults.{fault_at, IsFirstFault}
use Rattle.bz_token.specs.UpToFault.{IsReadAs}
use Rattle.bz_token.specs.FreshStart.{ends_in_line, AreLinesOf, line_following, is_line_of, line_of}
use Rattle.bz_token.proofs.Classes.{empty_no_text}
use Rattle.bz_token.proofs.Innermost.{step}
use Rattle.bz_token.proofs.Progress.{newlines, newlines-append, reading_bytes}
use Rattle.bz_token.proofs.BadPlaces.{Sort, open_text, bad_number, bad_backslash, bad_bracket, too_deep, bad_character, told, bad_says}
use Rattle.bz_token.proofs.SomeReading.{bad_here}
use Rattle.bz_token.proofs.Unique.{IsStuck}
use Rattle.bz_token.proofs.Joins.{some_newlines, lines_newline}
use Rattle.bz_token.proofs.ChunkFaults.{last_newline}
use Rattle.bz_token.specs.Pieces.{is_one}

less_test : (x y : ℕ) → x < y → nat_lt x y ≡ true
less_test x y h = grind (arith, nat_tests)

at_most_test : (x y : ℕ) → x ≤ y → nat_le x y ≡ true
at_most_test x y h = grind (arith, nat_tests)

-- a place in a text stands on one of its lines
place_line : (first : ℕ) (d x y : List ℕ) → d ≡ x ++ y → 0 < length y → is_line_of first d (line_at first x) ≡ true
place_line first d x [] e some = absurd (omega arith)
place_line first d x (y ∷ ys) e some = and_from _ _ (at_most_test first (line_at first x) (omega arith)) (less_test (line_at first x) (line_following first d) (subst (λ z. line_at first x < line_following first z) (sym e) before))
  where
    before : line_at first x < line_following first (x ++ y ∷ ys)
    before = elim (cases_Bool (ends_in_newline (x ++ y ∷ ys))) [
      | inl ends ↦ rw ends (omega (arith, newlines-append x (y ∷ ys), some_newlines (y ∷ ys) (last_newline x y ys ends)))
      | inr unended ↦ rw unended (omega (arith, newlines-append x (y ∷ ys)))
    ]

some_text : (kind : Kind) (text after : List ℕ) → is_text kind text ≡ true → 0 < length (text ++ after)
some_text kind [] after is = absurd (empty_no_text kind is)
some_text kind (b ∷ bs) after is = omega arith

-- the tokens of a text stand on its lines
pieces_lines : (first depth : ℕ) (d opened before lines : List ℕ) (ps : List Piece) (rest bytes : List ℕ) → d ≡ before ++ bytes → IsReading depth opened ps rest bytes → list_all (λ t. is_line_of first d t.line) (tokens_of first before lines ps) ≡ true
pieces_lines first depth d opened before lines [] rest bytes whole r = refl
pieces_lines first depth d opened before lines (p ∷ ps) rest bytes whole r =
    let e : d ≡ (before ++ p.gap) ++ (p.text ++ r.0) = whole ∙ ap (λ x. before ++ x) r.1.bytes_are ∙ sym (append_assoc before p.gap (p.text ++ r.0)) in
    let next : d ≡ (before ++ (p.gap ++ p.text)) ++ r.0 = e ∙ simp append_assoc in
    and_from _ _ (place_line first d (before ++ p.gap) (p.text ++ r.0) e (some_text p.kind p.text r.0 r.1.token.whole))
    (pieces_lines first depth d (open_after_token opened p.text) (before ++ (p.gap ++ p.text)) (line_at first (before ++ p.gap) ∷ lines) ps rest r.0 next r.2)

pub read_lines : (first depth : ℕ) (d : List ℕ) (us : List Placed) (fault : Option LexFault) → IsReadAs first depth d us fault → list_all (λ t. is_line_of first d t.line) us ≡ true
read_lines first depth d us None r = subst (λ ts. list_all (λ t. is_line_of first d t.line) ts ≡ true) (sym r.5) (pieces_lines first depth d [] [] [] r.0 r.1 d refl r.2)
read_lines first depth d us (Some f) r = subst (λ ts. list_all (λ t. is_line_of first d t.line) ts ≡ true) (sym r.1) (pieces_lines first depth d [] [] [] r.0.pieces (r.0.gap ++ r.0.place) d refl r.0.reading)

-- the brackets that are open are among the tokens
open_among : (test : Placed → Bool) (opened ts : List Placed) → list_all test opened ≡ true → list_all test ts ≡ true → list_all test (open_tokens opened ts) ≡ true
open_among test opened [] o h = o
open_among test opened (u ∷ ts) o h =
    let parts = and_parts (test u) (list_all test ts) h in
    open_among test (step opened u) ts (stepped (is_one is_opening_bracket u.text) (is_one is_closing_bracket u.text) refl refl parts.0) parts.1
  where
    dropped : (xs : List Placed) → list_all test xs ≡ true → list_all test (drop 1 xs) ≡ true
    dropped [] h = refl
    dropped (x ∷ xs) h = (and_parts (test x) (list_all test xs) h).1

    stepped : (opens closes : Bool) → is_one is_opening_bracket u.text ≡ opens → is_one is_closing_bracket u.text ≡ closes → test u ≡ true → list_all test (step opened u) ≡ true
    stepped true closes a b is = rw a (and_from _ _ is o)
    stepped false true a b is = rw (a, b) (dropped opened o)
    stepped false false a b is = rw (a, b) o

same_some : (f g : LexFault) → Some f ≡ Some g → f ≡ g
same_some f g e = cc

told_line : (sort : Sort) (line col : ℕ) → line_of (told sort line col) ≡ line
told_line open_text line col = refl
told_line bad_number line col = refl
told_line bad_backslash line col = refl
told_line bad_bracket line col = refl
told_line too_deep line col = refl
told_line bad_character line col = refl

-- the line of an open bracket, and of another fault
open_line : (test : ℕ → Bool) (opens : List Placed) (line col : ℕ) (f : LexFault) → list_all (λ t. test t.line) opens ≡ true → fault_at [] opens line col ≡ Some f → test (line_of f) ≡ true
open_line test [] line col f all e = absurd cc
open_line test (t ∷ opens) line col f all e = ap (λ l. test l) (sym (same e)) ∙ (and_parts (test t.line) (list_all (λ t. test t.line) opens) all).0
  where
    same : Some (faults.OpenBracket t.line t.col) ≡ Some f → t.line ≡ line_of f
    same e = ap line_of (same_some (faults.OpenBracket t.line t.col) f e)

place_told : (depth : ℕ) (opened gap : List ℕ) (b : ℕ) (bs : List ℕ) (opens : List Placed) (line col : ℕ) (f : LexFault) → is_gap (is_inside opened) gap ≡ true → begins_gap (is_inside opened) (b ∷ bs) ≡ false → IsStuck depth opened (gap ++ b ∷ bs) → fault_at (b ∷ bs) opens line col ≡ Some f → line ≡ line_of f
place_told depth opened gap b bs opens line col f is none stuck e =
    let bad = bad_here depth opened gap b bs is none stuck in
    let says = bad_says depth opened (b ∷ bs) bad.0 bad.1 in
    sym (told_line bad.0 line col) ∙ ap line_of (same_some (told bad.0 line col) f (sym (says.told_is opens line col) ∙ e))

-- and so does its fault
pub fault_line : (first depth : ℕ) (d : List ℕ) (f : LexFault) → IsFirstFault first depth d f → is_line_of first d (line_of f) ≡ true
fault_line first depth d f is = by_place is.place refl
  where
    whole : d ≡ (bytes_of is.pieces ++ is.gap) ++ is.place
    whole = reading_bytes depth [] is.pieces (is.gap ++ is.place) d is.reading ∙ sym (append_assoc (bytes_of is.pieces) is.gap is.place)

    line : ℕ
    line = line_at first (bytes_of is.pieces ++ is.gap)

    col : ℕ
    col = column_at (bytes_of is.pieces ++ is.gap)

    opens : List Placed
    opens = open_tokens [] (tokens_of first [] [] is.pieces)

    by_place : (place : List ℕ) → is.place ≡ place → is_line_of first d (line_of f) ≡ true
    by_place [] same =
        let all = open_among (λ t. is_line_of first d t.line) [] (tokens_of first [] [] is.pieces) refl (pieces_lines first depth d [] [] [] is.pieces (is.gap ++ is.place) d refl is.reading) in
        open_line (is_line_of first d) opens line col f all (ap (λ p. fault_at p opens line col) (sym same) ∙ is.is)
    by_place (b ∷ bs) same =
        let opened = open_after [] is.pieces in
        let told_is = place_told depth opened is.gap b bs opens line col f is.is_gap (ap (begins_gap (is_inside opened)) (sym same) ∙ is.after_gap) (subst (λ p. IsStuck depth opened (is.gap ++ p)) same is.stuck) (ap (λ p. fault_at p opens line col) (sym same) ∙ is.is) in
        ap (is_line_of first d) (sym told_is) ∙ place_line first d (bytes_of is.pieces ++ is.gap) is.place whole (omega (arith, ap length same))

-- tokens of lines stand before the line after them
tokens_before_line : (first depth : ℕ) (opened before lines : List ℕ) (ps : List Piece) (bytes : List ℕ) (bound : ℕ) → IsReading depth opened ps [] bytes → ends_in_line ps ≡ true → bound ≡ line_at first (before ++ bytes_of ps) → list_all (λ t. nat_lt t.line bound) (tokens_of first before lines ps) ≡ true
tokens_before_line first depth opened before lines [] bytes bound r line is = refl
tokens_before_line first depth opened before lines (p ∷ ps) bytes bound r line is =
    let some = some_newlines (p.text ++ bytes_of ps) (lines_newline depth opened p ps bytes r line) in
    let e : before ++ (p.gap ++ (p.text ++ bytes_of ps)) ≡ (before ++ p.gap) ++ (p.text ++ bytes_of ps) = simp append_assoc in
    let less : line_at first (before ++ p.gap) < bound = omega (arith, is, ap newlines e, newlines-append (before ++ p.gap) (p.text ++ bytes_of ps), some) in
    let same : before ++ (p.gap ++ (p.text ++ bytes_of ps)) ≡ (before ++ (p.gap ++ p.text)) ++ bytes_of ps = simp append_assoc in
    and_from _ _ (less_test (line_at first (before ++ p.gap)) bound less)
    (tokens_before_line first depth (open_after_token opened p.text) (before ++ (p.gap ++ p.text)) (line_at first (before ++ p.gap) ∷ lines) ps r.0 bound r.2 (following ps line) (is ∙ ap (line_at first) same))
  where
    following : (ps : List Piece) → ends_in_line (p ∷ ps) ≡ true → ends_in_line ps ≡ true
    following [] h = refl
    following (q ∷ qs) h = h

pub lines_end : (first depth : ℕ) (a : List ℕ) (ts : List Placed) → AreLinesOf first depth a ts → list_all (λ t. nat_lt t.line (line_at first a)) ts ≡ true
lines_end first depth a ts x =
    let whole : a ≡ bytes_of x.0 = reading_bytes depth [] x.0 [] a x.1 ∙ append-nil (bytes_of x.0) in
    subst (λ us. list_all (λ t. nat_lt t.line (line_at first a)) us ≡ true) (sym x.4) (tokens_before_line first depth [] [] [] x.0 a (line_at first a) x.1 x.3 (ap (line_at first) whole))

-- what a filter keeps
pub all_kept : (test : Placed → Bool) (ts : List Placed) → list_all test ts ≡ true → filter test ts ≡ ts
all_kept test [] h = refl
all_kept test (t ∷ ts) h =
    let parts = and_parts (test t) (list_all test ts) h in
    let here = parts.0 in
    rw here (ap (λ us. t ∷ us) (all_kept test ts parts.1))

pub none_kept : (other test : Placed → Bool) → ((t : Placed) → other t ≡ true → test t ≡ false) → (ts : List Placed) → list_all other ts ≡ true → filter test ts ≡ []
none_kept other test apart [] h = refl
none_kept other test apart (t ∷ ts) h =
    let parts = and_parts (other t) (list_all other ts) h in
    let here = apart t parts.0 in
    rw here (none_kept other test apart ts parts.1)

-- a line before those of a text, and a line after them
pub line_before : (first line : ℕ) (d : List ℕ) → nat_lt line first ≡ true → is_line_of first d line ≡ false
line_before first line d h = and_left _ _ (apart first line h)
  where
    apart : (first line : ℕ) → nat_lt line first ≡ true → nat_le first line ≡ false
    apart first line h = grind (arith, nat_tests)

pub line_after : (first line : ℕ) (d r : List ℕ) → ends_in_newline d ≡ true → is_line_of (line_at first d) r line ≡ true → is_line_of first d line ≡ false
line_after first line d r ends h = and_right _ _ (ap (nat_lt line) (same ends) ∙ apart (line_at first d) line (and_parts (nat_le (line_at first d) line) (nat_lt line (line_following (line_at first d) r)) h).0)
  where
    same : ends_in_newline d ≡ true → line_following first d ≡ line_at first d
    same ends = rw ends refl

    apart : (first line : ℕ) → nat_le first line ≡ true → nat_lt line first ≡ false
    apart first line h = grind (arith, nat_tests)
