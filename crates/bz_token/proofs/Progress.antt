-- How far a text has been read.
use Rattle.std.proofs.Common.{◌≡◌, ℕ, zero, suc, ◌+◌, ◌-◌, ◌<◌, ◌≤◌, ◌==◌, ◌&&◌, List, [], ◌∷◌, ◌++◌, length, take, drop, get_or, cond, Bool, true, false, not, refl, sym, ap, ap₂, subst, ◌∙◌, arith, inl, inr, IsUtf8, append_assoc, append-nil, length-append, take-append-drop}
use Rattle.std.specs.Prelude.{count_by, nat_eq, Option, Some, None, Result, Ok, Err, IfOk, IfErr}
use Rattle.std.specs.Option.{option_eq}
use Rattle.std.specs.Result.{IsErrAnd}
use Rattle.std.specs.List.{list_all, list_any}
use Rattle.std.specs.Str.{IsCharBoundary}
use Rattle.std.proofs.lemmas.Bool.{cases_Bool, and_parts, or_from, false≢true}
use Rattle.std.proofs.lemmas.Bool.Decides.{nat_tests}
use Rattle.std.proofs.lemmas.Grind.{common_steps}
use Rattle.std.proofs.lemmas.Str.{IsCharBoundary-start, IsUtf8-drop}
use Rattle.bz_token.specs.declared.token.Kind.{Kind}
use Rattle.bz_token.specs.Places.{Placed, line_at, column_from, column_at}
use Rattle.bz_token.specs.Lexical.{IsToken}
use Rattle.bz_token.specs.Brackets.{is_inside, is_opening_bracket, is_closing_bracket, closes_innermost, fits, open_after_token, open_tokens}
use Rattle.bz_token.specs.Reading.{is_gap, begins_gap, Piece, IsPiece, IsReading, open_after, bytes_of, token_of, tokens_of, AreTokensOf}
use Rattle.bz_token.specs.declared.fault.LexFault.{LexFault}
use Rattle.bz_token.specs.declared.scan_token.Bad.{Bad}
use Rattle.bz_token.specs.declared.scan_token.Bad.TheVariants.{Character, Number, OpenText, Backslash}
use Rattle.bz_token.specs.declared.brackets.Misfit.{Misfit}
use Rattle.bz_token.specs.declared.brackets.Misfit.TheVariants.{TooDeep, NoMatch}
use Rattle.bz_token.specs.Faults.{fault_at, IsFirstFault, IsFault}
use Rattle.bz_token.specs.private.Scans.{IsBadPlace, bad_fault, IsMisfit, misfit_fault, IsLeftOpen}
use Rattle.bz_token.specs.private.Steps.{IsRefused}
pub use Rattle.bz_token.specs.private.Progress.{lines_of, Descends, newest, Progress, Grows}
use Rattle.bz_token.proofs.Innermost.{step}
use Rattle.bz_token.proofs.Scanning.{boundary_after}
use Rattle.bz_token.proofs.Unique.{gap_stuck}
use Rattle.bz_token.proofs.BadPlaces.{Sort, open_text, bad_number, bad_backslash, bad_bracket, too_deep, bad_character, told, IsBadAt, bad_fault_at}
use Rattle.bz_token.specs.Common.{begins, is_newline}
use Rattle.bz_token.specs.Pieces.{is_blank}

abbrev pub newlines : List ℕ → ℕ
newlines bytes = count_by (λ b. b == 10) bytes

pub newlines-append : (xs ys : List ℕ) → newlines (xs ++ ys) ≡ newlines xs + newlines ys
newlines-append xs ys = grind (arith, common_steps)

pub column_from-append : (c : ℕ) (xs ys : List ℕ) → column_from c (xs ++ ys) ≡ column_from (column_from c xs) ys
column_from-append c [] ys = refl
column_from-append c (x ∷ xs) ys = column_from-append (cond (x == 10) 1 (c + 1)) xs ys

pub column_from-bounds : (c : ℕ) (xs : List ℕ) → 0 < c → (0 < column_from c xs) × (column_from c xs ≤ c + length xs)
column_from-bounds c [] h = (h, omega arith)
column_from-bounds c (x ∷ xs) h =
    elim (cases_Bool (x == 10)) [
      | inl hit ↦ let r = column_from-bounds 1 xs (omega arith) in rw hit (r.0, omega (arith, r.1))
      | inr miss ↦ let r = column_from-bounds (c + 1) xs (omega arith) in rw miss (r.0, omega (arith, r.1))
    ]

-- bytes without a newline
pub one_line_newlines : (xs : List ℕ) → list_any is_newline xs ≡ false → newlines xs ≡ 0
one_line_newlines [] h = refl
one_line_newlines (x ∷ xs) h = elim (cases_Bool (x == 10)) [
  | inl hit ↦ absurd (false≢true (sym h ∙ rw hit refl))
  | inr miss ↦ rw miss (one_line_newlines xs (rw miss at h))
]

pub one_line_column : (c : ℕ) (xs : List ℕ) → list_any is_newline xs ≡ false → column_from c xs ≡ c + length xs
one_line_column c [] h = omega arith
one_line_column c (x ∷ xs) h = elim (cases_Bool (x == 10)) [
  | inl hit ↦ absurd (false≢true (sym h ∙ rw hit refl))
  | inr miss ↦ rw miss (one_line_column (c + 1) xs (rw miss at h) ∙ omega arith)
]

pub reading_bytes : (depth : ℕ) (opened : List ℕ) (ps : List Piece) (rest bytes : List ℕ) → IsReading depth opened ps rest bytes → bytes ≡ bytes_of ps ++ rest
reading_bytes depth opened [] rest bytes r = r
reading_bytes depth opened (p ∷ ps) rest bytes r =
    r.1.bytes_are ∙ ap (λ x. p.gap ++ (p.text ++ x)) (reading_bytes depth (open_after_token opened p.text) ps rest r.0 r.2) ∙ simp append_assoc

pub reading_push : (depth : ℕ) (opened : List ℕ) (ps : List Piece) (p : Piece) (rest after bytes : List ℕ) → IsReading depth opened ps rest bytes → IsPiece depth (open_after opened ps) p rest after → IsReading depth opened (ps ++ p ∷ []) after bytes
reading_push depth opened [] p rest after bytes r piece = (after, subst (λ x. IsPiece depth opened p x after) (sym r) piece, refl)
reading_push depth opened (q ∷ ps) p rest after bytes r piece = (r.0, r.1, reading_push depth (open_after_token opened q.text) ps p rest after r.0 r.2 piece)

pub open_after-push : (opened : List ℕ) (ps : List Piece) (p : Piece) → open_after opened (ps ++ p ∷ []) ≡ open_after_token (open_after opened ps) p.text
open_after-push opened [] p = refl
open_after-push opened (q ∷ ps) p = open_after-push (open_after_token opened q.text) ps p

pub bytes_of-push : (ps : List Piece) (p : Piece) → bytes_of (ps ++ p ∷ []) ≡ bytes_of ps ++ (p.gap ++ p.text)
bytes_of-push [] p = ap (λ x. p.gap ++ x) (append-nil p.text)
bytes_of-push (q ∷ ps) p = rw (bytes_of-push ps p) (simp append_assoc)

pub tokens_of-push : (first : ℕ) (before lines : List ℕ) (ps : List Piece) (p : Piece)
    → tokens_of first before lines (ps ++ p ∷ []) ≡ tokens_of first before lines ps ++ token_of first (before ++ (bytes_of ps ++ p.gap)) (lines_of first before lines ps) p ∷ []
tokens_of-push first before lines [] p = refl
tokens_of-push first before lines (q ∷ ps) p =
    let same : (before ++ (q.gap ++ q.text)) ++ (bytes_of ps ++ p.gap) ≡ before ++ ((q.gap ++ (q.text ++ bytes_of ps)) ++ p.gap) = simp append_assoc in
    let more = line_at first (before ++ q.gap) ∷ lines in
    ap (λ ts. token_of first (before ++ q.gap) lines q ∷ ts)
    (tokens_of-push first (before ++ (q.gap ++ q.text)) more ps p
    ∙ ap (λ b. tokens_of first (before ++ (q.gap ++ q.text)) more ps ++ token_of first b (lines_of first (before ++ (q.gap ++ q.text)) more ps) p ∷ []) same)

pub lines_of-push : (first : ℕ) (before lines : List ℕ) (ps : List Piece) (p : Piece)
    → lines_of first before lines (ps ++ p ∷ []) ≡ line_at first (before ++ (bytes_of ps ++ p.gap)) ∷ lines_of first before lines ps
lines_of-push first before lines [] p = refl
lines_of-push first before lines (q ∷ ps) p =
    let same : (before ++ (q.gap ++ q.text)) ++ (bytes_of ps ++ p.gap) ≡ before ++ ((q.gap ++ (q.text ++ bytes_of ps)) ++ p.gap) = simp append_assoc in
    let more = line_at first (before ++ q.gap) ∷ lines in
    lines_of-push first (before ++ (q.gap ++ q.text)) more ps p
    ∙ ap (λ b. line_at first b ∷ lines_of first (before ++ (q.gap ++ q.text)) more ps) same

pub descends_more : (a b : ℕ) (ls : List ℕ) → a ≤ b → Descends a ls → Descends b ls
descends_more a b [] h d = tt
descends_more a b (l ∷ ls) h d = (omega (arith, d.0), d.1)

below : (bound line : ℕ) (ls : List ℕ) → Descends bound ls → bound < line → list_any (λ l. l == line) ls ≡ false
below bound line [] d h = refl
below bound line (l ∷ ls) d h =
    let apart : (l == line) ≡ false = differs l line (omega (arith, d.0)) in
    rw apart (below l line ls d.1 (omega (arith, d.0)))
  where
    differs : (a b : ℕ) → a < b → (a == b) ≡ false
    differs a b h = grind (arith, nat_tests)

abbrev pub same_line : Option ℕ → ℕ → Bool
same_line None line = false
same_line (Some l) line = l == line

-- a line is new where the newest is another
pub new_line : (line : ℕ) (ls : List ℕ) → Descends line ls → (fresh : Bool) → fresh ≡ not (same_line (newest ls) line) → fresh ≡ not (list_any (λ l. l == line) ls)
new_line line ls d fresh is = is ∙ ap not (found line ls d)
  where
    less : (l line : ℕ) → l ≤ line → (l == line) ≡ false → l < line
    less l line h apart = grind (arith, nat_tests)

    found : (line : ℕ) (ls : List ℕ) → Descends line ls → same_line (newest ls) line ≡ list_any (λ l. l == line) ls
    found line [] d = refl
    found line (l ∷ ls) d = elim (cases_Bool (l == line)) [
      | inl hit ↦ rw hit refl
      | inr miss ↦ rw miss (sym (below l line ls d.1 (less l line d.0 miss)))
    ]

-- the place after a gap
pub record AfterGap (first depth : ℕ) (bytes : List ℕ) (tokens : List Placed) (opened : List ℕ) (last : Option ℕ) (gap after : List ℕ) (line col : ℕ) : Type 0 where
  pub pieces : List Piece
  pub reading : IsReading depth [] pieces (gap ++ after) bytes
  pub is_gap : is_gap (is_inside (open_after [] pieces)) gap ≡ true
  pub after_gap : begins_gap (is_inside (open_after [] pieces)) after ≡ false
  pub opened_are : opened ≡ open_after [] pieces
  pub tokens_are : tokens ≡ tokens_of first [] [] pieces
  pub last_is : last ≡ newest (lines_of first [] [] pieces)
  pub descends : Descends (line_at first (bytes_of pieces)) (lines_of first [] [] pieces)
  pub line_is : line ≡ line_at first (bytes_of pieces ++ gap)
  pub col_is : col ≡ column_at (bytes_of pieces ++ gap)
  pub utf8 : IsUtf8 after

-- the places that are still to come fit
pub places_fit : (first depth : ℕ) (bytes : List ℕ) (tokens : List Placed) (opened : List ℕ) (last : Option ℕ) (rest : List ℕ) (line col : ℕ) → Progress first depth bytes tokens opened last rest line col
    → (line + newlines rest ≡ first + newlines bytes) × (col + length rest ≤ length bytes + 1) × (0 < col)
places_fit first depth bytes tokens opened last rest line col p =
    let whole : bytes ≡ (bytes_of p.pieces ++ p.gap) ++ rest = reading_bytes depth [] p.pieces (p.gap ++ rest) bytes p.reading ∙ sym (append_assoc (bytes_of p.pieces) p.gap rest) in
    let bounds = column_from-bounds 1 (bytes_of p.pieces ++ p.gap) (omega arith) in (
      omega (arith, ap newlines whole, newlines-append (bytes_of p.pieces ++ p.gap) rest, p.line_is),
      omega (arith, ap length whole, length-append (bytes_of p.pieces ++ p.gap) rest, bounds.1, p.col_is),
      omega (arith, bounds.0, p.col_is),
    )

-- nothing is read
pub read_start : (first depth : ℕ) (bytes opened : List ℕ) → opened ≡ [] → IsUtf8 bytes → Progress first depth bytes [] opened None bytes first 1
read_start first depth bytes opened none utf8 = record {
  pieces = [];
  gap = [];
  reading = refl;
  goes_on = λ ys. refl;
  opened_are = none;
  tokens_are = refl;
  last_is = refl;
  descends = tt;
  line_is = omega arith;
  col_is = refl;
  utf8 = utf8;
}

-- the same of what stands for nothing
pub read_fresh : (first depth : ℕ) (bytes : List ℕ) (tokens : List Placed) (opened : List ℕ) (last : Option ℕ) (rest : List ℕ) (line col : ℕ) → tokens ≡ [] → opened ≡ [] → last ≡ None → rest ≡ bytes → line ≡ first → col ≡ 1 → IsUtf8 bytes
    → (p : Progress first depth bytes tokens opened last rest line col) × (p.pieces ≡ [])
unfolding read_start
read_fresh first depth bytes tokens opened last rest line col none closed no_line whole at_line at_col utf8 =
    rw (none, no_line, whole, at_line, at_col) (read_start first depth bytes opened closed utf8, refl)

-- reading goes on in a gap
read_gap : (first depth : ℕ) (bytes : List ℕ) (tokens : List Placed) (opened : List ℕ) (last : Option ℕ) (rest following : List ℕ) (line col l c n : ℕ) → Progress first depth bytes tokens opened last rest line col
    → ((ys : List ℕ) → is_gap (is_inside opened) (take n rest ++ ys) ≡ is_gap (is_inside opened) ys) → IsCharBoundary rest n
    → following ≡ drop n rest → l ≡ line + newlines (take n rest) → c ≡ column_from col (take n rest)
    → Progress first depth bytes tokens opened last following l c
read_gap first depth bytes tokens opened last rest following line col l c n p white cut rest_is line_moves col_moves =
    let front = take n rest in
    let inside = is_inside (open_after [] p.pieces) in
    let whole : rest ≡ take n rest ++ following = rw (rest_is, take-append-drop) refl in
    let longer = append_assoc (bytes_of p.pieces) p.gap (take n rest) in
    record {
      pieces = p.pieces;
      gap = p.gap ++ take n rest;
      reading = subst (λ x. IsReading depth [] p.pieces x bytes) (ap (λ x. p.gap ++ x) whole ∙ sym (append_assoc p.gap (take n rest) following)) p.reading;
      goes_on = λ ys. ap (is_gap (is_inside (open_after [] p.pieces))) (append_assoc p.gap (take n rest) ys) ∙ p.goes_on (take n rest ++ ys)
          ∙ subst (λ o. is_gap (is_inside o) (take n rest ++ ys) ≡ is_gap (is_inside o) ys) p.opened_are (white ys);
      opened_are = p.opened_are;
      tokens_are = p.tokens_are;
      last_is = p.last_is;
      descends = p.descends;
      line_is = omega (arith, line_moves, p.line_is, newlines-append (bytes_of p.pieces ++ p.gap) (take n rest), ap newlines longer);
      col_is = col_moves ∙ ap (λ k. column_from k (take n rest)) p.col_is ∙ sym (column_from-append 1 (bytes_of p.pieces ++ p.gap) (take n rest)) ∙ ap column_at longer;
      utf8 = rw rest_is (IsUtf8-drop rest n p.utf8 cut);
    }

-- the same, with the pieces
pub gap_read : (first depth : ℕ) (bytes : List ℕ) (tokens : List Placed) (opened : List ℕ) (last : Option ℕ) (rest following : List ℕ) (line col l c n : ℕ) (p : Progress first depth bytes tokens opened last rest line col)
    → ((ys : List ℕ) → is_gap (is_inside opened) (take n rest ++ ys) ≡ is_gap (is_inside opened) ys) → IsCharBoundary rest n
    → following ≡ drop n rest → l ≡ line + newlines (take n rest) → c ≡ column_from col (take n rest)
    → (q : Progress first depth bytes tokens opened last following l c) × Grows None p.pieces q.pieces q.gap
unfolding read_gap
gap_read first depth bytes tokens opened last rest following line col l c n p white cut rest_is line_moves col_moves =
    (read_gap first depth bytes tokens opened last rest following line col l c n p white cut rest_is line_moves col_moves, refl)

-- no gap stands here
unfoldable pub after_gap : (first depth : ℕ) (bytes : List ℕ) (tokens : List Placed) (opened : List ℕ) (last : Option ℕ) (rest : List ℕ) (line col : ℕ) (p : Progress first depth bytes tokens opened last rest line col) → begins_gap (is_inside opened) rest ≡ false
    → AfterGap first depth bytes tokens opened last p.gap rest line col
after_gap first depth bytes tokens opened last rest line col p none = record {
  pieces = p.pieces;
  reading = p.reading;
  is_gap = sym (ap (is_gap (is_inside (open_after [] p.pieces))) (append-nil p.gap)) ∙ p.goes_on [];
  after_gap = subst (λ o. begins_gap (is_inside o) rest ≡ false) p.opened_are none;
  opened_are = p.opened_are;
  tokens_are = p.tokens_are;
  last_is = p.last_is;
  descends = p.descends;
  line_is = p.line_is;
  col_is = p.col_is;
  utf8 = p.utf8;
}

pub newlines_split : (xs front back : List ℕ) (n : ℕ) → front ≡ take n xs → back ≡ drop n xs → (newlines front + newlines back ≡ newlines xs) × (length front + length back ≡ length xs)
newlines_split xs front back n is_front is_back =
    let whole : xs ≡ front ++ back = rw (is_front, is_back, take-append-drop) refl in
    (omega (arith, ap newlines whole, newlines-append front back), omega (arith, ap length whole, length-append front back))

-- reading goes on after a token
after_token : (first depth : ℕ) (bytes : List ℕ) (tokens : List Placed) (opened opened' : List ℕ) (last : Option ℕ) (gap after text following : List ℕ) (kind : Kind) (line col l c : ℕ) (fresh : Bool)
    → AfterGap first depth bytes tokens opened last gap after line col → after ≡ text ++ following → IsToken kind text following → fits depth opened kind text ≡ true → opened' ≡ open_after_token opened text
    → fresh ≡ not (same_line last line) → IsUtf8 following → l ≡ line + newlines text → c ≡ column_from col text
    → Progress first depth bytes (tokens ++ record { kind = kind; text = text; line = line; col = col; fresh = fresh } ∷ []) opened' (Some line) following l c
after_token first depth bytes tokens opened opened' last gap after text following kind line col l c fresh before split token fit opens is_fresh utf8 line_moves col_moves =
    let p : Piece = record { gap = gap; kind = kind; text = text } in
    let ps = before.pieces in
    let whole : bytes_of (ps ++ p ∷ []) ≡ (bytes_of ps ++ gap) ++ text = bytes_of-push ps p ∙ sym (append_assoc (bytes_of ps) gap text) in
    let lines = lines_of first [] [] ps in
    let here : Descends line lines = descends_more (line_at first (bytes_of ps)) line lines (omega (arith, before.line_is, newlines-append (bytes_of ps) gap)) before.descends in
    let is_new : fresh ≡ not (list_any (λ x. x == line) lines) = new_line line lines here fresh (is_fresh ∙ ap (λ o. not (same_line o line)) before.last_is) in
    let push : lines_of first [] [] (ps ++ p ∷ []) ≡ line ∷ lines = lines_of-push first [] [] ps p ∙ ap (λ x. x ∷ lines) (sym before.line_is) in
    let now : l ≡ line_at first (bytes_of (ps ++ p ∷ [])) = omega (arith, before.line_is, ap newlines whole, newlines-append (bytes_of ps ++ gap) text) in
    record {
      pieces = ps ++ p ∷ [];
      gap = [];
      reading = reading_push depth [] ps p (gap ++ after) following bytes before.reading
          (record { bytes_are = ap (λ x. gap ++ x) split; gap = before.is_gap; token = token; fits = subst (λ o. fits depth o kind text ≡ true) before.opened_are fit });
      goes_on = λ ys. refl;
      opened_are = opens ∙ ap (λ o. open_after_token o text) before.opened_are ∙ sym (open_after-push [] ps p);
      tokens_are = ap₂ (λ ts t. ts ++ t ∷ []) before.tokens_are (λ i. record { kind = kind; text = text; line = before.line_is i; col = before.col_is i; fresh = (is_new ∙ ap (λ y. not (list_any (λ x. x == y) lines)) before.line_is) i }) ∙ sym (tokens_of-push first [] [] ps p);
      last_is = ap newest (sym push);
      descends = rw push (omega (arith, now), here);
      line_is = now ∙ ap (line_at first) (sym (append-nil (bytes_of (ps ++ p ∷ []))));
      col_is = col_moves ∙ ap (λ k. column_from k text) before.col_is ∙ sym (column_from-append 1 (bytes_of ps ++ gap) text) ∙ ap column_at (sym whole ∙ sym (append-nil (bytes_of (ps ++ p ∷ []))));
      utf8 = utf8;
    }

-- the same where no gap stands before the token, with the pieces
pub token_read : (first depth : ℕ) (bytes : List ℕ) (tokens : List Placed) (opened opened' : List ℕ) (last : Option ℕ) (rest text following : List ℕ) (kind : Kind) (line col l c : ℕ) (fresh : Bool) (p : Progress first depth bytes tokens opened last rest line col)
    → begins_gap (is_inside opened) rest ≡ false → rest ≡ text ++ following → IsToken kind text following → fits depth opened kind text ≡ true → opened' ≡ open_after_token opened text
    → fresh ≡ not (same_line last line) → IsUtf8 following → l ≡ line + newlines text → c ≡ column_from col text
    → (q : Progress first depth bytes (tokens ++ record { kind = kind; text = text; line = line; col = col; fresh = fresh } ∷ []) opened' (Some line) following l c) × Grows (Some kind) p.pieces q.pieces q.gap
unfolding after_token after_gap
token_read first depth bytes tokens opened opened' last rest text following kind line col l c fresh p none split token fit opens is_fresh utf8 line_moves col_moves = (
  after_token first depth bytes tokens opened opened' last p.gap rest text following kind line col l c fresh (after_gap first depth bytes tokens opened last rest line col p none) split token fit opens is_fresh utf8 line_moves col_moves,
  (record { gap = p.gap; kind = kind; text = text }, refl, refl, refl),
)

-- a fault after a gap
unfoldable pub fault_after : (first depth : ℕ) (bytes : List ℕ) (tokens : List Placed) (opened : List ℕ) (last : Option ℕ) (gap after : List ℕ) (line col : ℕ) (sort : Sort) → AfterGap first depth bytes tokens opened last gap after line col → IsBadAt depth opened after sort
    → IsFirstFault first depth bytes (told sort line col)
fault_after first depth bytes tokens opened last gap after line col sort b bad =
    subst (IsFirstFault first depth bytes) (sym (ap₂ (told sort) b.line_is b.col_is))
    (bad_fault_at first depth bytes b.pieces gap after sort b.reading b.is_gap b.after_gap (subst (λ o. IsBadAt depth o after sort) b.opened_are bad))

-- as many tokens as bytes of open brackets
pub open_lengths : (first : ℕ) (before lines : List ℕ) (opened : List Placed) (brackets : List ℕ) (ps : List Piece) → length opened ≡ length brackets → length (open_tokens opened (tokens_of first before lines ps)) ≡ length (open_after brackets ps)
open_lengths first before lines opened brackets [] same = same
open_lengths first before lines opened brackets (p ∷ ps) same =
    let t = token_of first (before ++ p.gap) lines p in
    open_lengths first (before ++ (p.gap ++ p.text)) (line_at first (before ++ p.gap) ∷ lines) (step opened t) (open_after_token brackets p.text) ps (stepped (token_of first (before ++ p.gap) lines p) p.text refl)
  where
    dropped : (xs : List Placed) (ys : List ℕ) → length xs ≡ length ys → length (drop 1 xs) ≡ length (drop 1 ys)
    dropped [] [] e = refl
    dropped [] (y ∷ ys) e = absurd (omega arith)
    dropped (x ∷ xs) [] e = absurd (omega arith)
    dropped (x ∷ xs) (y ∷ ys) e = omega arith

    stepped : (t : Placed) (text : List ℕ) → t.text ≡ text → length (step opened t) ≡ length (open_after_token brackets text)
    stepped t [] e = rw e same
    stepped t (b ∷ c ∷ bs) e = rw e same
    stepped t (b ∷ []) e = rw e (elim (cases_Bool (is_opening_bracket b)) [
      | inl opens ↦ rw opens (ap suc same)
      | inr none ↦ elim (cases_Bool (is_closing_bracket b)) [
        | inl closes ↦ rw (none, closes) (dropped opened brackets same)
        | inr other ↦ rw (none, other) same
      ]
    ])

pub none_left : (xs : List ℕ) → length xs ≡ 0 → xs ≡ []
none_left [] e = refl
none_left (x ∷ xs) e = absurd (omega arith)

-- the whole text was read
pub all_read : (first depth : ℕ) (bytes : List ℕ) (tokens : List Placed) (opened : List ℕ) (last : Option ℕ) (gap after : List ℕ) (line col : ℕ) → AfterGap first depth bytes tokens opened last gap after line col → after ≡ [] → opened ≡ []
    → AreTokensOf first depth bytes tokens
all_read first depth bytes tokens opened last gap after line col b done closed =
    let empty : open_after [] b.pieces ≡ [] = sym b.opened_are ∙ closed in
    let end : gap ++ after ≡ gap = ap (λ r. gap ++ r) done ∙ append-nil gap in
    (b.pieces, gap, subst (λ x. IsReading depth [] b.pieces x bytes) end b.reading, subst (λ o. is_gap (is_inside o) gap ≡ true) empty b.is_gap, empty, b.tokens_are)

-- no token of a bracket is left open: no bracket is
pub none_opened : (first depth : ℕ) (bytes : List ℕ) (tokens : List Placed) (opened : List ℕ) (last : Option ℕ) (gap after : List ℕ) (line col : ℕ) → AfterGap first depth bytes tokens opened last gap after line col → open_tokens [] tokens ≡ [] → opened ≡ []
none_opened first depth bytes tokens opened last gap after line col b closed =
    b.opened_are ∙ none_left (open_after [] b.pieces) (sym (open_lengths first [] [] [] [] b.pieces refl) ∙ ap (λ ts. length (open_tokens [] ts)) (sym b.tokens_are) ∙ ap length closed)

pub outside : (opened : List ℕ) → is_inside opened ≡ false → opened ≡ []
outside [] h = refl
outside (b ∷ bs) h = absurd (false≢true (sym h))

-- a gap without a newline is on one line
pub one_line : (xs : List ℕ) → list_all is_blank xs ≡ true → list_any is_newline xs ≡ false
one_line [] h = refl
one_line (x ∷ xs) h =
    let parts = and_parts (is_blank x) (list_all is_blank xs) h in
    or_from (x == 10) (list_any is_newline xs) (blank_no_newline x parts.0) (one_line xs parts.1)
  where
    blank_no_newline : (b : ℕ) → is_blank b ≡ true → (b == 10) ≡ false
    blank_no_newline b h = grind (arith, nat_tests)

pub gap_boundary : (rest : List ℕ) (n : ℕ) → IsUtf8 rest → n ≤ length rest → (0 < n → get_or rest (n - 1) 0 < 128) → IsCharBoundary rest n
gap_boundary rest zero utf8 within ascii = IsCharBoundary-start rest utf8
gap_boundary rest (suc n) utf8 within ascii = boundary_after rest (suc n) (omega arith) within (ascii (omega arith)) utf8

pub empty_from_test : (xs : List ℕ) → (length xs == 0) ≡ true → xs ≡ []
empty_from_test [] h = refl
empty_from_test (x ∷ xs) h = grind (arith, nat_tests)

pub some_from_test : (xs : List ℕ) → (length xs == 0) ≡ false → 0 < length xs
some_from_test [] h = grind (arith, nat_tests)
some_from_test (x ∷ xs) h = omega arith

pub begins_at : (p : ℕ → Bool) (xs : List ℕ) → 0 < length xs → p (get_or xs 0 0) ≡ true → begins p xs ≡ true
begins_at p [] some h = absurd (omega arith)
begins_at p (x ∷ xs) some h = h

pub if_ok : {V E : Type 0} (P Q : V → Type 0) (r : Result V E) → ((v : V) → P v → Q v) → IfOk r P → IfOk r Q
if_ok P Q (Ok v) f h = f v h
if_ok P Q (Err e) f h = tt

pub if_err : {V E : Type 0} (P Q : E → Type 0) (r : Result V E) → ((e : E) → P e → Q e) → IfErr r P → IfErr r Q
if_err P Q (Ok v) f h = tt
if_err P Q (Err e) f h = f e h

-- an error that `?` passes on
pub passed_on : {V E : Type 0} (r : Result V E) (x : E) (P : E → Type 0) → IsErrAnd r (λ e. e ≡ x) → P x → IfErr r P
passed_on (Ok v) x P h is = tt
passed_on (Err e) x P h is = subst P (sym h) is

pub both : (x y : Bool) → x ≡ true → y ≡ false → (x && not y) ≡ true
both x y p q = rw (p, q) refl

-- the faults that end a reading
unfoldable pub bad_at : (first depth : ℕ) (bytes : List ℕ) (tokens : List Placed) (opened : List ℕ) (last : Option ℕ) (gap after : List ℕ) (line col : ℕ) (bad : Bad) → AfterGap first depth bytes tokens opened last gap after line col → IsBadPlace after bad
    → IsFault first depth bytes (bad_fault bad line col)
bad_at first depth bytes tokens opened last gap after line col Character b is = fault_after first depth bytes tokens opened last gap after line col bad_character b is
bad_at first depth bytes tokens opened last gap after line col Number b is = fault_after first depth bytes tokens opened last gap after line col bad_number b is
bad_at first depth bytes tokens opened last gap after line col OpenText b is = fault_after first depth bytes tokens opened last gap after line col open_text b is
bad_at first depth bytes tokens opened last gap after line col Backslash b is = fault_after first depth bytes tokens opened last gap after line col bad_backslash b is

unfoldable pub misfit_at : (first depth : ℕ) (bytes : List ℕ) (tokens : List Placed) (opened : List ℕ) (last : Option ℕ) (gap after : List ℕ) (line col : ℕ) (misfit : Misfit) → AfterGap first depth bytes tokens opened last gap after line col → 0 < length after → IsMisfit depth opened (get_or after 0 0) misfit
    → IsFault first depth bytes (misfit_fault misfit line col)
misfit_at first depth bytes tokens opened last gap after line col TooDeep b some is =
    fault_after first depth bytes tokens opened last gap after line col too_deep b (record { bracket = begins_at is_opening_bracket after some is.0; deep = is.1 })
misfit_at first depth bytes tokens opened last gap after line col NoMatch b some is =
    fault_after first depth bytes tokens opened last gap after line col bad_bracket b (begins_at (λ x. is_closing_bracket x && not (closes_innermost opened x)) after some (both _ _ is.0 is.1))

-- where no token stands, or one whose first byte is a bracket that does not fit
pub refused_at : (first depth : ℕ) (bytes : List ℕ) (tokens : List Placed) (opened : List ℕ) (last : Option ℕ) (rest here : List ℕ) (line col : ℕ) (fault : LexFault) → Progress first depth bytes tokens opened last rest line col → here ≡ rest → 0 < length here
    → IsRefused depth opened here line col fault → IsFault first depth bytes fault
refused_at first depth bytes tokens opened last rest here line col fault p same some is =
    let some_left : 0 < length rest = omega (arith, some, ap length same) in
    let refused : IsRefused depth opened rest line col fault = subst (λ xs. IsRefused depth opened xs line col fault) same is in
    let b = after_gap first depth bytes tokens opened last rest line col p refused.0 in
    elim refused.1 [
      | inl bad ↦ subst (IsFault first depth bytes) (sym bad.2) (bad_at first depth bytes tokens opened last p.gap rest line col bad.0 b bad.1)
      | inr misfit ↦ subst (IsFault first depth bytes) (sym misfit.2) (misfit_at first depth bytes tokens opened last p.gap rest line col misfit.0 b some_left misfit.1)
    ]

pub left_open : (first depth : ℕ) (bytes : List ℕ) (tokens : List Placed) (opened : List ℕ) (last : Option ℕ) (gap after : List ℕ) (line col : ℕ) (fault : LexFault) → AfterGap first depth bytes tokens opened last gap after line col → after ≡ [] → IsLeftOpen tokens fault
    → IsFault first depth bytes fault
left_open first depth bytes tokens opened last gap after line col fault b done (t, outer, found, is) =
    let is_first : IsFirstFault first depth bytes (LexFault.OpenBracket t.line t.col) = record {
      pieces = b.pieces;
      gap = gap;
      place = [];
      reading = subst (λ x. IsReading depth [] b.pieces (gap ++ x) bytes) done b.reading;
      stuck = gap_stuck depth (open_after [] b.pieces) (gap ++ []) (ap (is_gap (is_inside (open_after [] b.pieces))) (append-nil gap) ∙ b.is_gap);
      is_gap = b.is_gap;
      after_gap = refl;
      is = ap (λ opens. fault_at [] opens (line_at first (bytes_of b.pieces ++ gap)) (column_at (bytes_of b.pieces ++ gap))) (ap (open_tokens []) (sym b.tokens_are) ∙ found);
    } in
    rw is is_first

pub same_as : (o : Option ℕ) (line : ℕ) → option_eq nat_eq o (Some line) ≡ same_line o line
same_as None line = refl
same_as (Some l) line = refl
