-- Readings that follow one another.
use Rattle.std.proofs.Common.{◌≡◌, ℕ, ◌<◌, ◌≤◌, ◌==◌, ◌||◌, List, [], ◌∷◌, ◌++◌, length, take, Bool, true, false, not, refl, sym, ap, ap₂, subst, ◌∙◌, arith, inl, inr, append_assoc, append-nil, one-add}
use Rattle.std.specs.Prelude.{nat_lt}
use Rattle.std.specs.List.{list_all, list_any, prefix_len}
use Rattle.std.proofs.lemmas.Bool.{cases_Bool, and_parts, false≢true, or_right}
use Rattle.std.proofs.lemmas.Bool.Decides.{nat_tests}
use Rattle.std.proofs.lemmas.List.Folds.{list_any-append}
use Rattle.bz_token.specs.declared.token.Kind.{Kind}
use Rattle.bz_token.specs.declared.token.Kind.TheVariants.{Identifier, Keyword, Integer, String, Operator, Newline, Comment, Kept}
use Rattle.bz_token.specs.Places.{Placed, line_at, column_from, column_at}
use Rattle.bz_token.specs.Lexical.{is_text, IsToken}
use Rattle.bz_token.specs.Common.{is_newline}
use Rattle.bz_token.specs.Ends.{ends, stops_at}
use Rattle.bz_token.specs.Brackets.{is_line, open_after_token}
use Rattle.bz_token.specs.Reading.{Piece, IsPiece, IsReading, open_after, bytes_of, token_of, tokens_of, AreTokensOf}
use Rattle.bz_token.specs.FreshStart.{ends_in_line, AreLinesOf}
use Rattle.bz_token.proofs.Classes.{same_bytes}
use Rattle.bz_token.proofs.Ends.{line_token}
use Rattle.bz_token.proofs.Stops.{token_ended, token_ends}
use Rattle.bz_token.proofs.Progress.{newlines, newlines-append, column_from-append, reading_bytes, lines_of}
use Rattle.bz_token.specs.Pieces.{is_blank}

-- white space up to a newline stays so, whatever follows
pub comment_more : (after b : List ℕ) → list_any is_newline after ≡ true → take (prefix_len (λ c. not (is_newline c)) (after ++ b)) (after ++ b) ≡ take (prefix_len (λ c. not (is_newline c)) after) after
comment_more [] b h = absurd (false≢true h)
comment_more (c ∷ cs) b h = elim (cases_Bool (is_newline c)) [
  | inl hit ↦ rw hit refl
  | inr miss ↦
      let rest : list_any is_newline cs ≡ true = sym (ap (λ x. x || list_any is_newline cs) miss) ∙ h in
      rw (miss, one-add, one-add) (ap (λ xs. c ∷ xs) (comment_more cs b rest))
]

first_more : (kind : Kind) (text after b : List ℕ) → list_any is_newline after ≡ true → stops_at kind text after ≡ true → stops_at kind text (after ++ b) ≡ true
first_more kind text [] b h stop = absurd (false≢true h)
first_more kind text (c ∷ cs) b h stop = stop

-- what ends a text before a line's end ends it, whatever follows
ends_more : (kind : Kind) (text after b : List ℕ) → list_any is_newline after ≡ true → ends kind text after ≡ true → ends kind text (after ++ b) ≡ true
ends_more Comment text after b h stop = ap (list_all is_blank) (comment_more after b h) ∙ stop
ends_more Identifier text after b h stop = first_more Identifier text after b h stop
ends_more Keyword text after b h stop = first_more Keyword text after b h stop
ends_more Integer text after b h stop = first_more Integer text after b h stop
ends_more String text after b h stop = first_more String text after b h stop
ends_more Operator text after b h stop = first_more Operator text after b h stop
ends_more Newline text after b h stop = first_more Newline text after b h stop
ends_more Kept text after b h stop = first_more Kept text after b h stop

pub token_more : (kind : Kind) (text after b : List ℕ) → IsToken kind text after → list_any is_newline after ≡ true → IsToken kind text (after ++ b)
token_more kind text after b token h = token_ended kind text (after ++ b) token.whole (ends_more kind text after b h (token_ends kind text after token))

pub line_kind : (kind : Kind) → is_line kind ≡ true → kind ≡ Newline
line_kind Newline h = refl
line_kind Identifier h = absurd (false≢true h)
line_kind Keyword h = absurd (false≢true h)
line_kind Integer h = absurd (false≢true h)
line_kind String h = absurd (false≢true h)
line_kind Operator h = absurd (false≢true h)
line_kind Comment h = absurd (false≢true h)
line_kind Kept h = absurd (false≢true h)

pub line_text : (kind : Kind) (text : List ℕ) → is_line kind ≡ true → is_text kind text ≡ true → text ≡ 10 ∷ []
line_text kind text line is = same_bytes text (10 ∷ []) (subst (λ k. is_text k text ≡ true) (line_kind kind line) is)

pub any_right : (p : ℕ → Bool) (xs ys : List ℕ) → list_any p ys ≡ true → list_any p (xs ++ ys) ≡ true
any_right p xs ys h = list_any-append p xs ys ∙ or_right (list_any p xs) (list_any p ys) h

pub any_left : (p : ℕ → Bool) (xs ys : List ℕ) → list_any p xs ≡ true → list_any p (xs ++ ys) ≡ true
any_left p xs ys h = list_any-append p xs ys ∙ rw h refl

-- lines that are not empty hold a newline
pub lines_newline : (depth : ℕ) (opened : List ℕ) (p : Piece) (ps : List Piece) (bytes : List ℕ) → IsReading depth opened (p ∷ ps) [] bytes → ends_in_line (p ∷ ps) ≡ true → list_any is_newline (p.text ++ bytes_of ps) ≡ true
lines_newline depth opened p [] bytes r line = any_left is_newline p.text [] (ap (list_any is_newline) (line_text p.kind p.text line r.1.token.whole))
lines_newline depth opened p (q ∷ qs) bytes r line =
    any_right is_newline p.text (bytes_of (q ∷ qs)) (any_right is_newline q.gap (q.text ++ bytes_of qs) (lines_newline depth (open_after_token opened p.text) q qs r.0 r.2 line))

-- a piece stays where more follows
piece_more : (depth : ℕ) (opened : List ℕ) (p : Piece) (bytes after b : List ℕ) → IsPiece depth opened p bytes after → IsToken p.kind p.text (after ++ b) → IsPiece depth opened p (bytes ++ b) (after ++ b)
piece_more depth opened p bytes after b piece token = record {
  bytes_are = ap (λ x. x ++ b) piece.bytes_are ∙ simp append_assoc;
  gap = piece.gap;
  token = token;
  fits = piece.fits;
}

-- lines, and what is read after them
pub join_reading : (depth : ℕ) (opened : List ℕ) (ps qs : List Piece) (a b s : List ℕ) → IsReading depth opened ps [] a → ends_in_line ps ≡ true → IsReading depth (open_after opened ps) qs s b → IsReading depth opened (ps ++ qs) s (a ++ b)
join_reading depth opened [] qs a b s r line more = subst (λ x. IsReading depth opened qs s (x ++ b)) (sym r) more
join_reading depth opened (p ∷ []) qs a b s r line more =
    let token : IsToken p.kind p.text (r.0 ++ b) = subst (λ k. IsToken k p.text (r.0 ++ b)) (sym (line_kind p.kind line)) (subst (λ t. IsToken Newline t (r.0 ++ b)) (sym (line_text p.kind p.text line r.1.token.whole)) (line_token (r.0 ++ b))) in
    (r.0 ++ b, piece_more depth opened p a r.0 b r.1 token, subst (λ x. IsReading depth (open_after_token opened p.text) qs s (x ++ b)) (sym r.2) more)
join_reading depth opened (p ∷ q ∷ ps) qs a b s r line more =
    let whole = reading_bytes depth (open_after_token opened p.text) (q ∷ ps) [] r.0 r.2 ∙ append-nil (bytes_of (q ∷ ps)) in
    let newline : list_any is_newline r.0 ≡ true = ap (list_any is_newline) whole ∙ any_right is_newline q.gap (q.text ++ bytes_of ps) (lines_newline depth (open_after_token opened p.text) q ps r.0 r.2 line) in
    (r.0 ++ b, piece_more depth opened p a r.0 b r.1 (token_more p.kind p.text r.0 b r.1.token newline), join_reading depth (open_after_token opened p.text) (q ∷ ps) qs r.0 b s r.2 line more)

pub open_after-append : (opened : List ℕ) (ps qs : List Piece) → open_after opened (ps ++ qs) ≡ open_after (open_after opened ps) qs
open_after-append opened [] qs = refl
open_after-append opened (p ∷ ps) qs = open_after-append (open_after_token opened p.text) ps qs

pub bytes_of-append : (ps qs : List Piece) → bytes_of (ps ++ qs) ≡ bytes_of ps ++ bytes_of qs
bytes_of-append [] qs = refl
bytes_of-append (p ∷ ps) qs = ap (λ x. p.gap ++ (p.text ++ x)) (bytes_of-append ps qs) ∙ simp append_assoc

pub tokens_of-append : (first : ℕ) (before lines : List ℕ) (ps qs : List Piece) → tokens_of first before lines (ps ++ qs) ≡ tokens_of first before lines ps ++ tokens_of first (before ++ bytes_of ps) (lines_of first before lines ps) qs
tokens_of-append first before lines [] qs = ap (λ x. tokens_of first x lines qs) (sym (append-nil before))
tokens_of-append first before lines (p ∷ ps) qs =
    let more = line_at first (before ++ p.gap) ∷ lines in
    let next = before ++ (p.gap ++ p.text) in
    let same : next ++ bytes_of ps ≡ before ++ (p.gap ++ (p.text ++ bytes_of ps)) = simp append_assoc in
    ap (λ ts. token_of first (before ++ p.gap) lines p ∷ ts)
    (tokens_of-append first next more ps qs ∙ ap (λ x. tokens_of first next more ps ++ tokens_of first x (lines_of first next more ps) qs) same)

-- all these lines are before one
abbrev pub are_before : ℕ → List ℕ → Bool
are_before line lines = list_all (λ l. nat_lt l line) lines

no_line_here : (bound line : ℕ) (old : List ℕ) → are_before bound old ≡ true → bound ≤ line → list_any (λ l. l == line) old ≡ false
no_line_here bound line [] h fits = refl
no_line_here bound line (l ∷ ls) h fits =
    let parts = and_parts (nat_lt l bound) (are_before bound ls) h in
    let apart = differs l parts.0 in
    let more = no_line_here bound line ls parts.1 fits in
    rw (apart, more) refl
  where
    differs : (l : ℕ) → nat_lt l bound ≡ true → (l == line) ≡ false
    differs l h = grind (arith, nat_tests)

-- tokens after lines are those of their own text, with its first line
pub tokens_shift : (first : ℕ) (a before lines old : List ℕ) (qs : List Piece) → column_at a ≡ 1 → are_before (line_at first a) old ≡ true → tokens_of first (a ++ before) (lines ++ old) qs ≡ tokens_of (line_at first a) before lines qs
tokens_shift first a before lines old [] column below = refl
tokens_shift first a before lines old (q ∷ qs) column below =
    let gap : (a ++ before) ++ q.gap ≡ a ++ (before ++ q.gap) = simp append_assoc in
    let next : (a ++ before) ++ (q.gap ++ q.text) ≡ a ++ (before ++ (q.gap ++ q.text)) = simp append_assoc in
    let line : line_at first ((a ++ before) ++ q.gap) ≡ line_at (line_at first a) (before ++ q.gap) = ap (line_at first) gap ∙ omega (arith, newlines-append a (before ++ q.gap)) in
    let col : column_at ((a ++ before) ++ q.gap) ≡ column_at (before ++ q.gap) = ap column_at gap ∙ column_from-append 1 a (before ++ q.gap) ∙ ap (λ c. column_from c (before ++ q.gap)) column in
    let here = line_at (line_at first a) (before ++ q.gap) in
    let none : list_any (λ l. l == here) old ≡ false = no_line_here (line_at first a) here old below (omega arith) in
    let fresh : not (list_any (λ l. l == here) (lines ++ old)) ≡ not (list_any (λ l. l == here) lines) = ap not (list_any-append (λ l. l == here) lines old ∙ ap (λ x. list_any (λ l. l == here) lines || x) none ∙ or_false (list_any (λ l. l == here) lines)) in
    ap₂ (λ t ts. t ∷ ts)
    (λ i. record { kind = q.kind; text = q.text; line = line i; col = col i; fresh = (ap (λ y. not (list_any (λ l. l == y) (lines ++ old))) line ∙ fresh) i })
    (ap₂ (λ x y. tokens_of first x (y ∷ (lines ++ old)) qs) next line ∙ tokens_shift first a (before ++ (q.gap ++ q.text)) (here ∷ lines) old qs column below)
  where
    or_false : (x : Bool) → (x || false) ≡ x
    or_false true = refl
    or_false false = refl

-- after lines a line begins
pub lines_column : (depth : ℕ) (opened : List ℕ) (c : ℕ) (ps : List Piece) (bytes : List ℕ) → IsReading depth opened ps [] bytes → ends_in_line ps ≡ true → 0 < length ps → column_from c (bytes_of ps) ≡ 1
lines_column depth opened c [] bytes r line some = absurd (omega arith)
lines_column depth opened c (p ∷ []) bytes r line some =
    ap (column_from c) (ap (λ x. p.gap ++ x) (append-nil p.text ∙ line_text p.kind p.text line r.1.token.whole)) ∙ column_from-append c p.gap (10 ∷ [])
lines_column depth opened c (p ∷ q ∷ ps) bytes r line some =
    column_from-append c p.gap (p.text ++ bytes_of (q ∷ ps)) ∙ column_from-append (column_from c p.gap) p.text (bytes_of (q ∷ ps))
    ∙ lines_column depth (open_after_token opened p.text) (column_from (column_from c p.gap) p.text) (q ∷ ps) r.0 r.2 line (omega arith)

pub column_after : (depth : ℕ) (ps : List Piece) (bytes : List ℕ) → IsReading depth [] ps [] bytes → ends_in_line ps ≡ true → column_at (bytes_of ps) ≡ 1
column_after depth [] bytes r line = refl
column_after depth (p ∷ ps) bytes r line = lines_column depth [] 1 (p ∷ ps) bytes r line (omega arith)

pub some_newlines : (xs : List ℕ) → list_any is_newline xs ≡ true → 0 < newlines xs
some_newlines [] h = absurd (false≢true h)
some_newlines (x ∷ xs) h = elim (cases_Bool (x == 10)) [
  | inl hit ↦ let one : newlines (x ∷ []) ≡ 1 = rw hit refl in omega (arith, newlines-append (x ∷ []) xs, one)
  | inr miss ↦ omega (arith, newlines-append (x ∷ []) xs, some_newlines xs (sym (ap (λ y. y || list_any is_newline xs) miss) ∙ h))
]

-- tokens of lines begin before the line after them
pub lines_before : (depth : ℕ) (opened : List ℕ) (first : ℕ) (before lines : List ℕ) (ps : List Piece) (bytes : List ℕ) (bound : ℕ) → IsReading depth opened ps [] bytes → ends_in_line ps ≡ true → bound ≡ line_at first (before ++ bytes_of ps)
    → are_before bound lines ≡ true → are_before bound (lines_of first before lines ps) ≡ true
lines_before depth opened first before lines [] bytes bound r line is below = below
lines_before depth opened first before lines (p ∷ ps) bytes bound r line is below =
    let some = some_newlines (p.text ++ bytes_of ps) (lines_newline depth opened p ps bytes r line) in
    let e : before ++ (p.gap ++ (p.text ++ bytes_of ps)) ≡ (before ++ p.gap) ++ (p.text ++ bytes_of ps) = simp append_assoc in
    let less : line_at first (before ++ p.gap) < bound = omega (arith, is, ap newlines e, newlines-append (before ++ p.gap) (p.text ++ bytes_of ps), some) in
    let here = less_test (line_at first (before ++ p.gap)) bound less in
    let same : before ++ (p.gap ++ (p.text ++ bytes_of ps)) ≡ (before ++ (p.gap ++ p.text)) ++ bytes_of ps = simp append_assoc in
    lines_before depth (open_after_token opened p.text) first (before ++ (p.gap ++ p.text)) (line_at first (before ++ p.gap) ∷ lines) ps r.0 bound r.2 (following ps line) (is ∙ ap (line_at first) same) (rw (here, below) refl)
  where
    less_test : (x y : ℕ) → x < y → nat_lt x y ≡ true
    less_test x y h = grind (arith, nat_tests)

    following : (ps : List Piece) → ends_in_line (p ∷ ps) ≡ true → ends_in_line ps ≡ true
    following [] h = refl
    following (q ∷ qs) h = h

-- the tokens of lines and of what follows them
pub joined_tokens : (first depth : ℕ) (ps qs : List Piece) (a : List ℕ) → IsReading depth [] ps [] a → ends_in_line ps ≡ true → tokens_of first [] [] (ps ++ qs) ≡ tokens_of first [] [] ps ++ tokens_of (line_at first a) [] [] qs
joined_tokens first depth ps qs a r line =
    let whole : a ≡ bytes_of ps = reading_bytes depth [] ps [] a r ∙ append-nil (bytes_of ps) in
    let below = lines_before depth [] first [] [] ps a (line_at first (bytes_of ps)) r line refl refl in
    tokens_of-append first [] [] ps qs
    ∙ ap (λ ts. tokens_of first [] [] ps ++ ts)
    (ap (λ x. tokens_of first x (lines_of first [] [] ps) qs) (sym (append-nil (bytes_of ps)))
    ∙ tokens_shift first (bytes_of ps) [] [] (lines_of first [] [] ps) qs (column_after depth ps a r line) below
    ∙ ap (λ x. tokens_of (line_at first x) [] [] qs) (sym whole))

-- the tokens of lines, and of the text after them
pub tokens_after_lines : (first depth : ℕ) (a b : List ℕ) (ts us : List Placed) → AreLinesOf first depth a ts → AreTokensOf (line_at first a) depth b us → AreTokensOf first depth (a ++ b) (ts ++ us)
tokens_after_lines first depth a b ts us x y =
    let ps = x.0 in
    let qs = y.0 in
    let more = subst (λ o. IsReading depth o qs y.1 b) (sym x.2) y.2 in (
      ps ++ qs,
      y.1,
      join_reading depth [] ps qs a b y.1 x.1 x.3 more,
      y.3,
      open_after-append [] ps qs ∙ ap (λ o. open_after o qs) x.2 ∙ y.4,
      ap₂ (λ s t. s ++ t) x.4 y.5 ∙ sym (joined_tokens first depth ps qs a x.1 x.3),
    )
