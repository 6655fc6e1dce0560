-- The logical lines of a text that has tokens are its tokens, cut after each newline token.
use Rattle.std.proofs.Common.{◌≡◌, ℕ, ◌<◌, ◌&&◌, ◌||◌, List, [], ◌∷◌, ◌++◌, length, Bool, true, false, refl, sym, ap, subst, ◌∙◌, arith, inl, inr, append_assoc, append-nil}
use Rattle.std.specs.Prelude.{if◌then◌else◌}
use Rattle.std.specs.List.{list_all, list_any}
use Rattle.std.proofs.lemmas.Bool.{cases_Bool, and_parts, or_parts, false≢true}
use Rattle.std.proofs.lemmas.List.Folds.{list_all-append}
use Rattle.bz_token.specs.declared.token.Kind.{Kind}
use Rattle.bz_token.specs.declared.token.Kind.TheVariants.{Identifier, Keyword, Integer, String, Operator, Newline, Comment as CommentToken, Kept}
use Rattle.bz_token.specs.declared.cutter.scan.LineKind.{LineKind}
use Rattle.bz_token.specs.declared.cutter.scan.LineKind.TheVariants.{Blank, CommentLine, Statement}
use Rattle.bz_token.specs.declared.cutter.scan.CutState.{CutState}
use Rattle.bz_token.specs.declared.cutter.scan.CutState.TheVariants.{Plain, Ended, BrokenOff, Backslash, BackslashReturn, Comment, Opened, OpenedTwice, Short, ShortEscape, ShortEscapeReturn, Long, LongQuote, LongTwoQuotes, LongEscape}
use Rattle.bz_token.specs.declared.cutter.scan.Scan.{Scan}
use Rattle.bz_token.specs.private.CutSteps.{is_ended, is_broken, line_at, at, next, start, run}
use Rattle.bz_token.specs.Lexical.{is_text}
use Rattle.bz_token.specs.Ends.{is_comment_kind}
use Rattle.bz_token.specs.Brackets.{is_inside, is_line, fits, open_after_token}
use Rattle.bz_token.specs.LogicalLines.{Line, lines}
use Rattle.bz_token.specs.Places.{Placed}
use Rattle.bz_token.specs.FreshStart.{ends_in_line, AreLinesOf}
use Rattle.bz_token.specs.Reading.{is_gap, Piece, IsPiece, IsReading, open_after, bytes_of, tokens_of, AreTokensOf}
use Rattle.bz_token.proofs.Classes.{empty_no_text}
use Rattle.bz_token.proofs.CutSeen.{seen_lines}
use Rattle.bz_token.proofs.CutLines.{lines_seen, lines_are}
use Rattle.bz_token.proofs.CutStrings.{seen_step}
use Rattle.bz_token.proofs.Joins.{line_text, join_reading}
use Rattle.bz_token.proofs.Progress.{reading_bytes, bytes_of-push}
use Rattle.bz_token.specs.TokenLines.{is_newline_piece, is_comment_piece, kind_of, line_of, lines_from, lines_of}
use Rattle.bz_token.proofs.Quiet.{quiet_end, seen_quiet}
use Rattle.bz_token.proofs.Stands.{Stands, stands_plain, stands_final, stands_first, kind_with, gap_after, token_after}
use Rattle.bz_token.specs.Common.{is_empty}

-- the kind of a line with one token more
kinds : (a b : Bool) (kind : Kind) → (a ≡ true → b ≡ true) → (if a && (is_line kind && true) then Blank else (if b && ((is_line kind || is_comment_kind kind) && true) then CommentLine else Statement)) ≡ kind_with (if a then Blank else (if b then CommentLine else Statement)) kind
kinds true true Identifier h = refl
kinds true true Keyword h = refl
kinds true true Integer h = refl
kinds true true String h = refl
kinds true true Operator h = refl
kinds true true Newline h = refl
kinds true true CommentToken h = refl
kinds true true Kept h = refl
kinds true false kind h = absurd (false≢true (h refl))
kinds false true Identifier h = refl
kinds false true Keyword h = refl
kinds false true Integer h = refl
kinds false true String h = refl
kinds false true Operator h = refl
kinds false true Newline h = refl
kinds false true CommentToken h = refl
kinds false true Kept h = refl
kinds false false Identifier h = refl
kinds false false Keyword h = refl
kinds false false Integer h = refl
kinds false false String h = refl
kinds false false Operator h = refl
kinds false false Newline h = refl
kinds false false CommentToken h = refl
kinds false false Kept h = refl

newlines_commented : (line : List Piece) → list_all is_newline_piece line ≡ true → list_all is_comment_piece line ≡ true
newlines_commented [] h = refl
newlines_commented (p ∷ ps) h =
    let parts = and_parts (is_line p.kind) (list_all is_newline_piece ps) h in
    let first = parts.0 in
    rw first (newlines_commented ps parts.1)

kind_snoc : (line : List Piece) (p : Piece) → kind_of (line ++ p ∷ []) ≡ kind_with (kind_of line) p.kind
kind_snoc line p =
    (λ i. if list_all-append is_newline_piece line (p ∷ []) i then Blank else (if list_all-append is_comment_piece line (p ∷ []) i then CommentLine else Statement))
    ∙ kinds (list_all is_newline_piece line) (list_all is_comment_piece line) p.kind (newlines_commented line)

pub some_open : (opened : List ℕ) → is_inside opened ≡ true → 0 < length opened
some_open [] h = absurd (false≢true h)
some_open (a ∷ opened) h = omega arith

no_break : (i : CutState) → is_ended i ≡ false → is_broken i ≡ false
no_break Plain h = refl
no_break Ended h = refl
no_break BrokenOff h = absurd (false≢true (sym h))
no_break Backslash h = refl
no_break BackslashReturn h = refl
no_break Comment h = refl
no_break (Opened q) h = refl
no_break (OpenedTwice q) h = refl
no_break (Short q) h = refl
no_break (ShortEscape q) h = refl
no_break (ShortEscapeReturn q) h = refl
no_break (Long q) h = refl
no_break (LongQuote q) h = refl
no_break (LongTwoQuotes q) h = refl
no_break (LongEscape q) h = refl

-- the line that is left at the end
last_line : (s : Scan) (seen : List ℕ) (d : ℕ) (k : LineKind) → Stands s d k [] → is_ended s.inside ≡ false → seen_lines s seen [] ≡ line_at seen k false ∷ []
last_line s seen d k st none = λ i. line_at seen (stands_final s d k [] st i) (no_break s.inside none i) ∷ []

some_bytes : (xs : List ℕ) (line : Line) → is_empty xs ≡ false → (if is_empty xs then [] else line ∷ []) ≡ line ∷ []
some_bytes xs line h = rw h refl

-- after a line that has ended
line_ended : (s : Scan) (d : ℕ) (k : LineKind) (seen after : List ℕ) → s ≡ at Ended d k → seen_lines s seen after ≡ line_at seen k false ∷ lines_seen after
line_ended s d k seen [] h = ap (λ t. seen_lines t seen []) h
line_ended s d k seen (b ∷ bs) h = ap (λ t. seen_lines t seen (b ∷ bs)) h

-- over a newline outside brackets
newline_after : (depth : ℕ) (s : Scan) (opened : List ℕ) (k : LineKind) (after : List ℕ) → fits depth opened Newline (10 ∷ []) ≡ true → Stands s (length opened) k (10 ∷ after) → (opened ≡ []) × (next s 10 ≡ at Ended 0 k)
newline_after depth s [] k after fit st = (refl, stands_first s 0 k 10 after st refl)
newline_after depth s (a ∷ opened) k after fit st = absurd (false≢true fit)

line_kind : (kind : Kind) → is_line kind ≡ true → kind ≡ Newline
line_kind Newline h = refl
line_kind Identifier h = absurd (false≢true h)
line_kind Keyword h = absurd (false≢true h)
line_kind Integer h = absurd (false≢true h)
line_kind String h = absurd (false≢true h)
line_kind Operator h = absurd (false≢true h)
line_kind CommentToken h = absurd (false≢true h)
line_kind Kept h = absurd (false≢true h)

-- a text is not empty
front_some : (xs : List ℕ) (g text ys : List ℕ) (kind : Kind) → is_text kind text ≡ true → is_empty ((xs ++ (g ++ text)) ++ ys) ≡ false
front_some (x ∷ xs) g text ys kind is = refl
front_some [] (a ∷ g) text ys kind is = refl
front_some [] [] (t ∷ text) ys kind is = refl
front_some [] [] [] ys kind is = absurd (empty_no_text kind is)

start_stands : (after : List ℕ) → Stands start 0 Blank after
start_stands after = stands_plain start 0 Blank after refl

-- the newline joins the line that it ends
newline_joins : (s : Scan) (seen after : List ℕ) → is_ended s.inside ≡ false → seen_lines s seen (10 ∷ after) ≡ seen_lines (next s 10) (seen ++ 10 ∷ []) after
newline_joins s seen after none = seen_step s seen 10 after none

whole_line : (line : List Piece) (p : Piece) → p.kind ≡ Newline → p.text ≡ 10 ∷ [] → line_at ((bytes_of line ++ p.gap) ++ 10 ∷ []) (kind_of line) false ≡ line_of (line ++ p ∷ []) []
whole_line line p kind text =
    let bytes : (bytes_of line ++ p.gap) ++ 10 ∷ [] ≡ bytes_of (line ++ p ∷ []) ++ [] = append_assoc (bytes_of line) p.gap (10 ∷ []) ∙ ap (λ x. bytes_of line ++ (p.gap ++ x)) (sym text) ∙ sym (bytes_of-push line p) ∙ sym (append-nil (bytes_of (line ++ p ∷ []))) in
    let same : kind_of line ≡ kind_of (line ++ p ∷ []) = ap (kind_with (kind_of line)) (sym kind) ∙ sym (kind_snoc line p) in
    λ i. line_at (bytes i) (same i) false

-- what is known after a piece: its line has ended, or goes on
pub data Passed (s : Scan) (opened : List ℕ) (line : List Piece) (p : Piece) (bytes after : List ℕ) : Type 0 where
  ends_line : is_line p.kind ≡ true → open_after_token opened p.text ≡ [] → seen_lines s (bytes_of line) bytes ≡ line_of (line ++ p ∷ []) [] ∷ lines_seen after → Passed s opened line p bytes after
  stays : is_line p.kind ≡ false → (t : Scan) → Stands t (length (open_after_token opened p.text)) (kind_of (line ++ p ∷ [])) after → is_ended t.inside ≡ false → is_empty (bytes_of (line ++ p ∷ []) ++ after) ≡ false
      → seen_lines s (bytes_of line) bytes ≡ seen_lines t (bytes_of (line ++ p ∷ [])) after → Passed s opened line p bytes after

pub piece_passed : (depth : ℕ) (opened : List ℕ) (p : Piece) (bytes after : List ℕ) (s : Scan) (line : List Piece) → IsPiece depth opened p bytes after → Stands s (length opened) (kind_of line) bytes → is_ended s.inside ≡ false → Passed s opened line p bytes after
piece_passed depth opened p bytes after s line piece st none =
    let k = kind_of line in
    let d = length opened in
    let g = gap_after (is_inside opened) p.gap (p.text ++ after) s d k (some_open opened) piece.gap (subst (λ x. Stands s d k x) piece.bytes_are st) in
    let here = quiet_end p.gap s none g.quiet in
    let over : seen_lines s (bytes_of line) bytes ≡ seen_lines (run s p.gap) (bytes_of line ++ p.gap) (p.text ++ after) = ap (seen_lines s (bytes_of line)) piece.bytes_are ∙ seen_quiet p.gap (p.text ++ after) s (bytes_of line) none g.quiet in
    elim (cases_Bool (is_line p.kind)) [
      | inl end ↦
          let text : p.text ≡ 10 ∷ [] = line_text p.kind p.text end piece.token.whole in
          let kind : p.kind ≡ Newline = line_kind p.kind end in
          let fit = subst (λ t. fits depth opened Newline t ≡ true) text (subst (λ x. fits depth opened x p.text ≡ true) kind piece.fits) in
          let n = newline_after depth (run s p.gap) opened k after fit (subst (λ t. Stands (run s p.gap) d k (t ++ after)) text g.stands) in
          ends_line end (λ i. open_after_token (n.0 i) (text i))
          (over
          ∙ ap (λ t. seen_lines (run s p.gap) (bytes_of line ++ p.gap) (t ++ after)) text
          ∙ newline_joins (run s p.gap) (bytes_of line ++ p.gap) after here
          ∙ line_ended (next (run s p.gap) 10) 0 k ((bytes_of line ++ p.gap) ++ 10 ∷ []) after n.1
          ∙ ap (λ l. l ∷ lines_seen after) (whole_line line p kind text))
      | inr other ↦
          let t = token_after depth (run s p.gap) opened k p.kind p.text after piece.token piece.fits g.stands here other in
          stays other (run (run s p.gap) p.text)
          (subst (λ x. Stands (run (run s p.gap) p.text) (length (open_after_token opened p.text)) x after) (sym (kind_snoc line p)) t.stands)
          (quiet_end p.text (run s p.gap) here t.quiet)
          (ap (λ x. is_empty (x ++ after)) (bytes_of-push line p) ∙ front_some (bytes_of line) p.gap p.text after p.kind piece.token.whole)
          (over
          ∙ seen_quiet p.text after (run s p.gap) (bytes_of line ++ p.gap) here t.quiet
          ∙ ap (λ x. seen_lines (run (run s p.gap) p.text) x after) (append_assoc (bytes_of line) p.gap p.text ∙ sym (bytes_of-push line p)))
    ]

cut_here : (line : List Piece) (p : Piece) (ps : List Piece) (rest : List ℕ) → is_line p.kind ≡ true → lines_from line (p ∷ ps) rest ≡ line_of (line ++ p ∷ []) [] ∷ lines_from [] ps rest
cut_here line p ps rest h = rw (h, lines_from) refl

goes_on : (line : List Piece) (p : Piece) (ps : List Piece) (rest : List ℕ) → is_line p.kind ≡ false → lines_from line (p ∷ ps) rest ≡ lines_from (line ++ p ∷ []) ps rest
goes_on line p ps rest h = rw (h, lines_from) refl

piece_some : (depth : ℕ) (opened : List ℕ) (p : Piece) (bytes after : List ℕ) → IsPiece depth opened p bytes after → is_empty bytes ≡ false
piece_some depth opened p bytes after piece = ap is_empty piece.bytes_are ∙ ap is_empty (sym (append_assoc p.gap p.text after)) ∙ front_some [] p.gap p.text after p.kind piece.token.whole

seen_fresh : (bytes : List ℕ) → is_empty bytes ≡ false → lines_seen bytes ≡ seen_lines start [] bytes
seen_fresh [] h = absurd (false≢true (sym h))
seen_fresh (b ∷ bs) h = refl

-- at the beginning of a line
fresh_from : (depth : ℕ) (ps : List Piece) (rest bytes : List ℕ) → IsReading depth [] ps rest bytes → (is_empty bytes ≡ false → seen_lines start [] bytes ≡ lines_from [] ps rest) → lines_seen bytes ≡ lines_of ps rest
fresh_from depth (p ∷ ps) rest bytes r run = let some = piece_some depth [] p bytes r.0 r.1 in seen_fresh bytes some ∙ run some
fresh_from depth [] rest (b ∷ bs) r run = run refl
fresh_from depth [] rest [] r run = ap (λ x. lines_from [] [] x) r

-- where a line has begun
lines_run : (depth : ℕ) (opened : List ℕ) (ps : List Piece) (rest bytes : List ℕ) (s : Scan) (line : List Piece) → IsReading depth opened ps rest bytes → is_gap (is_inside (open_after opened ps)) rest ≡ true → Stands s (length opened) (kind_of line) bytes → is_ended s.inside ≡ false
    → is_empty (bytes_of line ++ bytes) ≡ false → seen_lines s (bytes_of line) bytes ≡ lines_from line ps rest
lines_run depth opened [] rest bytes s line r gap st none some =
    let g = gap_after (is_inside opened) rest [] s (length opened) (kind_of line) (some_open opened) gap (subst (λ x. Stands s (length opened) (kind_of line) x) (r ∙ sym (append-nil rest)) st) in
    ap (seen_lines s (bytes_of line)) (r ∙ sym (append-nil rest))
    ∙ seen_quiet rest [] s (bytes_of line) none g.quiet
    ∙ last_line (run s rest) (bytes_of line ++ rest) (length opened) (kind_of line) g.stands (quiet_end rest s none g.quiet)
    ∙ sym (some_bytes (bytes_of line ++ rest) (line_of line rest) (subst (λ x. is_empty (bytes_of line ++ x) ≡ false) r some))
lines_run depth opened (p ∷ ps) rest bytes s line r gap st none some =
    elim (piece_passed depth opened p bytes r.0 s line r.1 st none) [
      | ends_line end closed seen ↦
          let more = subst (λ o. IsReading depth o ps rest r.0) closed r.2 in
          seen
          ∙ ap (λ ls. line_of (line ++ p ∷ []) [] ∷ ls) (fresh_from depth ps rest r.0 more (λ begun. lines_run depth [] ps rest r.0 start [] more (subst (λ o. is_gap (is_inside (open_after o ps)) rest ≡ true) closed gap) (start_stands r.0) refl begun))
          ∙ sym (cut_here line p ps rest end)
      | stays other t st2 none2 some2 seen ↦
          seen
          ∙ lines_run depth (open_after_token opened p.text) ps rest r.0 t (line ++ p ∷ []) r.2 gap st2 none2 some2
          ∙ sym (goes_on line p ps rest other)
    ]

fresh_lines : (depth : ℕ) (ps : List Piece) (rest bytes : List ℕ) → IsReading depth [] ps rest bytes → is_gap (is_inside (open_after [] ps)) rest ≡ true → lines_seen bytes ≡ lines_of ps rest
fresh_lines depth ps rest bytes r gap = fresh_from depth ps rest bytes r (λ begun. lines_run depth [] ps rest bytes start [] r gap (start_stands bytes) refl begun)

-- what follows lines is cut as a text of its own, whatever it is
lines_front : (depth : ℕ) (opened : List ℕ) (p : Piece) (ps : List Piece) (rest bytes : List ℕ) (s : Scan) (line : List Piece) → IsReading depth opened (p ∷ ps) rest bytes → ends_in_line (p ∷ ps) ≡ true → Stands s (length opened) (kind_of line) bytes → is_ended s.inside ≡ false
    → seen_lines s (bytes_of line) bytes ≡ lines_from line (p ∷ ps) [] ++ lines_seen rest
lines_front depth opened p [] rest bytes s line r last st none =
    elim (piece_passed depth opened p bytes r.0 s line r.1 st none) [
      | ends_line end closed seen ↦ seen ∙ ap (λ x. line_of (line ++ p ∷ []) [] ∷ lines_seen x) r.2 ∙ ap (λ ls. ls ++ lines_seen rest) (sym (cut_here line p [] [] end))
      | stays other t st2 none2 some2 seen ↦ absurd (false≢true (sym other ∙ last))
    ]
lines_front depth opened p (q ∷ ps) rest bytes s line r last st none =
    elim (piece_passed depth opened p bytes r.0 s line r.1 st none) [
      | ends_line end closed seen ↦
          let more = subst (λ o. IsReading depth o (q ∷ ps) rest r.0) closed r.2 in
          seen
          ∙ ap (λ ls. line_of (line ++ p ∷ []) [] ∷ ls) (seen_fresh r.0 (piece_some depth [] q r.0 more.0 more.1) ∙ lines_front depth [] q ps rest r.0 start [] more last (start_stands r.0) refl)
          ∙ ap (λ ls. ls ++ lines_seen rest) (sym (cut_here line p (q ∷ ps) [] end))
      | stays other t st2 none2 some2 seen ↦
          seen
          ∙ lines_front depth (open_after_token opened p.text) q ps rest r.0 t (line ++ p ∷ []) r.2 last st2 none2
          ∙ ap (λ ls. ls ++ lines_seen rest) (sym (goes_on line p (q ∷ ps) [] other))
    ]

pub lines_before : (depth : ℕ) (ps : List Piece) (rest bytes : List ℕ) → IsReading depth [] ps rest bytes → ends_in_line ps ≡ true → lines bytes ≡ lines_of ps [] ++ lines rest
lines_before depth [] rest bytes r last = ap lines r
lines_before depth (p ∷ ps) rest bytes r last =
    lines_are bytes
    ∙ seen_fresh bytes (piece_some depth [] p bytes r.0 r.1)
    ∙ lines_front depth [] p ps rest bytes start [] r last (start_stands bytes) refl
    ∙ ap (λ ls. lines_of (p ∷ ps) [] ++ ls) (sym (lines_are rest))

pub lines_are_lines : (depth : ℕ) (ps : List Piece) (rest bytes : List ℕ) → IsReading depth [] ps rest bytes → is_gap (is_inside (open_after [] ps)) rest ≡ true → lines bytes ≡ lines_of ps rest
lines_are_lines depth ps rest bytes r gap = lines_are bytes ∙ fresh_lines depth ps rest bytes r gap

pub tokens_in_lines : (first depth : ℕ) (bytes : List ℕ) (ts : List Placed) → AreTokensOf first depth bytes ts → (ps : List Piece) × (rest : List ℕ) × (bytes ≡ bytes_of ps ++ rest) × (ts ≡ tokens_of first [] [] ps) × (lines bytes ≡ lines_of ps rest)
tokens_in_lines first depth bytes ts a = (a.0, a.1, reading_bytes depth [] a.0 a.1 bytes a.2, a.5, lines_are_lines depth a.0 a.1 bytes a.2 (ap (λ o. is_gap (is_inside o) a.1) a.4 ∙ a.3))

-- lines and what follows them
pub lines_join : (first depth : ℕ) (a b : List ℕ) (ts : List Placed) → AreLinesOf first depth a ts → lines (a ++ b) ≡ lines a ++ lines b
lines_join first depth a b ts x =
    let whole : IsReading depth [] x.0 b (a ++ b) = subst (λ y. IsReading depth [] y b (a ++ b)) (append-nil x.0) (join_reading depth [] x.0 [] a b b x.1 x.3 refl) in
    lines_before depth x.0 b (a ++ b) whole x.3 ∙ ap (λ ls. ls ++ lines b) (sym (lines_are_lines depth x.0 [] a x.1 refl))

-- lines of pieces, one after another
pub lines_of_parts : (line p : List Piece) (qs : List Piece) (rest : List ℕ) → ends_in_line p ≡ true → (p ≡ [] → line ≡ []) → lines_from line (p ++ qs) rest ≡ lines_from line p [] ++ lines_from [] qs rest
lines_of_parts line [] qs rest last none = ap (λ l. lines_from l qs rest) (none refl) ∙ nothing (none refl)
  where
    nothing : line ≡ [] → lines_from [] qs rest ≡ lines_from line [] [] ++ lines_from [] qs rest
    nothing e = sym (ap (λ l. lines_from l [] [] ++ lines_from [] qs rest) e)
lines_of_parts line (p ∷ ps) qs rest last none = elim (cases_Bool (is_line p.kind)) [
  | inl end ↦
      cut_here line p (ps ++ qs) rest end
      ∙ ap (λ ls. line_of (line ++ p ∷ []) [] ∷ ls) (lines_of_parts [] ps qs rest (later ps last) (λ e. refl))
      ∙ ap (λ ls. ls ++ lines_from [] qs rest) (sym (cut_here line p ps [] end))
  | inr other ↦
      goes_on line p (ps ++ qs) rest other
      ∙ lines_of_parts (line ++ p ∷ []) ps qs rest (later ps last) (λ e. absurd (open_end ps e other last))
      ∙ ap (λ ls. ls ++ lines_from [] qs rest) (sym (goes_on line p ps [] other))
]
  where
    later : (ps : List Piece) → ends_in_line (p ∷ ps) ≡ true → ends_in_line ps ≡ true
    later [] h = refl
    later (q ∷ qs) h = h

    open_end : (ps : List Piece) → ps ≡ [] → is_line p.kind ≡ false → ends_in_line (p ∷ ps) ≡ true → ⊥
    open_end [] e other h = false≢true (sym other ∙ h)
    open_end (q ∷ qs) e other h = cc

pub lines_of_join : (ps qs : List Piece) (rest : List ℕ) → ends_in_line ps ≡ true → lines_of (ps ++ qs) rest ≡ lines_of ps [] ++ lines_of qs rest
lines_of_join ps qs rest last = lines_of_parts [] ps qs rest last (λ e. refl)

-- pieces with a newline after them alone
one_line_from : (line ps : List Piece) (p : Piece) → list_any is_newline_piece ps ≡ false → is_line p.kind ≡ true → lines_from line (ps ++ p ∷ []) [] ≡ line_of (line ++ (ps ++ p ∷ [])) [] ∷ []
one_line_from line [] p none end = cut_here line p [] [] end
one_line_from line (q ∷ qs) p none end =
    let parts = or_parts (is_line q.kind) (list_any is_newline_piece qs) none in
    goes_on line q (qs ++ p ∷ []) [] parts.0
    ∙ one_line_from (line ++ q ∷ []) qs p parts.1 end
    ∙ ap (λ l. line_of l [] ∷ []) (append_assoc line (q ∷ []) (qs ++ p ∷ []))

pub one_line : (ps : List Piece) (p : Piece) → list_any is_newline_piece ps ≡ false → is_line p.kind ≡ true → lines_of (ps ++ p ∷ []) [] ≡ line_of (ps ++ p ∷ []) [] ∷ []
one_line ps p none end = one_line_from [] ps p none end
