-- The first fault of a chunk alone is that of the chunk and what follows it.
use Rattle.std.proofs.Common.{◌≡◌, ℕ, ◌<◌, ◌==◌, ◌&&◌, ◌||◌, List, [], ◌∷◌, ◌++◌, length, Bool, true, false, not, refl, sym, ap, ap₂, subst, ◌∙◌, arith, inl, inr, append_assoc, append-nil}
use Rattle.std.specs.Prelude.{Option, Some, None, is_some}
use Rattle.std.specs.Char.{is_ascii_digit}
use Rattle.std.proofs.lemmas.Bool.{cases_Bool, false≢true, or_parts, or_right}
use Rattle.bz_token.proofs.Units.{begins_is}
use Rattle.bz_token.specs.declared.fault.LexFault.{LexFault}
use Rattle.bz_token.specs.declared.scan_string.Opening.{Opening}
use Rattle.bz_token.specs.declared.token.Kind.TheVariants.{String}
use Rattle.bz_token.specs.declared.cutter.scan.Scan.{Scan}
use Rattle.bz_token.specs.declared.cutter.scan.LineKind.{LineKind}
use Rattle.bz_token.specs.declared.cutter.scan.LineKind.TheVariants.{Blank}
use Rattle.bz_token.specs.declared.cutter.scan.CutState.TheVariants.{Plain}
use Rattle.bz_token.specs.private.CutSteps.{is_ended, outside, next, start, run}
use Rattle.bz_token.specs.Cuts.{EndsBefore, ends_in_newline}
use Rattle.bz_token.specs.Places.{Placed, line_at, column_at}
use Rattle.bz_token.specs.Brackets.{is_inside, is_line, is_opening_bracket, is_closing_bracket, closes_innermost, fits, open_after_token, open_tokens}
use Rattle.bz_token.specs.Reading.{begins_gap, Piece, IsReading, open_after, bytes_of, tokens_of}
use Rattle.bz_token.specs.Faults.{fault_at, IsFirstFault}
use Rattle.bz_token.specs.private.BadPlaces.{IsOpenText, IsBadNumber, IsBadCharacter}
use Rattle.bz_token.specs.UpToFault.{IsReadAs}
use Rattle.bz_token.specs.FreshStart.{ends_in_line}
use Rattle.bz_token.proofs.Classes.{can_start, digit_class}
use Rattle.bz_token.proofs.CutMachine.{next_inside, run_append}
use Rattle.bz_token.proofs.Ends.{string_opens}
use Rattle.bz_token.proofs.Openings.{no_opening, none_some}
use Rattle.bz_token.proofs.BadPlaces.{Sort, open_text, bad_number, bad_backslash, bad_bracket, too_deep, bad_character, IsBadAt, bad_says}
use Rattle.bz_token.proofs.SomeReading.{bad_here}
use Rattle.bz_token.proofs.Unique.{IsStuck, place_stuck}
use Rattle.bz_token.proofs.Progress.{reading_bytes, open_lengths}
use Rattle.bz_token.proofs.Joins.{token_more, any_right, line_text}
use Rattle.bz_token.proofs.Agree.{Ready, ready_plain, ready_first, gap_run, token_run, reading_run, stands}
use Rattle.bz_token.proofs.FreshChunks.{chunk_ends_line}
use Rattle.bz_token.proofs.FaultFronts.{has_newline, begins_more, continues_more, opening_same_more, none_more}
use Rattle.bz_token.proofs.OpenStrings.{string_within}
use Rattle.bz_token.specs.Common.{begins, is_newline}
use Rattle.bz_token.specs.Strings.{opening, is_string}
use Rattle.bz_token.specs.Pieces.{is_blank, is_white}
use Rattle.bz_token.specs.private.Gaps.{continues}

-- a logical line ends with a newline
ended_newline : (b : ℕ) (bs : List ℕ) (s : Scan) → is_ended (run s (b ∷ bs)).inside ≡ true → ends_in_newline (b ∷ bs) ≡ true
ended_newline b [] s ended = elim (cases_Bool (b == 10)) [
  | inl hit ↦ hit
  | inr miss ↦ absurd (false≢true (sym (next_inside s.inside s.depth s.kind b miss) ∙ ended))
]
ended_newline b (c ∷ cs) s ended = ended_newline c cs (next s b) ended

newline_there : (xs : List ℕ) → ends_in_newline xs ≡ true → has_newline xs ≡ true
newline_there [] h = absurd (false≢true h)
newline_there (b ∷ []) h = rw h refl
newline_there (b ∷ c ∷ cs) h = or_right (b == 10) (has_newline (c ∷ cs)) (newline_there (c ∷ cs) h)

-- the end of a text that a newline ends holds the newline
pub last_newline : (xs : List ℕ) (y : ℕ) (ys : List ℕ) → ends_in_newline (xs ++ y ∷ ys) ≡ true → has_newline (y ∷ ys) ≡ true
last_newline [] y ys h = newline_there (y ∷ ys) h
last_newline (x ∷ []) y ys h = newline_there (y ∷ ys) h
last_newline (x ∷ z ∷ xs) y ys h = last_newline (z ∷ xs) y ys h

-- what was read stays read where more follows a newline
reading_more : (depth : ℕ) (opened : List ℕ) (ps : List Piece) (rest bytes r : List ℕ) → IsReading depth opened ps rest bytes → has_newline rest ≡ true → IsReading depth opened ps (rest ++ r) (bytes ++ r)
reading_more depth opened [] rest bytes r reading h = ap (λ x. x ++ r) reading
reading_more depth opened (p ∷ ps) rest bytes r reading h =
    let after = reading.0 in
    let piece = reading.1 in
    let held : has_newline after ≡ true = ap has_newline (reading_bytes depth (open_after_token opened p.text) ps rest after reading.2) ∙ any_right is_newline (bytes_of ps) rest h in (
      after ++ r,
      record {
        bytes_are = ap (λ x. x ++ r) piece.bytes_are ∙ simp append_assoc;
        gap = piece.gap;
        token = token_more p.kind p.text after r piece.token held;
        fits = piece.fits;
      },
      reading_more depth (open_after_token opened p.text) ps rest after r reading.2 h,
    )

-- the newline after a fault's place
place_newline : (first depth : ℕ) (c : List ℕ) (f : LexFault) (is : IsFirstFault first depth c f) → ends_in_newline c ≡ true → (b : ℕ) (bs : List ℕ) → is.place ≡ b ∷ bs → has_newline is.place ≡ true
place_newline first depth c f is ends b bs same =
    let whole : c ≡ (bytes_of is.pieces ++ is.gap) ++ is.place = reading_bytes depth [] is.pieces (is.gap ++ is.place) c is.reading ∙ sym (append_assoc (bytes_of is.pieces) is.gap is.place) in
    ap has_newline same ∙ last_newline (bytes_of is.pieces ++ is.gap) b bs (ap ends_in_newline (sym (whole ∙ ap (λ p. (bytes_of is.pieces ++ is.gap) ++ p) same)) ∙ ends)

none_of : (o : Option Opening) → is_some o ≡ false → o ≡ None
none_of None h = refl
none_of (Some o) h = absurd (false≢true (sym h))

some_of : (o : Option Opening) → is_some o ≡ true → (x : Opening) × (o ≡ Some x)
some_of None h = absurd (false≢true h)
some_of (Some o) h = (o, refl)

-- where no string opens, none closes later
no_longer : (place : List ℕ) → has_newline place ≡ true → opening place ≡ None → (more : List ℕ) → 0 < length more → is_string (place ++ more) ≡ true → ⊥
no_longer place h unquoted more some string =
    let found = string_opens (place ++ more) string in
    none_some found.0 (sym unquoted ∙ sym (opening_same_more place more h) ∙ found.1)

number_more : (place r : List ℕ) → has_newline place ≡ true → IsBadNumber place → IsBadNumber (place ++ r)
number_more place r h bad = record {
  digit = begins_more is_ascii_digit place r h ∙ bad.digit;
  none = none_more place r h bad.none (no_longer place h (unquoted place bad.digit));
}
  where
    unquoted : (place : List ℕ) → begins is_ascii_digit place ≡ true → opening place ≡ None
    unquoted [] d = absurd (false≢true d)
    unquoted (b ∷ bs) d = no_opening b bs (ap (can_start String) (digit_class b d))

character_more : (place r : List ℕ) → has_newline place ≡ true → IsBadCharacter place → IsBadCharacter (place ++ r)
character_more place r h bad = record {
  some = longer place bad.some;
  unquoted = ap is_some (opening_same_more place r h) ∙ bad.unquoted;
  no_digit = begins_more is_ascii_digit place r h ∙ bad.no_digit;
  no_backslash = begins_more (λ b. b == 92) place r h ∙ bad.no_backslash;
  none = none_more place r h bad.none (no_longer place h (none_of (opening place) bad.unquoted));
}
  where
    longer : (place : List ℕ) → 0 < length place → 0 < length (place ++ r)
    longer [] h = absurd (omega arith)
    longer (b ∷ bs) h = omega arith

some_open : (opened : List ℕ) → is_inside opened ≡ true → 0 < length opened
some_open [] h = absurd (false≢true h)
some_open (a ∷ opened) h = omega arith

-- the cutter after what was read
ready_after : (depth : ℕ) (opened : List ℕ) (ps : List Piece) (rest bytes : List ℕ) (s : Scan) → IsReading depth opened ps rest bytes → Ready s (length opened) bytes → Ready (run s (bytes_of ps)) (length (open_after opened ps)) rest
ready_after depth opened [] rest bytes s r ready = subst (λ x. Ready s (length opened) x) r ready
ready_after depth opened (p ∷ ps) rest bytes s r ready =
    let after = r.0 in
    let piece = r.1 in
    let g = gap_run (is_inside opened) p.gap (p.text ++ after) s (length opened) (some_open opened) piece.gap (subst (λ x. Ready s (length opened) x) piece.bytes_are ready) in
    let t = token_run depth (run s p.gap) opened p.kind p.text after piece.token piece.fits g.ready in
    let all : run s (p.gap ++ (p.text ++ bytes_of ps)) ≡ run (run (run s p.gap) p.text) (bytes_of ps) = run_append p.gap (p.text ++ bytes_of ps) s ∙ run_append p.text (bytes_of ps) (run s p.gap) in
    subst (λ x. Ready x (length (open_after (open_after_token opened p.text) ps)) rest) (sym all) (ready_after depth (open_after_token opened p.text) ps rest after (run (run s p.gap) p.text) r.2 t.ready)

-- a string that no quotes close in a chunk is not closed by what follows
text_more : (first depth : ℕ) (c r : List ℕ) (fault : LexFault) (f : IsFirstFault first depth c fault) → IsOpenText f.place → is_ended (run start c).inside ≡ true → has_newline f.place ≡ true → IsOpenText (f.place ++ r)
text_more first depth c r fault f bad ended h =
    let opened = open_after [] f.pieces in
    let place = f.place in
    let before = run (run start (bytes_of f.pieces)) f.gap in
    let g = gap_run (is_inside opened) f.gap place (run start (bytes_of f.pieces)) (length opened) (some_open opened) f.is_gap
    (ready_after depth [] f.pieces (f.gap ++ place) c start f.reading (ready_plain start 0 c (stands Plain 0 Blank))) in
    let whole : run start c ≡ run before place = ap (run start) (reading_bytes depth [] f.pieces (f.gap ++ place) c f.reading) ∙ run_append (bytes_of f.pieces) (f.gap ++ place) start ∙ run_append f.gap place (run start (bytes_of f.pieces)) in
    let o = some_of (opening place) bad.quoted in
    record {
      quoted = ap is_some (opening_same_more place r h) ∙ bad.quoted;
      none = none_more place r h bad.none (later o.0 o.1 before (length opened) (at_first place before (length opened) (is_inside opened) g.ready f.after_gap) (ap (λ t. is_ended t.inside) (sym whole) ∙ ended));
    }
  where
    at_first : (place : List ℕ) (s : Scan) (d : ℕ) (inside : Bool) → Ready s d place → begins_gap inside place ≡ false → (b : ℕ) (bs : List ℕ) → place ≡ b ∷ bs → (k : LineKind) × (next s b ≡ outside d k b)
    at_first place s d inside ready none b bs e =
        let white = (or_parts (is_white inside b) (continues (b ∷ bs)) (sym (begins_is inside (b ∷ bs)) ∙ subst (λ x. begins_gap inside x ≡ false) e none)).0 in
        let visible = (or_parts (is_blank b) (inside && b == 10) white).0 in
        ready_first s d b bs (subst (λ x. Ready s d x) e ready) visible

    later : (o : Opening) → opening f.place ≡ Some o → (s : Scan) (d : ℕ) → ((b : ℕ) (bs : List ℕ) → f.place ≡ b ∷ bs → (k : LineKind) × (next s b ≡ outside d k b)) → is_ended (run s f.place).inside ≡ true → (more : List ℕ) → 0 < length more → is_string (f.place ++ more) ≡ true → ⊥
    later o opens s d step ended [] some string = omega arith
    later o opens s d step ended (m ∷ more) some string = string_within f.place o m more s d opens (opening_same_more f.place (m ∷ more) h ∙ opens) string step ended

-- after lines no bracket is open
lines_close : (depth : ℕ) (opened : List ℕ) (p : Piece) (ps : List Piece) (rest bytes : List ℕ) → IsReading depth opened (p ∷ ps) rest bytes → ends_in_line (p ∷ ps) ≡ true → open_after opened (p ∷ ps) ≡ []
lines_close depth opened p [] rest bytes r line = ap (open_after_token opened) text ∙ closed opened (subst (λ t. fits depth opened p.kind t ≡ true) text r.1.fits)
  where
    text : p.text ≡ 10 ∷ []
    text = line_text p.kind p.text line r.1.token.whole

    closed : (opened : List ℕ) → fits depth opened p.kind (10 ∷ []) ≡ true → open_after_token opened (10 ∷ []) ≡ []
    closed [] fit = refl
    closed (a ∷ opened) fit = absurd (false≢true (sym (none line) ∙ fit))
      where
        none : is_line p.kind ≡ true → fits depth (a ∷ opened) p.kind (10 ∷ []) ≡ false
        none line = rw line refl
lines_close depth opened p (q ∷ ps) rest bytes r line = lines_close depth (open_after_token opened p.text) q ps rest r.0 r.2 line

-- at the end of a logical line no bracket is left open after tokens
none_unclosed : (first depth : ℕ) (c : List ℕ) (f : LexFault) (is : IsFirstFault first depth c f) → is.place ≡ [] → is_ended (run start c).inside ≡ true → ⊥
none_unclosed first depth c f is done ended =
    let reading : IsReading depth [] is.pieces is.gap c = subst (λ x. IsReading depth [] is.pieces x c) (ap (λ p. is.gap ++ p) done ∙ append-nil is.gap) is.reading in
    let end = reading_run depth [] is.pieces is.gap c start reading is.is_gap (ready_plain start 0 c (stands Plain 0 Blank)) ended in
    let opens = open_tokens [] (tokens_of first [] [] is.pieces) in
    let some = some_open opens (line_at first (bytes_of is.pieces ++ is.gap)) (column_at (bytes_of is.pieces ++ is.gap)) (ap (λ p. fault_at p opens (line_at first (bytes_of is.pieces ++ is.gap)) (column_at (bytes_of is.pieces ++ is.gap))) (sym done) ∙ is.is) in
    omega (arith, open_lengths first [] [] [] [] is.pieces refl, some, ap length (closed is.pieces is.gap reading end.1))
  where
    closed : (ps : List Piece) (gap : List ℕ) → IsReading depth [] ps gap c → ends_in_line ps ≡ true → open_after [] ps ≡ []
    closed [] gap r line = refl
    closed (p ∷ ps) gap r line = lines_close depth [] p ps gap c r line

    some_open : (opens : List Placed) (line col : ℕ) → fault_at [] opens line col ≡ Some f → 0 < length opens
    some_open [] line col e = absurd cc
    some_open (t ∷ opens) line col e = omega arith

-- a bad place at which a text goes on is bad in the same way
bad_more : (first depth : ℕ) (c r : List ℕ) (f : LexFault) (is : IsFirstFault first depth c f) (sort : Sort) → is_ended (run start c).inside ≡ true → has_newline is.place ≡ true
    → IsBadAt depth (open_after [] is.pieces) is.place sort → IsBadAt depth (open_after [] is.pieces) (is.place ++ r) sort
bad_more first depth c r f is open_text ended h bad = text_more first depth c r f is bad ended h
bad_more first depth c r f is bad_number ended h bad = number_more is.place r h bad
bad_more first depth c r f is bad_backslash ended h bad = begins_more (λ b. b == 92) is.place r h ∙ bad
bad_more first depth c r f is bad_bracket ended h bad = begins_more (λ b. is_closing_bracket b && not (closes_innermost (open_after [] is.pieces) b)) is.place r h ∙ bad
bad_more first depth c r f is too_deep ended h bad = record { bracket = begins_more is_opening_bracket is.place r h ∙ bad.bracket; deep = bad.deep }
bad_more first depth c r f is bad_character ended h bad = character_more is.place r h bad

-- a bad place before a newline stays the first, after the same pieces, whatever follows
place_more : (first depth : ℕ) (c r : List ℕ) (f : LexFault) (is : IsFirstFault first depth c f) (sort : Sort) → is_ended (run start c).inside ≡ true → has_newline is.place ≡ true
    → IsBadAt depth (open_after [] is.pieces) is.place sort → (more : IsFirstFault first depth (c ++ r) f) × (more.pieces ≡ is.pieces)
place_more first depth c r f is sort ended h bad =
    let opened = open_after [] is.pieces in
    let inside = is_inside opened in
    let opens = open_tokens [] (tokens_of first [] [] is.pieces) in
    let line = line_at first (bytes_of is.pieces ++ is.gap) in
    let col = column_at (bytes_of is.pieces ++ is.gap) in
    let after : begins_gap inside (is.place ++ r) ≡ false = begins_is inside (is.place ++ r) ∙ ap₂ (λ x y. x || y) (begins_more (is_white inside) is.place r h) (continues_more is.place r h) ∙ sym (begins_is inside is.place) ∙ is.after_gap in
    let says = bad_says depth opened (is.place ++ r) sort (bad_more first depth c r f is sort ended h bad) in (
      record {
        pieces = is.pieces;
        gap = is.gap;
        place = is.place ++ r;
        reading = subst (λ x. IsReading depth [] is.pieces x (c ++ r)) (append_assoc is.gap is.place r) (reading_more depth [] is.pieces (is.gap ++ is.place) c r is.reading (any_right is_newline is.gap is.place h));
        stuck = place_stuck depth opened is.gap (is.place ++ r) is.is_gap after says.never;
        is_gap = is.is_gap;
        after_gap = after;
        is = says.told_is opens line col ∙ sym ((bad_says depth opened is.place sort bad).told_is opens line col) ∙ is.is;
      },
      refl,
    )

-- the first fault of logical lines is that of a text that begins with them, after the same pieces
fault_at_front : (first depth : ℕ) (c r : List ℕ) (f : LexFault) → is_ended (run start c).inside ≡ true → ends_in_newline c ≡ true → (is : IsFirstFault first depth c f) → (more : IsFirstFault first depth (c ++ r) f) × (more.pieces ≡ is.pieces)
fault_at_front first depth c r f ended ends is = by_place is.place refl
  where
    by_place : (place : List ℕ) → is.place ≡ place → (more : IsFirstFault first depth (c ++ r) f) × (more.pieces ≡ is.pieces)
    by_place [] same = absurd (none_unclosed first depth c f is same ended)
    by_place (b ∷ bs) same =
        let opened = open_after [] is.pieces in
        let bad = bad_here depth opened is.gap b bs is.is_gap (ap (begins_gap (is_inside opened)) (sym same) ∙ is.after_gap) (subst (λ p. IsStuck depth opened (is.gap ++ p)) same is.stuck) in
        place_more first depth c r f is bad.0 ended (place_newline first depth c f is ends b bs same) (subst (λ p. IsBadAt depth opened p bad.0) (sym same) bad.1)

-- what a chunk is read as that has a fault is what the chunk and what follows it are read as
pub chunk_read : (first depth : ℕ) (c rest : List ℕ) (us : List Placed) (f : LexFault) → EndsBefore c rest → 0 < length c → IsReadAs first depth c us (Some f) → IsReadAs first depth (c ++ rest) us (Some f)
chunk_read first depth c [] us f cut some r = subst (λ x. IsReadAs first depth x us (Some f)) (sym (append-nil c)) r
chunk_read first depth [] (b ∷ rest) us f cut some r = absurd (omega arith)
chunk_read first depth (x ∷ xs) (b ∷ rest) us f cut some r =
    let ended = chunk_ends_line (x ∷ xs) b rest cut some in
    let more = fault_at_front first depth (x ∷ xs) (b ∷ rest) f ended (ended_newline x xs start ended) r.0 in
    (more.0, r.1 ∙ ap (tokens_of first [] []) (sym more.1))

-- a chunk that something follows ends with a newline
pub chunk_newline : (c : List ℕ) (b : ℕ) (rest : List ℕ) → EndsBefore c (b ∷ rest) → 0 < length c → ends_in_newline c ≡ true
chunk_newline [] b rest cut some = absurd (omega arith)
chunk_newline (x ∷ xs) b rest cut some = ended_newline x xs start (chunk_ends_line (x ∷ xs) b rest cut some)
