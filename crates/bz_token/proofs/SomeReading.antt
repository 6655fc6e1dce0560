-- Every text is read in one way: as tokens up to its first fault, if it has one.
use Rattle.std.proofs.Common.{◌≡◌, ℕ, zero, suc, ◌≤◌, ◌&&◌, ◌⊎◌, List, [], ◌∷◌, ◌++◌, length, take, drop, Bool, true, false, not, refl, sym, ap, subst, ◌∙◌, arith, inl, inr, length-append, length-drop, append-nil, take-append-drop}
use Rattle.std.specs.Prelude.{Option, Some, None, nat_lt}
use Rattle.std.proofs.lemmas.Bool.{cases_Bool, or_cases, false≢true}
use Rattle.std.proofs.lemmas.Bool.Decides.{nat_tests}
use Rattle.bz_token.proofs.Units.{gap_step, begins_is}
use Rattle.bz_token.specs.declared.fault.LexFault.{LexFault}
use Rattle.bz_token.specs.declared.fault.LexFault.TheVariants as faults
use Rattle.bz_token.specs.declared.scan_token.Scanned.{Scanned}
use Rattle.bz_token.specs.declared.scan_token.Bad.{Bad}
use Rattle.bz_token.specs.declared.scan_token.Bad.TheVariants as bads
use Rattle.bz_token.specs.Places.{Placed, line_at, column_at}
use Rattle.bz_token.specs.Brackets.{is_inside, is_opening_bracket, is_closing_bracket, bracket_fits, open_after_token, open_tokens}
use Rattle.bz_token.specs.Reading.{is_gap, begins_gap, Piece, IsReading, open_after, bytes_of, tokens_of}
use Rattle.bz_token.specs.Faults.{fault_at}
use Rattle.bz_token.specs.private.Scans.{IsScanned, IsBadPlace}
use Rattle.bz_token.specs.UpToFault.{IsReadAs}
use Rattle.bz_token.proofs.Classes.{same_bytes}
use Rattle.bz_token.proofs.Fitting.{token_fits}
use Rattle.bz_token.proofs.Progress.{open_lengths}
use Rattle.bz_token.proofs.BadPlaces.{Sort, open_text, bad_number, bad_backslash, bad_bracket, too_deep, bad_character, told, IsBadAt, bad_fault_at}
use Rattle.bz_token.proofs.Unique.{IsStuck, gap_stuck}
use Rattle.bz_token.proofs.SomeToken.{token_or_bad}
use Rattle.bz_token.specs.Pieces.{is_white}
use Rattle.bz_token.specs.private.Gaps.{continues}

-- a gap as long as it goes on
record GapAt (inside : Bool) (bytes : List ℕ) : Type 0 where
  pub gap : List ℕ
  pub after : List ℕ
  pub bytes_are : bytes ≡ gap ++ after
  pub is_gap : is_gap inside gap ≡ true
  pub after_gap : begins_gap inside after ≡ false

-- a continued line in front of a gap
two_bytes : (inside : Bool) (b : ℕ) (bs : List ℕ) (n : ℕ) → length bs ≤ n → ((ys : List ℕ) → length ys ≤ n → GapAt inside ys) → take 2 (b ∷ bs) ≡ 92 ∷ 10 ∷ [] → is_white inside b ≡ false → GapAt inside (b ∷ bs)
two_bytes inside b [] n fits again same other = absurd cc
two_bytes inside b (c ∷ cs) n fits again same other =
    let r = again cs (omega arith) in
    let first : b ≡ 92 = cc in
    let second : c ≡ 10 = cc in
    let more = r.is_gap in
    record { gap = b ∷ c ∷ r.gap; after = r.after; bytes_are = ap (λ x. b ∷ c ∷ x) r.bytes_are; is_gap = gap_step inside b (c ∷ r.gap) ∙ rw (other, first, second, more) refl; after_gap = r.after_gap }

three_bytes : (inside : Bool) (b : ℕ) (bs : List ℕ) (n : ℕ) → length bs ≤ n → ((ys : List ℕ) → length ys ≤ n → GapAt inside ys) → take 3 (b ∷ bs) ≡ 92 ∷ 13 ∷ 10 ∷ [] → is_white inside b ≡ false → GapAt inside (b ∷ bs)
three_bytes inside b [] n fits again same other = absurd cc
three_bytes inside b (c ∷ []) n fits again same other = absurd cc
three_bytes inside b (c ∷ d ∷ ds) n fits again same other =
    let r = again ds (omega arith) in
    let first : b ≡ 92 = cc in
    let second : c ≡ 13 = cc in
    let third : d ≡ 10 = cc in
    let more = r.is_gap in
    record { gap = b ∷ c ∷ d ∷ r.gap; after = r.after; bytes_are = ap (λ x. b ∷ c ∷ d ∷ x) r.bytes_are; is_gap = gap_step inside b (c ∷ d ∷ r.gap) ∙ rw (other, first, second, third, more) refl; after_gap = r.after_gap }

gap_at : (inside : Bool) (n : ℕ) (bytes : List ℕ) → length bytes ≤ n → GapAt inside bytes
gap_at inside n [] fits = record { gap = []; after = []; bytes_are = refl; is_gap = refl; after_gap = refl }
gap_at inside zero (b ∷ bs) fits = absurd (omega arith)
gap_at inside (suc n) (b ∷ bs) fits = elim (cases_Bool (is_white inside b)) [
  | inl white ↦
      let r = gap_at inside n bs (omega arith) in
      let more = r.is_gap in
      record { gap = b ∷ r.gap; after = r.after; bytes_are = ap (λ x. b ∷ x) r.bytes_are; is_gap = gap_step inside b r.gap ∙ rw (white, more) refl; after_gap = r.after_gap }
  | inr other ↦ elim (cases_Bool (continues (b ∷ bs))) [
    | inr none ↦ record { gap = []; after = b ∷ bs; bytes_are = refl; is_gap = refl; after_gap = begins_is inside (b ∷ bs) ∙ rw (other, none) refl }
    | inl on ↦ elim (or_cases _ _ on) [
      | inl two ↦ two_bytes inside b bs n (omega arith) (λ ys less. gap_at inside n ys less) (same_bytes (take 2 (b ∷ bs)) (92 ∷ 10 ∷ []) two) other
      | inr three ↦ three_bytes inside b bs n (omega arith) (λ ys less. gap_at inside n ys less) (same_bytes (take 3 (b ∷ bs)) (92 ∷ 13 ∷ 10 ∷ []) three) other
    ]
  ]
]

-- as many gaps and tokens as can be read, and what stands after them
record Stop (depth : ℕ) (opened bytes : List ℕ) : Type 0 where
  pub pieces : List Piece
  pub gap : List ℕ
  pub place : List ℕ
  pub reading : IsReading depth opened pieces (gap ++ place) bytes
  pub is_gap : is_gap (is_inside (open_after opened pieces)) gap ≡ true
  pub after_gap : begins_gap (is_inside (open_after opened pieces)) place ≡ false
  pub what : (place ≡ []) ⊎ ((sort : Sort) × IsBadAt depth (open_after opened pieces) place sort)

stop_here : (depth : ℕ) (opened bytes : List ℕ) (g : GapAt (is_inside opened) bytes) → (g.after ≡ []) ⊎ ((sort : Sort) × IsBadAt depth opened g.after sort) → Stop depth opened bytes
stop_here depth opened bytes g what = record { pieces = []; gap = g.gap; place = g.after; reading = g.bytes_are; is_gap = g.is_gap; after_gap = g.after_gap; what = what }

bad_place : (depth : ℕ) (opened place : List ℕ) (bad : Bad) → IsBadPlace place bad → (sort : Sort) × IsBadAt depth opened place sort
bad_place depth opened place bads.Character is = (bad_character, is)
bad_place depth opened place bads.Number is = (bad_number, is)
bad_place depth opened place bads.OpenText is = (open_text, is)
bad_place depth opened place bads.Backslash is = (bad_backslash, is)

-- a bracket that does not fit
misfit : (depth : ℕ) (opened : List ℕ) (b : ℕ) (bs : List ℕ) → bracket_fits depth opened b ≡ false → (sort : Sort) × IsBadAt depth opened (b ∷ bs) sort
misfit depth opened b bs none = elim (cases_Bool (is_opening_bracket b)) [
  | inl opens ↦ (too_deep, record { bracket = opens; deep = full (length opened) depth (rw opens at none) })
  | inr no_open ↦ elim (cases_Bool (is_closing_bracket b)) [
    | inl closes ↦ (bad_bracket, both _ _ closes (rw (no_open, closes) at none))
    | inr no_close ↦ absurd (false≢true (sym (rw (no_open, no_close) at none)))
  ]
]
  where
    full : (n m : ℕ) → nat_lt n m ≡ false → m ≤ n
    full n m h = grind (arith, nat_tests)

    both : (x y : Bool) → x ≡ true → y ≡ false → (x && not y) ≡ true
    both x y p q = rw (p, q) refl

-- a place where no piece stands is bad
pub bad_here : (depth : ℕ) (opened gap : List ℕ) (b : ℕ) (bs : List ℕ) → is_gap (is_inside opened) gap ≡ true → begins_gap (is_inside opened) (b ∷ bs) ≡ false → IsStuck depth opened (gap ++ b ∷ bs) → (sort : Sort) × IsBadAt depth opened (b ∷ bs) sort
bad_here depth opened gap b bs is none stuck = elim (token_or_bad b bs) [
  | inr bad ↦ bad_place depth opened (b ∷ bs) bad.0 bad.1
  | inl s ↦ elim (cases_Bool (bracket_fits depth opened b)) [
    | inr misfits ↦ misfit depth opened b bs misfits
    | inl fit ↦ absurd (stands s.0 s.1 fit)
  ]
]
  where
    stands : (s : Scanned) → IsScanned (b ∷ bs) s → bracket_fits depth opened b ≡ true → ⊥
    stands s found fit =
        let text = take s.len (b ∷ bs) in
        let after = drop s.len (b ∷ bs) in
        let split : b ∷ bs ≡ text ++ after = sym (take-append-drop s.len (b ∷ bs)) in
        let fitting = token_fits depth s.kind opened (b ∷ bs) text after s.len found.some found.within refl split found.token.whole none fit in
        stuck (record { gap = gap; kind = s.kind; text = text }) after (record { bytes_are = ap (λ x. gap ++ x) split; gap = is; token = found.token; fits = fitting.0 })

-- reading goes on after a token
stop_after : (depth n : ℕ) (opened bytes gap : List ℕ) (b : ℕ) (bs : List ℕ) (s : Scanned) → ((o ys : List ℕ) → length ys ≤ n → Stop depth o ys) → length bytes ≤ suc n → bytes ≡ gap ++ b ∷ bs → is_gap (is_inside opened) gap ≡ true → begins_gap (is_inside opened) (b ∷ bs) ≡ false
    → bracket_fits depth opened b ≡ true → IsScanned (b ∷ bs) s → Stop depth opened bytes
stop_after depth n opened bytes gap b bs s again fits same is none fit found =
    let text = take s.len (b ∷ bs) in
    let after = drop s.len (b ∷ bs) in
    let split : b ∷ bs ≡ text ++ after = sym (take-append-drop s.len (b ∷ bs)) in
    let fitting = token_fits depth s.kind opened (b ∷ bs) text after s.len found.some found.within refl split found.token.whole none fit in
    let more = again (open_after_token opened text) after (omega (arith, ap length same, length-append gap (b ∷ bs), length-drop s.len (b ∷ bs), found.some, found.within)) in
    record {
      pieces = record { gap = gap; kind = s.kind; text = text } ∷ more.pieces;
      gap = more.gap;
      place = more.place;
      reading = (after, record { bytes_are = same ∙ ap (λ x. gap ++ x) split; gap = is; token = found.token; fits = fitting.0 }, more.reading);
      is_gap = more.is_gap;
      after_gap = more.after_gap;
      what = more.what;
    }

stop_at : (depth n : ℕ) (opened bytes gap after : List ℕ) → ((o ys : List ℕ) → length ys ≤ n → Stop depth o ys) → length bytes ≤ suc n → bytes ≡ gap ++ after → is_gap (is_inside opened) gap ≡ true → begins_gap (is_inside opened) after ≡ false → Stop depth opened bytes
stop_at depth n opened bytes gap [] again fits same is none = stop_here depth opened bytes (record { gap = gap; after = []; bytes_are = same; is_gap = is; after_gap = none }) (inl refl)
stop_at depth n opened bytes gap (b ∷ bs) again fits same is none = elim (token_or_bad b bs) [
  | inr bad ↦ stop_here depth opened bytes (record { gap = gap; after = b ∷ bs; bytes_are = same; is_gap = is; after_gap = none }) (inr (bad_place depth opened (b ∷ bs) bad.0 bad.1))
  | inl s ↦ elim (cases_Bool (bracket_fits depth opened b)) [
    | inl fit ↦ stop_after depth n opened bytes gap b bs s.0 again fits same is none fit s.1
    | inr misfits ↦ stop_here depth opened bytes (record { gap = gap; after = b ∷ bs; bytes_are = same; is_gap = is; after_gap = none }) (inr (misfit depth opened b bs misfits))
  ]
]

some_stop : (depth n : ℕ) (opened bytes : List ℕ) → length bytes ≤ n → Stop depth opened bytes
some_stop depth zero opened [] fits = stop_here depth opened [] (record { gap = []; after = []; bytes_are = refl; is_gap = refl; after_gap = refl }) (inl refl)
some_stop depth zero opened (b ∷ bs) fits = absurd (omega arith)
some_stop depth (suc n) opened bytes fits =
    let g = gap_at (is_inside opened) (length bytes) bytes (omega arith) in
    stop_at depth n opened bytes g.gap g.after (λ o ys less. some_stop depth n o ys less) fits g.bytes_are g.is_gap g.after_gap

none_left : (xs : List ℕ) → length xs ≡ 0 → xs ≡ []
none_left [] e = refl
none_left (x ∷ xs) e = absurd (omega arith)

-- what a text is read as that ends after these pieces and a gap
whole_text : (first depth : ℕ) (bytes : List ℕ) (ps : List Piece) (gap : List ℕ) → IsReading depth [] ps gap bytes → is_gap (is_inside (open_after [] ps)) gap ≡ true → (opened : List Placed) → open_tokens [] (tokens_of first [] [] ps) ≡ opened
    → (ts : List Placed) × (fault : Option LexFault) × IsReadAs first depth bytes ts fault
whole_text first depth bytes ps gap reading is [] none =
    let closed : open_after [] ps ≡ [] = none_left (open_after [] ps) (sym (open_lengths first [] [] [] [] ps refl) ∙ ap length none) in
    (tokens_of first [] [] ps, None, (ps, gap, reading, subst (λ o. is_gap (is_inside o) gap ≡ true) closed is, closed, refl))
whole_text first depth bytes ps gap reading is (t ∷ outer) opened = (
  tokens_of first [] [] ps,
  Some (faults.OpenBracket t.line t.col),
  (
    record {
      pieces = ps;
      gap = gap;
      place = [];
      reading = subst (λ x. IsReading depth [] ps x bytes) (sym (append-nil gap)) reading;
      stuck = gap_stuck depth (open_after [] ps) (gap ++ []) (ap (is_gap (is_inside (open_after [] ps))) (append-nil gap) ∙ is);
      is_gap = is;
      after_gap = refl;
      is = ap (λ opens. fault_at [] opens (line_at first (bytes_of ps ++ gap)) (column_at (bytes_of ps ++ gap))) opened;
    },
    refl,
  ),
)

-- what a text is read as where a place is bad
up_to_place : (first depth : ℕ) (bytes : List ℕ) (s : Stop depth [] bytes) (sort : Sort) → IsBadAt depth (open_after [] s.pieces) s.place sort → (ts : List Placed) × (fault : Option LexFault) × IsReadAs first depth bytes ts fault
unfolding bad_fault_at
up_to_place first depth bytes s sort bad = (
  tokens_of first [] [] s.pieces,
  Some (told sort (line_at first (bytes_of s.pieces ++ s.gap)) (column_at (bytes_of s.pieces ++ s.gap))),
  (bad_fault_at first depth bytes s.pieces s.gap s.place sort s.reading s.is_gap s.after_gap bad, refl),
)

-- every text has tokens up to its first fault, if it has one
pub some_reading : (first depth : ℕ) (bytes : List ℕ) → (ts : List Placed) × (fault : Option LexFault) × IsReadAs first depth bytes ts fault
some_reading first depth bytes = by_stop (some_stop depth (length bytes) [] bytes (omega arith))
  where
    at_end : (s : Stop depth [] bytes) → s.place ≡ [] → s.gap ++ s.place ≡ s.gap
    at_end s e = ap (λ x. s.gap ++ x) e ∙ append-nil s.gap

    by_stop : Stop depth [] bytes → (ts : List Placed) × (fault : Option LexFault) × IsReadAs first depth bytes ts fault
    by_stop s = elim s.what [
      | inl e ↦ whole_text first depth bytes s.pieces s.gap (subst (λ x. IsReading depth [] s.pieces x bytes) (at_end s e) s.reading) s.is_gap (open_tokens [] (tokens_of first [] [] s.pieces)) refl
      | inr bad ↦ up_to_place first depth bytes s bad.0 bad.1
    ]
