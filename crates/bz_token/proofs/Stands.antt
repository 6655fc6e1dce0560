-- Where the cutter stands between the tokens of a text, and in which kind of line.
use Rattle.std.proofs.Common.{◌≡◌, ℕ, ◌<◌, ◌==◌, ◌&&◌, ◌||◌, List, [], ◌∷◌, ◌++◌, length, take, Bool, true, false, not, refl, sym, ap, subst, ◌∙◌, arith, inl, inr, one-add}
use Rattle.std.specs.List.{list_all, list_any, prefix_len}
use Rattle.std.proofs.lemmas.Bool.{cases_Bool, and_parts, or_cases, false≢true, eqb-true, and_from, not-true, not_from_false, or_parts}
use Rattle.std.proofs.lemmas.Bool.Decides.{nat_tests}
use Rattle.bz_token.proofs.Units.{gap_step}
use Rattle.bz_token.specs.declared.token.Kind.{Kind}
use Rattle.bz_token.specs.declared.token.Kind.TheVariants.{Identifier, Keyword, Integer, String, Operator, Newline, Comment as CommentToken, Kept}
use Rattle.bz_token.specs.declared.cutter.scan.LineKind.{LineKind}
use Rattle.bz_token.specs.declared.cutter.scan.LineKind.TheVariants.{Statement}
use Rattle.bz_token.specs.declared.cutter.scan.CutState.{CutState}
use Rattle.bz_token.specs.declared.cutter.scan.CutState.TheVariants.{Plain, Ended, BrokenOff, Backslash, BackslashReturn, Comment, Opened, OpenedTwice, Short, ShortEscape, ShortEscapeReturn, Long, LongQuote, LongTwoQuotes, LongEscape}
use Rattle.bz_token.specs.declared.cutter.scan.Scan.{Scan}
use Rattle.bz_token.specs.private.CutSteps.{is_ended, at, outside, next_in, next, run, with_comment}
use Rattle.bz_token.specs.Lexical.{is_text, IsToken}
use Rattle.bz_token.specs.Common.{is_newline}
use Rattle.bz_token.specs.Brackets.{is_line, fits, open_after_token}
use Rattle.bz_token.specs.Reading.{is_gap}
use Rattle.bz_token.proofs.Classes.{newline, hash, unknown, class_of, can_start, text_class, empty_no_text}
use Rattle.bz_token.proofs.Ends.{comment_parts}
use Rattle.bz_token.proofs.Stops.{token_ends}
use Rattle.bz_token.proofs.CutSeen.{final_kind}
use Rattle.bz_token.proofs.Agree.{IsAt, stands, Ready, acts, comments, token_run, visible}
use Rattle.bz_token.proofs.Quiet.{is_quiet, quiet_end, statement_step, statement_run, short_no_newline, plain_quiet, string_quiet}
use Rattle.bz_token.specs.Pieces.{is_blank, is_white}
use Rattle.bz_token.specs.private.Gaps.{continues_gap, feeds_gap}

-- The cutter acts as outside strings and comments in a line of this kind; or it is in a comment of which white space is left.
pub data Stands (s : Scan) (d : ℕ) (k : LineKind) (after : List ℕ) : Type 0 where
  plainly : ((b : ℕ) (bs : List ℕ) → after ≡ b ∷ bs → next s b ≡ outside d k b) → final_kind s.inside s.kind ≡ k → Stands s d k after
  in_comment : s ≡ at Comment d k → list_all is_blank (take (prefix_len (λ c. not (is_newline c)) after) after) ≡ true → Stands s d k after

pub stands_plain : (s : Scan) (d : ℕ) (k : LineKind) (after : List ℕ) → s ≡ at Plain d k → Stands s d k after
stands_plain s d k after h = plainly (λ b bs e. ap (λ t. next t b) h) (ap (λ t. final_kind t.inside t.kind) h)

pub stands_final : (s : Scan) (d : ℕ) (k : LineKind) (after : List ℕ) → Stands s d k after → final_kind s.inside s.kind ≡ k
stands_final s d k after (plainly f h) = h
stands_final s d k after (in_comment h b) = ap (λ t. final_kind t.inside t.kind) h

pub stands_ready : (s : Scan) (d : ℕ) (k : LineKind) (after : List ℕ) → Stands s d k after → Ready s d after
stands_ready s d k after (plainly f h) = acts (λ b bs e. (k, f b bs e))
stands_ready s d k after (in_comment h b) = comments (subst (λ t. IsAt t Comment d) (sym h) (stands Comment d k)) b

pub stands_first : (s : Scan) (d : ℕ) (k : LineKind) (b : ℕ) (bs : List ℕ) → Stands s d k (b ∷ bs) → is_blank b ≡ false → next s b ≡ outside d k b
stands_first s d k b bs (plainly f h) visible = f b bs refl
stands_first s d k b bs (in_comment h blank) visible = elim (cases_Bool (is_newline b)) [
  | inl line ↦
      let step : next_in Comment d k b ≡ outside d k b = rw line refl in
      ap (λ t. next t b) h ∙ step
  | inr other ↦ absurd (false≢true (sym visible ∙ (and_parts (is_blank b) (list_all is_blank (take (prefix_len (λ c. not (is_newline c)) bs) bs)) (rw (other, one-add) at blank)).0))
]

blank_step : (d : ℕ) (k : LineKind) (b : ℕ) → is_blank b ≡ true → outside d k b ≡ at Plain d k
blank_step d k b h =
    elim (or_cases (b == 32 || b == 9) (b == 13) h) [
      | inl two ↦ elim (or_cases (b == 32) (b == 9) two) [
        | inl first ↦ let same : b ≡ 32 = eqb-true b 32 first in rw same refl
        | inr second ↦ let same : b ≡ 9 = eqb-true b 9 second in rw same refl
      ]
      | inr third ↦ let same : b ≡ 13 = eqb-true b 13 third in rw same refl
    ]

blank_no_newline : (b : ℕ) → is_blank b ≡ true → is_newline b ≡ false
blank_no_newline b h = grind (arith, nat_tests)

-- the cutter stands there, and no line ended on the way
pub record After (s t : Scan) (d : ℕ) (k : LineKind) (after passed : List ℕ) : Type 0 where
  pub stands : Stands t d k after
  pub quiet : is_quiet s passed ≡ true

step_after : (s : Scan) (d : ℕ) (k : LineKind) (b : ℕ) (bs after : List ℕ) → is_ended (next s b).inside ≡ false → After (next s b) (run (next s b) bs) d k after bs → After s (run s (b ∷ bs)) d k after (b ∷ bs)
step_after s d k b bs after none more = record { stands = more.stands; quiet = and_from (not (is_ended (next s b).inside)) (is_quiet (next s b) bs) (not_from_false (is_ended (next s b).inside) none) more.quiet }

ended_at : (s : Scan) (i : CutState) (d : ℕ) (k : LineKind) → s ≡ at i d k → is_ended i ≡ false → is_ended s.inside ≡ false
ended_at s i d k h none = ap (λ t. is_ended t.inside) h ∙ none

inner_newline : (d : ℕ) (k : LineKind) → 0 < d → outside d k 10 ≡ at Plain d k
inner_newline d k h = let some = not_zero d h in rw some refl
  where
    not_zero : (d : ℕ) → 0 < d → (d == 0) ≡ false
    not_zero d h = grind (arith, nat_tests)

blank_stands : (s : Scan) (d : ℕ) (k : LineKind) (b : ℕ) (bs : List ℕ) → Stands s d k (b ∷ bs) → is_blank b ≡ true → Stands (next s b) d k bs × (is_ended (next s b).inside ≡ false)
blank_stands s d k b bs (plainly f h) blank =
    let here : next s b ≡ at Plain d k = f b bs refl ∙ blank_step d k b blank in
    (stands_plain (next s b) d k bs here, ended_at (next s b) Plain d k here refl)
blank_stands s d k b bs (in_comment h white) blank =
    let other = blank_no_newline b blank in
    let step : next_in Comment d k b ≡ at Comment d k = rw other refl in
    let here : next s b ≡ at Comment d k = ap (λ t. next t b) h ∙ step in
    (in_comment here (and_parts (is_blank b) (list_all is_blank (take (prefix_len (λ c. not (is_newline c)) bs) bs)) (rw (other, one-add) at white)).1, ended_at (next s b) Comment d k here refl)

mutual
  -- over a gap
  pub gap_after : (inside : Bool) (g rest : List ℕ) (s : Scan) (d : ℕ) (k : LineKind) → (inside ≡ true → 0 < d) → is_gap inside g ≡ true → Stands s d k (g ++ rest) → After s (run s g) d k rest g
  gap_after inside [] rest s d k deep h st = record { stands = st; quiet = refl }
  gap_after inside (b ∷ bs) rest s d k deep h st = elim (cases_Bool (is_white inside b)) [
    | inl white ↦
        let more = rw white at (sym (gap_step inside b bs) ∙ h) in
        elim (or_cases (is_blank b) (inside && b == 10) white) [
          | inl blank ↦
              let here = blank_stands s d k b (bs ++ rest) st blank in
              step_after s d k b bs rest here.1 (gap_after inside bs rest (next s b) d k deep more here.0)
          | inr line ↦
              let parts = and_parts inside (b == 10) line in
              let same : b ≡ 10 = eqb-true b 10 parts.1 in
              let here : next s b ≡ at Plain d k = stands_first s d k b (bs ++ rest) st (ap is_blank same) ∙ ap (outside d k) same ∙ inner_newline d k (deep parts.0) in
              step_after s d k b bs rest (ended_at (next s b) Plain d k here refl) (gap_after inside bs rest (next s b) d k deep more (stands_plain (next s b) d k (bs ++ rest) here))
        ]
    | inr other ↦
        let parts = and_parts (b == 92) (continues_gap inside bs) (rw other at (sym (gap_step inside b bs) ∙ h)) in
        let same : b ≡ 92 = eqb-true b 92 parts.0 in
        let here : next s b ≡ at Backslash d k = stands_first s d k b (bs ++ rest) st (ap is_blank same) ∙ ap (outside d k) same in
        step_after s d k b bs rest (ended_at (next s b) Backslash d k here refl) (continued_after inside bs rest (next s b) d k deep parts.1 here)
  ]

  continued_after : (inside : Bool) (g rest : List ℕ) (s : Scan) (d : ℕ) (k : LineKind) → (inside ≡ true → 0 < d) → continues_gap inside g ≡ true → s ≡ at Backslash d k → After s (run s g) d k rest g
  continued_after inside [] rest s d k deep h i = absurd (false≢true h)
  continued_after inside (b ∷ bs) rest s d k deep h i = elim (cases_Bool (b == 13)) [
    | inl return ↦
        let same : b ≡ 13 = eqb-true b 13 return in
        let here : next s b ≡ at BackslashReturn d k = ap (λ t. next t b) i ∙ ap (next_in Backslash d k) same in
        step_after s d k b bs rest (ended_at (next s b) BackslashReturn d k here refl) (fed_after inside bs rest (next s b) d k deep (rw (return, continues_gap) at h) here)
    | inr other ↦
        let parts = and_parts (b == 10) (is_gap inside bs) (rw (other, continues_gap) at h) in
        let same : b ≡ 10 = eqb-true b 10 parts.0 in
        let here : next s b ≡ at Plain d k = ap (λ t. next t b) i ∙ ap (next_in Backslash d k) same in
        step_after s d k b bs rest (ended_at (next s b) Plain d k here refl) (gap_after inside bs rest (next s b) d k deep parts.1 (stands_plain (next s b) d k (bs ++ rest) here))
  ]

  fed_after : (inside : Bool) (g rest : List ℕ) (s : Scan) (d : ℕ) (k : LineKind) → (inside ≡ true → 0 < d) → feeds_gap inside g ≡ true → s ≡ at BackslashReturn d k → After s (run s g) d k rest g
  fed_after inside [] rest s d k deep h i = absurd (false≢true h)
  fed_after inside (b ∷ bs) rest s d k deep h i =
      let parts = and_parts (b == 10) (is_gap inside bs) h in
      let same : b ≡ 10 = eqb-true b 10 parts.0 in
      let here : next s b ≡ at Plain d k = ap (λ t. next t b) i ∙ ap (next_in BackslashReturn d k) same in
      step_after s d k b bs rest (ended_at (next s b) Plain d k here refl) (gap_after inside bs rest (next s b) d k deep parts.1 (stands_plain (next s b) d k (bs ++ rest) here))

-- what a token makes of its line
abbrev pub kind_with : LineKind → Kind → LineKind
kind_with k Newline = k
kind_with k CommentToken = with_comment k
kind_with k _ = Statement

-- a byte outside comments, white space and continued lines begins a statement
statement_byte : (d : ℕ) (k : LineKind) (b : ℕ) → (b == 10) ≡ false → is_blank b ≡ false → (b == 35) ≡ false → (b == 92) ≡ false → (outside d k b).kind ≡ Statement
statement_byte d k b n10 blank n35 n92 = grind (arith, nat_tests)

pub apart : (kind : Kind) (b c : ℕ) → can_start kind (class_of b) ≡ true → can_start kind (class_of c) ≡ false → (b == c) ≡ false
apart kind b c h none = elim (cases_Bool (b == c)) [
  | inr miss ↦ miss
  | inl hit ↦ absurd (false≢true (sym none ∙ ap (λ x. can_start kind (class_of x)) (sym (eqb-true b c hit)) ∙ h))
]

statement_starts : (d : ℕ) (k : LineKind) (kind : Kind) (b : ℕ) (bs : List ℕ) → is_text kind (b ∷ bs) ≡ true → can_start kind newline ≡ false → can_start kind hash ≡ false → can_start kind unknown ≡ false → (outside d k b).kind ≡ Statement
statement_starts d k kind b bs is line comment none =
    let h = text_class kind b bs is in
    statement_byte d k b (apart kind b 10 h line) (visible kind b bs is) (apart kind b 35 h comment) (apart kind b 92 h none)

-- in a statement it does not matter what else the line was
outside_statement : (d : ℕ) (k : LineKind) (b : ℕ) → (outside d k b).kind ≡ Statement → outside d k b ≡ outside d Statement b
outside_statement d k b h =
    elim (cases_Bool (b == 10)) [
      | inl hit ↦ let same : b ≡ 10 = eqb-true b 10 hit in ap (λ x. outside d x b) (line (ap (λ x. (outside d k x).kind) (sym same) ∙ h))
      | inr n10 ↦ elim (cases_Bool (is_blank b)) [
        | inl hit ↦ ap (λ x. outside d x b) (sym (ap (λ t. t.kind) (blank_step d k b hit)) ∙ h)
        | inr blank ↦ elim (cases_Bool (b == 35)) [
          | inl hit ↦ let same : b ≡ 35 = eqb-true b 35 hit in ap (outside d k) same ∙ ap (at Comment d) (ap (λ x. (outside d k x).kind) (sym same) ∙ h) ∙ sym (ap (outside d Statement) same)
          | inr n35 ↦ elim (cases_Bool (b == 92)) [
            | inl hit ↦ let same : b ≡ 92 = eqb-true b 92 hit in ap (λ x. outside d x b) (ap (λ x. (outside d k x).kind) (sym same) ∙ h)
            | inr n92 ↦ rest n10 blank n35 n92
          ]
        ]
      ]
    ]
  where
    line : (outside d k 10).kind ≡ Statement → k ≡ Statement
    line h = elim (cases_Bool (d == 0)) [
      | inl hit ↦ rw hit at h
      | inr miss ↦ rw miss at h
    ]

    rest : (b == 10) ≡ false → is_blank b ≡ false → (b == 35) ≡ false → (b == 92) ≡ false → outside d k b ≡ outside d Statement b
    rest n10 blank n35 n92 = rw (n10, blank, n35, n92) refl

-- after a token of a statement
ready_stands : (s : Scan) (d : ℕ) (after : List ℕ) → Ready s d after → is_ended s.inside ≡ false → s.kind ≡ Statement → Stands s d Statement after
ready_stands s d after (acts f) none k = plainly (λ b bs e.
    let m = f b bs e in
    m.1 ∙ outside_statement d m.0 b (sym (ap (λ t. t.kind) m.1) ∙ statement_step s b none k)) (ap (final_kind s.inside) k ∙ final s.inside)
  where
    final : (i : CutState) → final_kind i Statement ≡ Statement
    final Plain = refl
    final Ended = refl
    final BrokenOff = refl
    final Backslash = refl
    final BackslashReturn = refl
    final Comment = refl
    final (Opened q) = refl
    final (OpenedTwice q) = refl
    final (Short q) = refl
    final (ShortEscape q) = refl
    final (ShortEscapeReturn q) = refl
    final (Long q) = refl
    final (LongQuote q) = refl
    final (LongTwoQuotes q) = refl
    final (LongEscape q) = refl
ready_stands s d after (comments h blank) none k = in_comment (λ i. at (h.inside_is i) (h.depth_is i) (k i)) blank

-- over a comment
comment_over : (bs : List ℕ) (s : Scan) (d : ℕ) (k : LineKind) → list_any is_newline bs ≡ false → s ≡ at Comment d k → run s bs ≡ at Comment d k
comment_over [] s d k none h = h
comment_over (b ∷ bs) s d k none h =
    let parts = or_parts (is_newline b) (list_any is_newline bs) none in
    let other = parts.0 in
    let step : next_in Comment d k b ≡ at Comment d k = rw other refl in
    comment_over bs (next s b) d k parts.1 (ap (λ t. next t b) h ∙ step)

first_hash : (opened : List ℕ) (b : ℕ) (bs : List ℕ) → b ≡ 35 → open_after_token opened (b ∷ bs) ≡ opened
first_hash opened b [] same = ap (λ x. open_after_token opened (x ∷ [])) same
first_hash opened b (c ∷ bs) same = refl

comment_after : (s : Scan) (opened : List ℕ) (k : LineKind) (b : ℕ) (bs after : List ℕ) → IsToken CommentToken (b ∷ bs) after → Stands s (length opened) k (b ∷ bs ++ after) → After s (run s (b ∷ bs)) (length (open_after_token opened (b ∷ bs))) (with_comment k) after (b ∷ bs)
comment_after s opened k b bs after token st =
    let d = length opened in
    let parts = comment_parts (b ∷ bs) token.whole in
    let same : b ≡ 35 = eqb-true b 35 parts.0 in
    let clean : list_any is_newline bs ≡ false = (or_parts (is_newline b) (list_any is_newline bs) parts.1).1 in
    let here : next s b ≡ at Comment d (with_comment k) = stands_first s d k b (bs ++ after) st (ap is_blank same) ∙ ap (outside d k) same in
    let end = comment_over bs (next s b) d (with_comment k) clean here in
    record {
      stands = subst (λ n. Stands (run s (b ∷ bs)) n (with_comment k) after) (ap length (sym (first_hash opened b bs same))) (in_comment end (token_ends CommentToken (b ∷ bs) after token));
      quiet = plain_quiet (b ∷ bs) s parts.1;
    }

-- over a token of a statement
statement_after : (depth : ℕ) (s : Scan) (opened : List ℕ) (k : LineKind) (kind : Kind) (b : ℕ) (bs after : List ℕ) → IsToken kind (b ∷ bs) after → fits depth opened kind (b ∷ bs) ≡ true → Stands s (length opened) k (b ∷ bs ++ after)
    → is_ended s.inside ≡ false → is_line kind ≡ false → can_start kind newline ≡ false → can_start kind hash ≡ false → can_start kind unknown ≡ false → is_quiet s (b ∷ bs) ≡ true
    → After s (run s (b ∷ bs)) (length (open_after_token opened (b ∷ bs))) Statement after (b ∷ bs)
statement_after depth s opened k kind b bs after token fit st none noline line comment other quiet =
    let d = length opened in
    let parts = and_parts (not (is_ended (next s b).inside)) (is_quiet (next s b) bs) quiet in
    let first = stands_first s d k b (bs ++ after) st (visible kind b bs token.whole) in
    let begun : (next s b).kind ≡ Statement = ap (λ t. t.kind) first ∙ statement_starts d k kind b bs token.whole line comment other in
    let t = token_run depth s opened kind (b ∷ bs) after token fit (stands_ready s d k (b ∷ bs ++ after) st) in
    record {
      stands = ready_stands (run s (b ∷ bs)) (length (open_after_token opened (b ∷ bs))) after t.ready (quiet_end (b ∷ bs) s none quiet) (statement_run bs (next s b) (not-true (is_ended (next s b).inside) parts.0) parts.1 begun);
      quiet = quiet;
    }

-- over a token that is no newline
pub token_after : (depth : ℕ) (s : Scan) (opened : List ℕ) (k : LineKind) (kind : Kind) (text after : List ℕ) → IsToken kind text after → fits depth opened kind text ≡ true → Stands s (length opened) k (text ++ after)
    → is_ended s.inside ≡ false → is_line kind ≡ false → After s (run s text) (length (open_after_token opened text)) (kind_with k kind) after text
token_after depth s opened k kind [] after token fit st none line = absurd (empty_no_text kind token.whole)
token_after depth s opened k Identifier (b ∷ bs) after token fit st none line = statement_after depth s opened k Identifier b bs after token fit st none refl refl refl refl (plain_quiet (b ∷ bs) s (short_no_newline Identifier (b ∷ bs) refl token.whole))
token_after depth s opened k Keyword (b ∷ bs) after token fit st none line = statement_after depth s opened k Keyword b bs after token fit st none refl refl refl refl (plain_quiet (b ∷ bs) s (short_no_newline Keyword (b ∷ bs) refl token.whole))
token_after depth s opened k Integer (b ∷ bs) after token fit st none line = statement_after depth s opened k Integer b bs after token fit st none refl refl refl refl (plain_quiet (b ∷ bs) s (short_no_newline Integer (b ∷ bs) refl token.whole))
token_after depth s opened k Operator (b ∷ bs) after token fit st none line = statement_after depth s opened k Operator b bs after token fit st none refl refl refl refl (plain_quiet (b ∷ bs) s (short_no_newline Operator (b ∷ bs) refl token.whole))
token_after depth s opened k String (b ∷ bs) after token fit st none line =
    let d = length opened in
    let t = token_run depth s opened String (b ∷ bs) after token fit (stands_ready s d k (b ∷ bs ++ after) st) in
    statement_after depth s opened k String b bs after token fit st none refl refl refl refl
    (string_quiet (b ∷ bs) s d token.whole (λ c cs e. first c cs e) (λ e. false≢true (t.ended e)))
  where
    first : (c : ℕ) (cs : List ℕ) → b ∷ bs ≡ c ∷ cs → (j : LineKind) × (next s c ≡ outside (length opened) j c)
    first c cs e =
        let same : b ≡ c = cc in
        (k, subst (λ x. next s x ≡ outside (length opened) k x) same (stands_first s (length opened) k b (bs ++ after) st (visible String b bs token.whole)))
token_after depth s opened k CommentToken (b ∷ bs) after token fit st none line = comment_after s opened k b bs after token st
token_after depth s opened k Newline (b ∷ bs) after token fit st none line = absurd (false≢true (sym line))
token_after depth s opened k Kept (b ∷ bs) after token fit st none line = absurd (false≢true token.whole)
