-- What a step keeps.
use Rattle.std.proofs.Common.{◌≡◌, ℕ, ◌+◌, ◌≤◌, ◌==◌, ◌&&◌, List, [], ◌∷◌, ◌++◌, Bool, true, false, not, length, refl, sym, ◌∙◌, arith}
use Rattle.std.specs.Prelude.{if◌then◌else◌}
use Rattle.std.proofs.lemmas.Bool.{both_ways, and_parts, not-true, false≢true}
use Rattle.std.proofs.lemmas.Bool.Decides.{nat_tests}
use Rattle.bz_token.specs.declared.cutter.scan.LineKind.{LineKind}
use Rattle.bz_token.specs.declared.cutter.scan.LineKind.TheVariants.{Blank, CommentLine, Statement}
use Rattle.bz_token.specs.declared.cutter.scan.Quote.{Quote}
use Rattle.bz_token.specs.declared.cutter.scan.CutState.{CutState}
use Rattle.bz_token.specs.declared.cutter.scan.CutState.TheVariants.{Plain, Ended, BrokenOff, Backslash, BackslashReturn, Comment, Opened, OpenedTwice, Short, ShortEscape, ShortEscapeReturn, Long, LongQuote, LongTwoQuotes, LongEscape}
use Rattle.bz_token.specs.declared.cutter.scan.Scan.{Scan}
use Rattle.bz_token.specs.Cuts.{is_physical_line}
use Rattle.bz_token.specs.private.CutSteps.{is_ended, is_blank_kind, byte_of, with_comment, at, outside, in_short, in_long, next_in, next, run}

pub ended_restarts : (i : CutState) (d : ℕ) (k : LineKind) (b : ℕ) → is_ended i ≡ true → next_in i d k b ≡ outside 0 Blank b
ended_restarts Ended d k b h = refl
ended_restarts BrokenOff d k b h = refl
ended_restarts Plain d k b h = absurd (false≢true h)
ended_restarts Backslash d k b h = absurd (false≢true h)
ended_restarts BackslashReturn d k b h = absurd (false≢true h)
ended_restarts Comment d k b h = absurd (false≢true h)
ended_restarts (Opened q) d k b h = absurd (false≢true h)
ended_restarts (OpenedTwice q) d k b h = absurd (false≢true h)
ended_restarts (Short q) d k b h = absurd (false≢true h)
ended_restarts (ShortEscape q) d k b h = absurd (false≢true h)
ended_restarts (ShortEscapeReturn q) d k b h = absurd (false≢true h)
ended_restarts (Long q) d k b h = absurd (false≢true h)
ended_restarts (LongQuote q) d k b h = absurd (false≢true h)
ended_restarts (LongTwoQuotes q) d k b h = absurd (false≢true h)
ended_restarts (LongEscape q) d k b h = absurd (false≢true h)

-- a fact of both branches
either : (P : Scan → Type 0) (test : Bool) (s t : Scan) → P s → P t → P (if test then s else t)
either P true s t p q = p
either P false s t p q = q

short_step : (P : Scan → Type 0) (d : ℕ) (k : LineKind) (b : ℕ) (q : Quote) → ((j : CutState) → P (at j d k)) → P (in_short q d k b)
short_step P d k b q here = either P _ _ _ (here Plain) (either P _ _ _ (here BrokenOff) (either P _ _ _ (here (ShortEscape q)) (here (Short q))))

long_step : (P : Scan → Type 0) (d : ℕ) (k : LineKind) (b : ℕ) (q : Quote) (quoted : CutState) → ((j : CutState) → P (at j d k)) → P (in_long quoted q d k b)
long_step P d k b q quoted here = either P _ _ _ (here quoted) (either P _ _ _ (here (LongEscape q)) (here (Long q)))

-- what holds wherever a string or a comment may lead, and outside them, holds after a step
after_step : (P : Scan → Type 0) (d : ℕ) (k : LineKind) (b : ℕ) (i : CutState) → ((j : CutState) → P (at j d k)) → P (outside d k b) → P (outside d Statement b) → (is_ended i ≡ true → P (outside 0 Blank b)) → P (next_in i d k b)
after_step P d k b Plain here out statement new = out
after_step P d k b Ended here out statement new = new refl
after_step P d k b BrokenOff here out statement new = new refl
after_step P d k b Backslash here out statement new = either P _ _ _ (here Plain) (either P _ _ _ (here BackslashReturn) statement)
after_step P d k b BackslashReturn here out statement new = either P _ _ _ (here Plain) statement
after_step P d k b Comment here out statement new = either P _ _ _ out (here Comment)
after_step P d k b (Opened q) here out statement new = either P _ _ _ (here (OpenedTwice q)) (short_step P d k b q here)
after_step P d k b (OpenedTwice q) here out statement new = either P _ _ _ (here (Long q)) out
after_step P d k b (Short q) here out statement new = short_step P d k b q here
after_step P d k b (ShortEscape q) here out statement new = either P _ _ _ (here (ShortEscapeReturn q)) (here (Short q))
after_step P d k b (ShortEscapeReturn q) here out statement new = either P _ _ _ (here (Short q)) (short_step P d k b q here)
after_step P d k b (Long q) here out statement new = long_step P d k b q (LongQuote q) here
after_step P d k b (LongQuote q) here out statement new = long_step P d k b q (LongTwoQuotes q) here
after_step P d k b (LongTwoQuotes q) here out statement new = long_step P d k b q Plain here
after_step P d k b (LongEscape q) here out statement new = here (Long q)

-- a bracket is a byte
outside_depth : (d : ℕ) (k : LineKind) (b : ℕ) → (outside d k b).depth ≤ d + 1
outside_depth d k b = grind (arith, nat_tests)

pub next_depth : (i : CutState) (d : ℕ) (k : LineKind) (b : ℕ) → (next_in i d k b).depth ≤ d + 1
next_depth i d k b = after_step (λ s. s.depth ≤ d + 1) d k b i (λ j. omega arith) (outside_depth d k b) (outside_depth d Statement b) (λ e. omega (arith, outside_depth 0 Blank b))

-- a logical line ends with a newline
outside_open : (d : ℕ) (k : LineKind) (b : ℕ) → (b == 10) ≡ false → is_ended (outside d k b).inside ≡ false
outside_open d k b h = grind (arith, nat_tests)

abbrev Open : Scan → Type 0
Open s = is_ended s.inside ≡ false

pub next_inside : (i : CutState) (d : ℕ) (k : LineKind) (b : ℕ) → (b == 10) ≡ false → is_ended (next_in i d k b).inside ≡ false
next_inside Plain d k b h = outside_open d k b h
next_inside Ended d k b h = outside_open 0 Blank b h
next_inside BrokenOff d k b h = outside_open 0 Blank b h
next_inside Backslash d k b h =
    either Open (b == 10) (at Plain d k) (if b == 13 then at BackslashReturn d k else outside d Statement b) refl
    (either Open (b == 13) (at BackslashReturn d k) (outside d Statement b) refl (outside_open d Statement b h))
next_inside BackslashReturn d k b h = either Open (b == 10) (at Plain d k) (outside d Statement b) refl (outside_open d Statement b h)
next_inside Comment d k b h = either Open (b == 10) (outside d k b) (at Comment d k) (outside_open d k b h) refl
next_inside (Opened q) d k b h = grind (arith, nat_tests)
next_inside (OpenedTwice q) d k b h = either Open (b == byte_of q) (at (Long q) d k) (outside d k b) refl (outside_open d k b h)
next_inside (Short q) d k b h = grind (arith, nat_tests)
next_inside (ShortEscape q) d k b h = grind (arith, nat_tests)
next_inside (ShortEscapeReturn q) d k b h = grind (arith, nat_tests)
next_inside (Long q) d k b h = grind (arith, nat_tests)
next_inside (LongQuote q) d k b h = grind (arith, nat_tests)
next_inside (LongTwoQuotes q) d k b h = grind (arith, nat_tests)
next_inside (LongEscape q) d k b h = refl

pub run_depth : (bs : List ℕ) (s : Scan) → (run s bs).depth ≤ s.depth + length bs
run_depth [] s = omega arith
run_depth (b ∷ bs) s = omega (arith, run_depth bs (next s b), next_depth s.inside s.depth s.kind b)

pub run_append : (bs cs : List ℕ) (s : Scan) → run s (bs ++ cs) ≡ run (run s bs) cs
run_append [] cs s = refl
run_append (b ∷ bs) cs s = run_append bs cs (next s b)

-- over bytes that end no logical line before their end
abbrev pub quiet_before : Scan → List ℕ → Bool
quiet_before s [] = true
quiet_before s (b ∷ bs) = not (is_ended s.inside) && quiet_before (next s b) bs

pub line_quiet : (b : ℕ) (bs : List ℕ) (s : Scan) → is_physical_line (b ∷ bs) ≡ true → quiet_before (next s b) bs ≡ true
line_quiet b [] s h = refl
line_quiet b (c ∷ cs) s h =
    let parts = and_parts (not (b == 10)) (is_physical_line (c ∷ cs)) h in
    rw (next_inside s.inside s.depth s.kind b (not-true _ parts.0)) (line_quiet c cs (next s b) parts.1)

-- within a line the kind never goes back to Blank
is_kept : (k : LineKind) → is_blank_kind k ≡ false → is_blank_kind (with_comment k) ≡ false
is_kept Blank h = absurd (both_ways _ h refl)
is_kept CommentLine h = refl
is_kept Statement h = refl

outside_kept : (d : ℕ) (k : LineKind) (b : ℕ) → is_blank_kind k ≡ false → is_blank_kind (outside d k b).kind ≡ false
outside_kept d k b h = grind (arith, nat_tests, is_kept)

pub kept_kind : (i : CutState) (d : ℕ) (k : LineKind) (b : ℕ) → is_ended i ≡ false → is_blank_kind k ≡ false → is_blank_kind (next_in i d k b).kind ≡ false
kept_kind i d k b open_ h =
    after_step (λ s. is_blank_kind s.kind ≡ false) d k b i (λ j. h) (outside_kept d k b h) (outside_kept d Statement b refl) (λ e. absurd (false≢true (sym open_ ∙ e)))

pub run_kind : (bs : List ℕ) (s : Scan) → quiet_before s bs ≡ true → is_blank_kind s.kind ≡ false → is_blank_kind (run s bs).kind ≡ false
run_kind [] s q h = h
run_kind (b ∷ bs) s q h =
    let parts = and_parts (not (is_ended s.inside)) (quiet_before (next s b) bs) q in
    run_kind bs (next s b) parts.1 (kept_kind s.inside s.depth s.kind b (not-true _ parts.0) h)
