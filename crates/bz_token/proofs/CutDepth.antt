-- How many brackets are open after a byte more.
use Rattle.std.proofs.Common.{ℕ, ◌+◌, ◌-◌, ◌≤◌, ◌==◌, ◌||◌, Bool, true, false, arith}
use Rattle.std.specs.Prelude.{if◌then◌else◌}
use Rattle.bz_token.specs.declared.cutter.scan.LineKind.{LineKind}
use Rattle.bz_token.specs.declared.cutter.scan.LineKind.TheVariants.{Blank, Statement}
use Rattle.bz_token.specs.declared.cutter.scan.Quote.{Quote}
use Rattle.bz_token.specs.declared.cutter.scan.CutState.{CutState}
use Rattle.bz_token.specs.declared.cutter.scan.CutState.TheVariants.{Plain, Ended, BrokenOff, Backslash, BackslashReturn, Comment, Opened, OpenedTwice, Short, ShortEscape, ShortEscapeReturn, Long, LongQuote, LongTwoQuotes, LongEscape}
use Rattle.bz_token.specs.declared.cutter.scan.Scan.{Scan}
use Rattle.bz_token.specs.private.CutSteps.{byte_of, outside, in_short, in_long, next_in, next}

depth_of : (t : Bool) (x y : Scan) (n : ℕ) → x.depth ≤ n → y.depth ≤ n → (if t then x else y).depth ≤ n
depth_of true x y n h k = h
depth_of false x y n h k = k

outside_depth : (d : ℕ) (k : LineKind) (b : ℕ) → (outside d k b).depth ≤ d + 1
outside_depth d k b =
    let n = d + 1 in
    let same : d ≤ d + 1 = omega arith in
    let more : d + 1 ≤ d + 1 = omega arith in
    let less : d - 1 ≤ d + 1 = omega arith in
    depth_of (b == 10) _ _ n (depth_of (d == 0) _ _ n same same)
    (depth_of (b == 32 || b == 9 || b == 13) _ _ n same
    (depth_of (b == 35) _ _ n same
    (depth_of (b == 92) _ _ n same
    (depth_of (b == 34) _ _ n same
    (depth_of (b == 39) _ _ n same
    (depth_of (b == 40 || b == 91 || b == 123) _ _ n more
    (depth_of (b == 41 || b == 93 || b == 125) _ _ n less same)))))))

-- a byte opens one bracket at most
pub next_depth : (s : Scan) (b : ℕ) → (next s b).depth ≤ s.depth + 1
next_depth s b = by s.inside s.depth s.kind
  where
    same : (d : ℕ) → d ≤ d + 1
    same d = omega arith

    anew : (d : ℕ) → (outside 0 Blank b).depth ≤ d + 1
    anew d = omega (arith, outside_depth 0 Blank b)

    short : (q : Quote) (d : ℕ) (k : LineKind) → (in_short q d k b).depth ≤ d + 1
    short q d k = depth_of (b == byte_of q) _ _ (d + 1) (same d) (depth_of (b == 10) _ _ (d + 1) (same d) (depth_of (b == 92) _ _ (d + 1) (same d) (same d)))

    long : (i : CutState) (q : Quote) (d : ℕ) (k : LineKind) → (in_long i q d k b).depth ≤ d + 1
    long i q d k = depth_of (b == byte_of q) _ _ (d + 1) (same d) (depth_of (b == 92) _ _ (d + 1) (same d) (same d))

    by : (i : CutState) (d : ℕ) (k : LineKind) → (next_in i d k b).depth ≤ d + 1
    by Plain d k = outside_depth d k b
    by Ended d k = anew d
    by BrokenOff d k = anew d
    by Backslash d k = depth_of (b == 10) _ _ (d + 1) (same d) (depth_of (b == 13) _ _ (d + 1) (same d) (outside_depth d Statement b))
    by BackslashReturn d k = depth_of (b == 10) _ _ (d + 1) (same d) (outside_depth d Statement b)
    by Comment d k = depth_of (b == 10) _ _ (d + 1) (outside_depth d k b) (same d)
    by (Opened q) d k = depth_of (b == byte_of q) _ _ (d + 1) (same d) (short q d k)
    by (OpenedTwice q) d k = depth_of (b == byte_of q) _ _ (d + 1) (same d) (outside_depth d k b)
    by (Short q) d k = short q d k
    by (ShortEscape q) d k = depth_of (b == 13) _ _ (d + 1) (same d) (same d)
    by (ShortEscapeReturn q) d k = depth_of (b == 10) _ _ (d + 1) (same d) (short q d k)
    by (Long q) d k = long (LongQuote q) q d k
    by (LongQuote q) d k = long (LongTwoQuotes q) q d k
    by (LongTwoQuotes q) d k = long Plain q d k
    by (LongEscape q) d k = same d
