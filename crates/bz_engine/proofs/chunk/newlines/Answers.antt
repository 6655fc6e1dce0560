use Rattle.std.proofs.Common.{◌≡◌, ◌<◌, ℕ, List, ◌+◌, ◌-◌, ◌==◌, take, drop, length, arith, ap, sym, cond}
use Rattle.std.specs.Prelude.{count_by}
use Rattle.std.proofs.lemmas.List.{take_rest, length-take-le, length-drop}
use Rattle.std.proofs.lemmas.List.Sums.{sum_by-take-drop, count_by-le-length}
use Rattle.bz_engine.proofs.chunk.newlines.Goals as goal

whole : (rest : List ℕ) → 224 < length rest → length (take 224 rest) ≡ 224
whole rest h = length-take-le 224 rest (omega (arith, h))

pub slice_bounds-few_newlines-end : goal.slice_bounds-few_newlines-end
slice_bounds-few_newlines-end c = sym (whole c.loop-rest.rest.now c.loop-rest-test.true)

pub few_newlines-requires : goal.few_newlines-requires
few_newlines-requires c = omega (arith, whole c.loop-rest.rest.now c.loop-rest-test.true)

pub loop-rest-preserved : goal.loop-rest-preserved
loop-rest-preserved c =
    let rest = c.loop-rest.rest.now in
    let left : take (length rest - 224) (drop 224 rest) ≡ drop 224 rest = take_rest rest 224 in
    let both : count_by (λ (b : ℕ). b == 10) (take 224 rest) + count_by (λ (b : ℕ). b == 10) (drop 224 rest) ≡ count_by (λ (b : ℕ). b == 10) rest = sum_by-take-drop (λ (b : ℕ). cond (b == 10) 1 0) rest 224 in
    let few = count_by-le-length (λ (b : ℕ). b == 10) (take 224 rest) in
    record {
      counted = omega (arith, ap (count_by (λ b. b == 10)) left, both, c.from-count.ensures, c.few_newlines.ensures, c.loop-rest.invariant.counted);
      shorter = omega (arith, ap length left, length-drop 224 rest, few, whole rest c.loop-rest-test.true, c.loop-rest-test.true, c.from-count.ensures, c.few_newlines.ensures, c.loop-rest.invariant.shorter);
    }
