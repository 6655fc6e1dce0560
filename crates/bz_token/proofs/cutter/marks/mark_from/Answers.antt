use Rattle.std.proofs.Common.{◌≡◌, ◌+◌, ◌-◌, ◌/◌, ◌^◌, ◌≤◌, ◌∙◌, ap, drop, length, arith, length-drop}
use Rattle.std.specs.List.{prefix_len}
use Rattle.std.proofs.lemmas.List.{take_rest, drop-drop}
use Rattle.std.proofs.lemmas.List.Sums.{prefix_len-le-length}
use Rattle.bz_token.specs.private.Marks.{passes}
use Rattle.bz_token.proofs.Marks.{in_block, no_mark, in_last, none_in_last}
use Rattle.bz_token.proofs.cutter.marks.mark_from.Goals as goal

pub returns-then-marks-ne0 : goal.returns-then-marks-ne0
returns-then-marks-ne0 c =
    let at = c.loop-at.at in
    let bytes = c.args.bytes.now in
    let marks = rw take_rest at c.marks_in_block-marks.ensures in
    let long : 16 ≤ length (drop at bytes) = omega (arith, c.loop-at-test.true, length-drop at bytes) in
    omega (arith, c.loop-at.invariant.passed, in_block c.args.stretch (drop at bytes) _ long marks c.if-marks-ne0.true)

pub loop-at-preserved : goal.loop-at-preserved
loop-at-preserved c =
    let at = c.loop-at.at in
    let bytes = c.args.bytes.now in
    let marks = rw take_rest at c.marks_in_block-marks.ensures in
    let long : 16 ≤ length (drop at bytes) = omega (arith, c.loop-at-test.true, length-drop at bytes) in
    let left : drop 16 (drop at bytes) ≡ drop (at + 16) bytes = drop-drop 16 at bytes ∙ ap (λ n. drop n bytes) (omega arith) in
    record {
      within = omega (arith, long, length-drop at bytes);
      passed = omega (arith, c.loop-at.invariant.passed, no_mark c.args.stretch (drop at bytes) _ long marks c.if-marks-ne0.false, ap (prefix_len (passes c.args.stretch)) left);
    }

pub overflow_add-result-then-len-lt-BLOCK : goal.overflow_add-result-then-len-lt-BLOCK
overflow_add-result-then-len-lt-BLOCK c =
    let at = c.loop-at.at in
    let bytes = c.args.bytes.now in
    let counted = rw take_rest at c.few_passed.ensures in
    omega (arith, counted, prefix_len-le-length (passes c.args.stretch) (drop at bytes), length-drop at bytes, c.loop-at.invariant.within)

pub returns-then-last-eq0 : goal.returns-then-last-eq0
returns-then-last-eq0 c =
    let at = c.loop-at.at in
    let bytes = c.args.bytes.now in
    let i = length bytes - 16 in
    let end : i + 16 ≡ length bytes = omega (arith, c.if-len-lt-BLOCK.false) in
    let le : i ≤ at = omega (arith, c.loop-at-test.false, end) in
    let over : at + 16 - length bytes ≡ at - i = omega (arith, end, le) in
    let marks = ap (λ k. c.marks_in_block.result / 2 ^ k) over ∙ ap (λ m. m / 2 ^ (at - i)) (rw take_rest at c.marks_in_block.ensures) in
    omega (arith, c.loop-at.invariant.passed, c.loop-at.invariant.within, none_in_last c.args.stretch bytes i at _ end le marks c.if-last-eq0.true)

pub returns : goal.returns
returns c =
    let at = c.loop-at.at in
    let bytes = c.args.bytes.now in
    let i = length bytes - 16 in
    let end : i + 16 ≡ length bytes = omega (arith, c.if-len-lt-BLOCK.false) in
    let le : i ≤ at = omega (arith, c.loop-at-test.false, end) in
    let over : at + 16 - length bytes ≡ at - i = omega (arith, end, le) in
    let marks = ap (λ k. c.marks_in_block.result / 2 ^ k) over ∙ ap (λ m. m / 2 ^ (at - i)) (rw take_rest at c.marks_in_block.ensures) in
    omega (arith, c.loop-at.invariant.passed, in_last c.args.stretch bytes i at _ end le marks c.if-last-eq0.false)
