use Rattle.std.proofs.Common.{◌≡◌, ◌+◌, ◌≤◌, ◌∙◌, ap, drop, length, arith, length-drop}
use Rattle.std.specs.List.{prefix_len}
use Rattle.std.proofs.lemmas.List.{take_rest, drop-drop}
use Rattle.std.proofs.lemmas.List.Sums.{prefix_len-le-length}
use Rattle.bz_token.specs.Lexical.{is_word_byte}
use Rattle.bz_token.proofs.Blocks.{in_block, ends_in_block, passes_block}
use Rattle.bz_token.proofs.word.word_len.Goals as goal

pub overflow_add-len : goal.overflow_add-len
overflow_add-len c =
    let len = c.loop-len.len in
    let bytes = c.args.bytes.now in
    let rest = drop len bytes in
    let passed = rw take_rest at c.word_in_block-passed.ensures in
    let long : 16 ≤ length rest = omega (arith, c.loop-len-test.true, length-drop len bytes) in
    omega (arith, in_block is_word_byte rest _ long passed, long, length-drop len bytes)

pub returns-then-passed-lt-BLOCK : goal.returns-then-passed-lt-BLOCK
returns-then-passed-lt-BLOCK c =
    let len = c.loop-len.len in
    let bytes = c.args.bytes.now in
    let rest = drop len bytes in
    let passed = rw take_rest at c.word_in_block-passed.ensures in
    let long : 16 ≤ length rest = omega (arith, c.loop-len-test.true, length-drop len bytes) in
    omega (arith, c.loop-len.invariant.word, ends_in_block is_word_byte rest _ long passed c.if-passed-lt-BLOCK.true)

pub loop-len-preserved : goal.loop-len-preserved
loop-len-preserved c =
    let len = c.loop-len.len in
    let bytes = c.args.bytes.now in
    let rest = drop len bytes in
    let passed = rw take_rest at c.word_in_block-passed.ensures in
    let long : 16 ≤ length rest = omega (arith, c.loop-len-test.true, length-drop len bytes) in
    let block = passes_block is_word_byte rest _ long passed c.if-passed-lt-BLOCK.false in
    let left : drop 16 rest ≡ drop (len + c.word_in_block-passed.result) bytes = drop-drop 16 len bytes ∙ ap (λ n. drop n bytes) (omega (arith, block.0)) in
    record {
      within = omega (arith, block.0, long, length-drop len bytes);
      word = omega (arith, c.loop-len.invariant.word, block.0, block.1, ap (prefix_len is_word_byte) left);
    }

pub returns : goal.returns
returns c = omega (arith, rw take_rest at c.short_word_len.ensures, c.loop-len.invariant.word)

pub overflow_add-result : goal.overflow_add-result
overflow_add-result c =
    let len = c.loop-len.len in
    let counted = rw take_rest at c.short_word_len.ensures in
    omega (arith, counted, prefix_len-le-length is_word_byte (drop len c.args.bytes.now), length-drop len c.args.bytes.now, c.loop-len.invariant.within)
