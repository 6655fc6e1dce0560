use Rattle.std.proofs.Common.{◌∙◌, ap, not}
use Rattle.bz_token.proofs.CutWords.{word_ends, word_goes}
use Rattle.bz_token.proofs.cutter.block.begins_with_word.Goals as goal

pub returns-in-Some-empty : goal.returns-in-Some-empty
returns-in-Some-empty c =
    let h = c.in-Some-empty.ensures.cases in
    word_ends c.args.text.now c.args.word.now c.in-Some-empty.field-0.now c.requires h.0 h.1 c.in-Some-empty.len_below

pub returns-in-Some-len1-up : goal.returns-in-Some-len1-up
returns-in-Some-len1-up c =
    let h = c.in-Some-len1-up.ensures.cases in
    ap not c.is_word_byte.ensures ∙ word_goes c.args.text.now c.args.word.now c.in-Some-len1-up.field-0.now c.requires h.0 h.1 c.in-Some-len1-up.len_at_least
