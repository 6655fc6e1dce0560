use Rattle.std.proofs.Common.{◌∙◌, sym}
use Rattle.bz_token.proofs.TokenLengths.{identifier_front}
use Rattle.bz_token.proofs.lengths.identifier_len.Goals as goal

pub returns-then-not-is_keyword : goal.returns-then-not-is_keyword
returns-then-not-is_keyword c =
    identifier_front c.args.bytes.now c.word_len-len.result c.word_len-len.ensures (sym c.begins_name.ensures ∙ c.if-begins_name.true) (sym c.is_keyword.ensures ∙ c.if-not-is_keyword.true)
