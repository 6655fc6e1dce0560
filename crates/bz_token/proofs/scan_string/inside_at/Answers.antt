use Rattle.bz_token.proofs.PlainStrings.{short_closes, short_one_line}
use Rattle.bz_token.proofs.scan_string.inside_at.Goals as goal

pub returns-then-bytes-len-clause-closed : goal.returns-then-bytes-len-clause-closed
returns-then-bytes-len-clause-closed c =
    short_closes c.args.quotes c.args.bytes.now c.plain_len-len.result c.plain_len-len.ensures c.if-not-quotes.true c.if-bytes-len.true c.if-len-bytes.true

pub returns-then-bytes-len-clause-one_line : goal.returns-then-bytes-len-clause-one_line
returns-then-bytes-len-clause-one_line c _ =
    short_one_line c.args.quotes.byte c.args.bytes.now c.plain_len-len.result c.plain_len-len.ensures c.requires c.if-bytes-len.true
