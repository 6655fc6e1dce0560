use Rattle.std.proofs.Common.{arith, sym, ◌<◌, length}
use Rattle.bz_token.proofs.Scanning.{one_digit}
use Rattle.bz_token.proofs.scan_token.number_len.Goals as goal

pub returns-in-len2-up : goal.returns-in-len2-up
returns-in-len2-up c =
    let more : 1 < length c.args.bytes.now = omega (arith, c.in-len2-up.len_at_least) in
    sym (one_digit c.args.bytes.now c.requires more (sym c.if-not-is_word_byte.ensures))
