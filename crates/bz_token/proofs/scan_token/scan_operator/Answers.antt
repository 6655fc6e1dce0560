use Rattle.std.proofs.Common.{◌<◌, arith}
use Rattle.bz_token.specs.declared.token.Kind.TheVariants.{Operator}
use Rattle.bz_token.specs.Lexical.{is_word_byte}
use Rattle.bz_token.proofs.Scanning.{operator_scanned, no_character, scanned_as}
use Rattle.bz_token.proofs.Tables.{mark_opens, begins_so}
use Rattle.bz_token.proofs.scan_token.scan_operator.Goals as goal

pub returns-in-0-clause-bad : goal.returns-in-0-clause-bad
returns-in-0-clause-bad c =
    let m = c.requires.mark in
    no_character c.args.bytes.now c.requires.some (mark_opens c.args.bytes.now c.requires.some m) (begins_so is_word_byte _ c.args.bytes.now c.requires.some m.0) m.2 m.3 m.4 (c.operator_len.ensures.none c.in-0.is)

pub returns-in_default-clause-token : goal.returns-in_default-clause-token
returns-in_default-clause-token c =
    let made = c.on_one_line.ensures in
    let found = c.operator_len.ensures in
    let some : 0 < c.operator_len.result = omega arith in
    scanned_as c.args.bytes.now c.on_one_line.result Operator c.operator_len.result made.kind made.len made.newline
    (operator_scanned c.args.bytes.now c.operator_len.result some found.in_range (found.operator some) (found.stops some))
