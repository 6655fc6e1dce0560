use Rattle.std.proofs.Common.{arith, sym, ◌<◌, ◌∙◌}
use Rattle.bz_token.specs.declared.token.Kind.TheVariants.{Integer}
use Rattle.bz_token.proofs.Scanning.{measured_number, no_measured_number, scanned_as}
use Rattle.bz_token.proofs.scan_token.scan_number.Goals as goal

pub returns-in-0-clause-bad : goal.returns-in-0-clause-bad
returns-in-0-clause-bad c = no_measured_number c.args.bytes.now c.requires.digit (sym c.in-0.is ∙ c.number_len.ensures)

pub returns-in_default-clause-token : goal.returns-in_default-clause-token
returns-in_default-clause-token c =
    let made = c.on_one_line.ensures in
    let some : 0 < c.number_len.result = omega arith in
    scanned_as c.args.bytes.now c.on_one_line.result Integer c.number_len.result made.kind made.len made.newline
    (measured_number c.args.bytes.now c.number_len.result c.requires.digit c.number_len.ensures some)
