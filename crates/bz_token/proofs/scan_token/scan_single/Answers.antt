use Rattle.bz_token.specs.declared.token.Kind.TheVariants.{Operator}
use Rattle.bz_token.proofs.Scanning.{scanned_as}
use Rattle.bz_token.proofs.Singles.{single_scanned}
use Rattle.bz_token.proofs.scan_token.scan_single.Goals as goal

pub returns-clause-token : goal.returns-clause-token
returns-clause-token c =
    let made = c.on_one_line.ensures in
    scanned_as c.args.bytes.now c.on_one_line.result Operator 1 made.kind made.len made.newline (single_scanned c.args.bytes.now c.requires.some c.requires.single)
