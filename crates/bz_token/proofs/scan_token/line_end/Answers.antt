use Rattle.bz_token.proofs.Scanning.{line_scanned}
use Rattle.bz_token.proofs.Steps.{newline_gap}
use Rattle.bz_token.proofs.scan_token.line_end.Goals as goal

pub returns : goal.returns
returns c = (newline_gap c.args.inside c.args.bytes.now c.if-inside.false c.requires.some c.requires.newline, line_scanned c.args.bytes.now c.requires.some c.requires.newline)
