use Rattle.bz_token.proofs.LineFronts.{line_some, line_none}
use Rattle.bz_token.proofs.scan.line_len.Goals as goal

pub returns-in-Some : goal.returns-in-Some
returns-in-Some c = line_some c.args.bytes.now c.in-Some.len c.in-Some.ensures

pub returns-in-None : goal.returns-in-None
returns-in-None c = line_none c.args.bytes.now c.in-None.ensures
