use Rattle.bz_token.proofs.Steps.{bracket_gap}
use Rattle.bz_token.proofs.scan_token.scan_bracket.Goals as goal

pub returns-clause-solid : goal.returns-clause-solid
returns-clause-solid c = λ inside. bracket_gap inside c.args.bytes.now c.requires.some c.requires.bracket
