use Rattle.bz_token.proofs.Steps.{comma_taken}
use Rattle.bz_token.proofs.scan_token.scan_comma.Goals as goal

pub returns-clause-taken : goal.returns-clause-taken
returns-clause-taken c depth opened = comma_taken depth opened c.args.bytes.now c.scan_single.result c.requires c.scan_single.ensures.token
