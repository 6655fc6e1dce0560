use Rattle.std.proofs.Common.{refl}
use Rattle.bz_token.proofs.Steps.{blanks_here}
use Rattle.bz_token.proofs.gap.blanks.Goals as goal

pub returns-in_default : goal.returns-in_default
returns-in_default c inside = blanks_here inside c.args.bytes.now _ c.requires c.blank_len-len.ensures c.blank_len-len.ensures refl
