use Rattle.std.proofs.Common.{◌∙◌, ap, refl}
use Rattle.bz_script.proofs.LineEnds.{return_is}
use Rattle.bz_script.proofs.command_file.without_return.Goals as goal

pub returns : goal.returns
returns c = ap (λ r. r.now) c.unwrap_or.ensures ∙ return_is _ _ c.strip_suffix.ensures.cases _ refl
