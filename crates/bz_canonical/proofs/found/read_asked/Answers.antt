use Rattle.std.proofs.Common.{◌∙◌}
use Rattle.std.proofs.lemmas.Option.{IfSome_then}
use Rattle.std.proofs.lemmas.Result.{IfOk-weaker}
use Rattle.bz_canonical.proofs.found.read_asked.Goals as goal

pub returns : goal.returns
returns c = IfOk-weaker c.read_asked_rule.result _ _ (λ known h. IfSome_then known h (λ row told names from start args stands after are text alone. told _ _ (c.as_str.ensures.value ∙ c.in_ok-put_asked_rule.ensures c.if-not-branch.false names from start args stands after are text) alone)) c.read_asked_rule.ensures
