use Rattle.std.proofs.Common.{◌∙◌, subst}
use Rattle.std.proofs.lemmas.Option.{IfSome_then}
use Rattle.bz_tree.specs.Chunk.{IsStatementIn}
use Rattle.bz_canonical.proofs.AskedRules.{parts_small}
use Rattle.bz_canonical.proofs.asked.read_asked_rule.Goals as goal

pub returns-in-Ok : goal.returns-in-Ok
returns-in-Ok c = IfSome_then c.in-Ok.found c.in-Ok.ensures.statement (λ row h lines args is alone. h.2.parts ∙ parts_small args h.0 (alone 1 h.0 (subst (λ t. IsStatementIn 1 c.args.max_depth t h.0) is h.1)))
