use Rattle.std.proofs.Common.{◌∙◌}
use Rattle.bz_attribute.proofs.Headed.{other_class}
use Rattle.bz_attribute.proofs.head.Head.of_row.Goals as goal

pub returns-in_default : goal.returns-in_default
returns-in_default c s class_is row = other_class s.nodes (λ rule. c.in_default.not-Rule (row.class ∙ class_is ∙ rule))
