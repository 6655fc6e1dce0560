use Rattle.std.proofs.Common.{ap, ◌∙◌}
use Rattle.std.specs.List.{flat_map}
use Rattle.std.specs.Ordering.{is_eq}
use Rattle.std.specs.Str.{bytes_eq}
use Rattle.std.proofs.lemmas.Map.Text.{is_eq-slice_cmp}
use Rattle.bz_label.specs.private.ByteSteps.{left}
use Rattle.bz_label.proofs.label.same_label.Goals as goal

pub returns-in_default : goal.returns-in_default
returns-in_default c = c.is_eq.ensures ∙ ap is_eq c.order.ensures ∙ is_eq-slice_cmp (flat_map left c.completed.result) (flat_map left c.completed-in_default.result) ∙ (λ i. bytes_eq (c.completed.ensures.bytes i) (c.completed-in_default.ensures.bytes i))
