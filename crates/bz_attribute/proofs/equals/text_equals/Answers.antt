use Rattle.std.proofs.Common.{false, sym, ◌∙◌}
use Rattle.bz_label.specs.Values.{value_of}
use Rattle.bz_token.specs.Common.{map_or}
use Rattle.bz_label.specs.Same.{same}
use Rattle.bz_attribute.proofs.equals.text_equals.Goals as goal

pub returns-then-literal_apart : goal.returns-then-literal_apart
returns-then-literal_apart c =
    sym (c.literal_apart.ensures c.if-literal_apart.true c.args.home.now) ∙ (λ i. map_or false (λ value. same c.args.home.now value (c.as_bytes-2.ensures.value i)) (value_of (c.as_bytes.ensures.value i)))
