use Rattle.std.proofs.Common.{map, option_and_then, ap, ◌∙◌}
use Rattle.bz_tree.specs.Rows.{part_view}
use Rattle.bz_label.specs.Values.{value_of}
use Rattle.bz_attribute.specs.private.Parts.{string_in}
use Rattle.bz_attribute.proofs.ListElements.{string_told}
use Rattle.bz_attribute.proofs.Slices.{rest_seen}
use Rattle.bz_attribute.proofs.head.name_text.Goals as goal

pub returns : goal.returns
returns c s r h =
    ap (option_and_then value_of) (c.string_in.ensures ∙ ap string_in (rest_seen c.args.parts.now c.in_ok-value.value))
    ∙ string_told s r (map part_view c.args.parts.now) c.in_ok-value.value (c.in_ok-value.ensures.some s r h)
