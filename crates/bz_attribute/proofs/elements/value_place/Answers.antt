use Rattle.std.proofs.Common.{map, arith}
use Rattle.std.proofs.lemmas.List.{length-map}
use Rattle.bz_tree.specs.Rows.{part_view}
use Rattle.bz_attribute.proofs.ListElements.{value_there, value_within}
use Rattle.bz_attribute.proofs.elements.value_place.Goals as goal

pub returns-clause-some : goal.returns-clause-some
returns-clause-some c = λ s r h.
    let ps = map part_view c.args.parts.now in
    let at = c.in_ok-at.at in
    let found = c.in_ok-at.ensures.found s r h in
    value_there c.args.name.now s r ps at c.min.result h found (omega (arith, c.min.ensures, c.value_at.ensures, value_within c.args.name.now s r ps at h found, length-map c.args.parts.now part_view))
