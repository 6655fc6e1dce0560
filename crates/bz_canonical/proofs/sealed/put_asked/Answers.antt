use Rattle.std.proofs.Common.{◌++◌, List, map, ap, ◌∙◌}
use Rattle.std.proofs.lemmas.List.{map-append}
use Rattle.bz_tree.specs.Rows.{RowPart, part_view}
use Rattle.bz_canonical.proofs.ArgumentParts.{asked_split}
use Rattle.bz_canonical.proofs.sealed.put_asked.Goals as goal

pub returns-clause-part : goal.returns-clause-part
returns-clause-part c = λ a others is.
    let first = c.first_argument-argument.ensures.argument a others is in
    let both = asked_split a others c.args.asked.now c.first_argument-argument.result.to is first.ends in
    (both.0, ap (map part_view) c.in_ok-extend_from_slice.ensures.items ∙ map-append part_view c.args.parts.now.items _ ∙ ap (λ (t : List RowPart). map part_view c.args.parts.now.items ++ t) both.1)
