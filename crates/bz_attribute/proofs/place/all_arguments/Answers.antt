use Rattle.std.specs.Prelude.{map}
use Rattle.std.proofs.Common.{arith}
use Rattle.bz_tree.specs.Rows.{part_view}
use Rattle.bz_attribute.proofs.PlaceFound.{all_ordered, place_all}
use Rattle.bz_attribute.proofs.place.all_arguments.Goals as goal

pub returns-clause-place : goal.returns-clause-place
returns-clause-place c s r h =
    let begin = c.arguments_begin-from.ensures.begin in
    place_all s r _ _ _ h begin (omega (arith, c.max-to.ensures, begin, c.arguments_end.ensures.end, all_ordered s r (map part_view c.args.parts.now) h))
