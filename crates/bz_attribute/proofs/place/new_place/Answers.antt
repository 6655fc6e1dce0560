use Rattle.bz_attribute.proofs.PlaceFound.{place_new}
use Rattle.std.specs.Prelude.{map}
use Rattle.bz_tree.specs.Rows.{part_view}
use Rattle.bz_attribute.proofs.place.new_place.Goals as goal

pub returns-clause-place : goal.returns-clause-place
returns-clause-place c name s r h none = place_new name s r (map part_view c.args.parts.now) c.arguments_end-end.result h none c.arguments_end-end.ensures.end
