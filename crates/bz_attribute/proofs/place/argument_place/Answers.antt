use Rattle.std.proofs.Common.{ℕ, ◌+◌, map, ap, subst, ◌∙◌}
use Rattle.bz_tree.specs.Rows.{part_view}
use Rattle.bz_attribute.specs.RowPlaces.{HasArgument}
use Rattle.bz_attribute.specs.private.Parts.{plain_len, segment_len}
use Rattle.bz_attribute.proofs.PlaceFound.{place_there}
use Rattle.bz_attribute.proofs.Slices.{front_seen, rest_seen}
use Rattle.bz_attribute.proofs.place.argument_place.Goals as goal

pub returns-in-Some-clause-place : goal.returns-in-Some-clause-place
returns-in-Some-clause-place c s r h =
    let at : ℕ = c.in-Some.at in
    place_there c.args.name.now s r (map part_view c.args.parts.now) at _ _ h (subst (HasArgument c.args.name.now s r) c.in-Some.is (c.find_argument.ensures.found s r h))
    (c.comments_begin.ensures.begin ∙ ap plain_len (front_seen c.args.parts.now at))
    (ap (λ (n : ℕ). at + n) (c.segment_len.ensures.len ∙ ap segment_len (rest_seen c.args.parts.now at)))

pub returns-in-None-clause-place : goal.returns-in-None-clause-place
returns-in-None-clause-place c s r h = c.new_place.ensures.place c.args.name.now s r h (subst (HasArgument c.args.name.now s r) c.in-None.is (c.find_argument.ensures.found s r h))
