use Rattle.std.proofs.Common.{◌≡◌, ◌++◌, map, take}
use Rattle.bz_tree.specs.Rows.{part_view}
use Rattle.bz_rule.specs.private.ListPlaces.{parts_at}
use Rattle.bz_rule.proofs.commands.moving.push_places.Given as goal

abbrev pub invariant-loop-place : goal.invariant-loop-place
invariant-loop-place l = map part_view l.written.items ≡ map part_view l.initial.written.items ++ parts_at (map part_view l.fn.parts) (take l.place-index l.fn.places)
