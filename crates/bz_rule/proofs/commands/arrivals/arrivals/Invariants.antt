use Rattle.std.proofs.Common.{◌≡◌, ◌-◌, ◌≤◌, length, map}
use Rattle.bz_tree.specs.Rows.{part_view}
use Rattle.bz_rule.specs.private.ListPlaces.{AreWithin}
use Rattle.bz_rule.proofs.Arriving.{AreArriving}
use Rattle.bz_rule.specs.private.StringEdits.{means}
use Rattle.bz_rule.proofs.commands.arrivals.arrivals.Given as goal

abbrev pub invariant-loop-element : goal.invariant-loop-element
invariant-loop-element l = record {
  within : l.at ≤ length l.parts;
  places : AreWithin l.places.items (length l.parts);
  home : l.there.home.now ≡ l.edit.env.home.now;
  arriving : AreArriving l.edit.env.home.now (means l.edit) l.fn.lists (map part_view l.parts) l.at l.there l.places.items;
}

abbrev pub decreases-loop-element : goal.decreases-loop-element
decreases-loop-element l = length l.parts - l.at
