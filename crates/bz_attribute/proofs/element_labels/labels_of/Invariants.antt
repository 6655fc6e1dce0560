use Rattle.std.proofs.Common.{◌≡◌, ◌-◌, ◌≤◌, length, map}
use Rattle.bz_tree.specs.Rows.{part_view}
use Rattle.bz_attribute.specs.private.ElementSets.{choice}
use Rattle.bz_attribute.proofs.LabelsFound.{HaveLabels}
use Rattle.bz_attribute.proofs.element_labels.labels_of.Given as goal

abbrev pub invariant-loop-element : goal.invariant-loop-element
invariant-loop-element l = record {
  within : l.at ≤ length l.parts;
  home : l.set.home.now ≡ l.home;
  same : HaveLabels l.home (choice l.words) (map part_view l.parts) l.from l.at l.set;
}

abbrev pub decreases-loop-element : goal.decreases-loop-element
decreases-loop-element l = length l.parts - l.at
