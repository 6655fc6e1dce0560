use Rattle.std.proofs.Common.{◌≡◌, ◌≤◌, length, drop, map}
use Rattle.bz_tree.specs.Rows.{part_view}
use Rattle.bz_layout.specs.private.RowLayout.{scan_onto, scanned}
use Rattle.bz_layout.proofs.marks.marks_of.Given as goal

abbrev pub invariant-loop-i : goal.invariant-loop-i
invariant-loop-i l = record {
  within : l.i ≤ length l.parts;
  same : scanned l.walk ≡ scan_onto (map part_view (drop l.i l.parts)) (scanned l.initial.walk);
}

abbrev pub decreases-loop-i : goal.decreases-loop-i
decreases-loop-i l = l.i
