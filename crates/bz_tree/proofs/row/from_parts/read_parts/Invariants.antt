use Rattle.std.proofs.Common.{◌≡◌, drop, map}
use Rattle.bz_tree.specs.Rows.{part_view}
use Rattle.bz_tree.specs.FromParts.{steps}
use Rattle.bz_tree.specs.private.PartSteps.{nest}
use Rattle.bz_tree.proofs.row.from_parts.read_parts.Given as goal

abbrev pub invariant-loop-i : goal.invariant-loop-i
invariant-loop-i l = steps (map part_view (drop l.i l.parts)) (nest l.nesting) ≡ steps (map part_view l.parts) (nest l.initial.nesting)
