use Rattle.std.proofs.Common.{◌≡◌, ◌≤◌, ◌++◌, ℕ, List, length, map, drop}
use Rattle.bz_tree.specs.Rows.{part_view, segs_parts}
use Rattle.bz_tree.specs.Tree.{Segment, segs_of}
use Rattle.bz_canonical.specs.Canonical.{argument_lines}
use Rattle.bz_canonical.specs.SealedRules.{are_asked, sealed_args}
use Rattle.bz_canonical.specs.Spans.{AreSpans, kept}
use Rattle.bz_canonical.proofs.SealedArguments.{AreToPut}
use Rattle.bz_canonical.proofs.sealed.put_arguments.Given as goal

abbrev pub invariant-loop-rest : goal.invariant-loop-rest
invariant-loop-rest l = (l.at ≤ length l.asked) × ((names : List (List ℕ)) (from : ℕ) (args : List Segment) (stands : List (List ℕ)) (after : List ℕ) → AreSpans names from l.first args stands l.rule.spans.now
    → drop l.first l.rule.written.now ≡ argument_lines args ++ after → map part_view l.asked ≡ segs_parts (segs_of (kept (are_asked l.rule.spans.now) args))
    → AreToPut names l.rule.written.now l.start l.rest (map part_view (drop l.at l.asked)) (map part_view l.parts.items) (map part_view l.initial.parts.items ++ segs_parts (segs_of (sealed_args (are_asked l.rule.spans.now) args))))

abbrev pub decreases-loop-rest : goal.decreases-loop-rest
decreases-loop-rest l = length l.rest
