use Rattle.std.proofs.Common.{◌≡◌, ◌++◌, ℕ, List, drop, map}
use Rattle.std.specs.List.{concat}
use Rattle.bz_tree.specs.Rows.{part_view, segs_parts}
use Rattle.bz_tree.specs.Tree.{Segment, segs_of}
use Rattle.bz_canonical.specs.SealedRules.{shown}
use Rattle.bz_canonical.specs.Spans.{AreSpans, kept}
use Rattle.bz_canonical.specs.private.Listed.{AreReadEach}
use Rattle.bz_canonical.proofs.ListedArguments.{AreListsLeft}
use Rattle.bz_canonical.proofs.listed.put_lists.Given as goal

abbrev pub invariant-loop-span : goal.invariant-loop-span
invariant-loop-span l = (names : List (List ℕ)) (from start : ℕ) (args : List Segment) (stands : List (List ℕ)) (after : List ℕ) → AreSpans names from start args stands l.spans
    → drop from l.chunk ≡ concat stands ++ after → AreReadEach l.max_depth stands args
    → AreListsLeft l.max_depth names l.chunk l.all (drop l.span-index l.spans) (map part_view l.parts.items) (map part_view l.initial.parts.items ++ segs_parts (segs_of (kept (shown l.all l.spans) args)))
