use Rattle.std.proofs.Common.{◌≡◌, ◌++◌, ℕ, List, drop, codes, string_bytes}
use Rattle.std.specs.List.{concat}
use Rattle.bz_tree.specs.Tree.{Segment}
use Rattle.bz_canonical.specs.SealedRules.{are_asked}
use Rattle.bz_canonical.specs.Spans.{AreSpans, kept}
use Rattle.bz_canonical.proofs.AskedLines.{AreLinesLeft}
use Rattle.bz_canonical.proofs.asked.put_asked_rule.Given as goal

abbrev pub invariant-loop-span : goal.invariant-loop-span
invariant-loop-span l = (names : List (List ℕ)) (from start : ℕ) (args : List Segment) (stands : List (List ℕ)) (after : List ℕ) → AreSpans names from start args stands l.spans
    → drop from l.chunk ≡ concat stands ++ after → AreLinesLeft names l.chunk (drop l.span-index l.spans) (string_bytes l.text) (codes "k(" ++ concat (kept (are_asked l.spans) stands))
