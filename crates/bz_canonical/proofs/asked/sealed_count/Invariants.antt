use Rattle.std.proofs.Common.{◌≡◌, ◌≤◌, ◌+◌, drop}
use Rattle.bz_canonical.specs.SealedRules.{are_asked, count_sealed}
use Rattle.bz_canonical.proofs.asked.sealed_count.Given as goal

abbrev pub invariant-loop-span : goal.invariant-loop-span
invariant-loop-span l = (l.count + count_sealed (are_asked (drop l.span-index l.spans)) ≡ count_sealed (are_asked l.spans)) × (l.count ≤ l.span-index)
