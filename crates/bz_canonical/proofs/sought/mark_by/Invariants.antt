use Rattle.std.proofs.Common.{◌≡◌, map, take}
use Rattle.bz_canonical.specs.Sought.{mark}
use Rattle.bz_canonical.proofs.sought.mark_by.Given as goal

abbrev pub invariant-loop-span : goal.invariant-loop-span
invariant-loop-span l = l.all.items ≡ map (mark l.unsure l.fn.parts l.chunk) (take l.span-index l.spans)
