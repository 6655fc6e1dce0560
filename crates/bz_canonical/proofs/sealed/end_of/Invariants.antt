use Rattle.std.proofs.Common.{◌≡◌, drop}
use Rattle.bz_canonical.specs.SealedRules.{last_end}
use Rattle.bz_canonical.proofs.sealed.end_of.Given as goal

abbrev pub invariant-loop-span : goal.invariant-loop-span
invariant-loop-span l = last_end l.end (drop l.span-index l.spans) ≡ last_end l.from l.spans
