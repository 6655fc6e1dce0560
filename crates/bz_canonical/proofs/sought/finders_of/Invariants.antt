use Rattle.std.proofs.Common.{◌≡◌, take}
use Rattle.bz_canonical.proofs.sought.finders_of.Given as goal

abbrev pub invariant-loop-part : goal.invariant-loop-part
invariant-loop-part l = l.finders.items ≡ take l.part-index l.parts
