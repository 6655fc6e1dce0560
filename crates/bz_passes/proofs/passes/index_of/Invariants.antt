use Rattle.std.proofs.Common.{take}
use Rattle.bz_passes.specs.private.Indexes.{IsIndex}
use Rattle.bz_passes.proofs.passes.index_of.Given as goal

abbrev pub invariant-loop-i : goal.invariant-loop-i
invariant-loop-i g l = IsIndex (λ pass. g.T.Keyed.asked pass.target) (take l.i l.passes) l.index
