use Rattle.std.proofs.Common.{List, subst}
use Rattle.bz_passes.specs.declared.pass.Pass.{Pass}
use Rattle.bz_passes.specs.private.Indexes.{IsIndex}
use Rattle.bz_passes.proofs.passes.Passes.new.Goals as goal

pub invariant_of-result : goal.invariant_of-result
invariant_of-result g c =
    subst (λ (xs : List (Pass g.row.T.Denot g.row.C.Denot)). IsIndex (λ pass. g.T.Keyed.asked pass.target) xs c.in_ok-index.index) c.as_slice.ensures.value c.in_ok-index.ensures
