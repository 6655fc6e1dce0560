use Rattle.std.proofs.Common.{◌∙◌, ap, is_none}
use Rattle.bz_passes.specs.declared.pass.Pass.{Pass}
use Rattle.bz_passes.specs.private.Indexes.{positions}
use Rattle.bz_passes.proofs.Positions.{rising_list, first_in_list}
use Rattle.bz_passes.proofs.passes.Passes.other_from.Goals as goal

pub first_in-requires : goal.first_in-requires
first_in-requires g c = rising_list {X = Pass g.row.T.Denot g.row.C.Denot} (λ x. is_none (g.T.Keyed.asked x.target)) c.self.inside.passes.items c.as_slice.result.now (c.as_slice.ensures.value ∙ c.self.invariant.others)

pub returns : goal.returns
returns g c =
    first_in_list _ c.args.self.now c.as_slice.result.now c.args.from c.first_in.result
    (c.as_slice.ensures.value ∙ c.self.invariant.others ∙ ap (positions _ 0) c.self.view_is) c.first_in.ensures
