use Rattle.std.proofs.Common.{◌∙◌, ap}
use Rattle.bz_passes.specs.declared.pass.Pass.{Pass}
use Rattle.bz_passes.specs.private.Indexes.{positions, asks_for}
use Rattle.bz_passes.proofs.Positions.{rising_list, first_in_list}
use Rattle.bz_passes.proofs.passes.Passes.named_from.Goals as goal

pub first_in-requires : goal.first_in-requires
first_in-requires g c = rising_list {X = Pass g.row.T.Denot g.row.C.Denot} (λ x. asks_for c.args.name.now (g.T.Keyed.asked x.target)) c.self.inside.passes.items c.of_name.result.now (c.of_name.ensures ∙ c.self.invariant.names c.args.name.now)

pub returns : goal.returns
returns g c =
    first_in_list _ c.args.self.now c.of_name.result.now c.args.from c.first_in.result
    (c.of_name.ensures ∙ c.self.invariant.names c.args.name.now ∙ ap (positions _ 0) c.self.view_is) c.first_in.ensures
