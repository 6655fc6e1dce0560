use Rattle.std.proofs.Common.{◌∙◌, ap, arith}
use Rattle.bz_passes.specs.declared.pass.Pass.{Pass}
use Rattle.bz_passes.proofs.Positions.{index_more, whole_index}
use Rattle.bz_passes.proofs.passes.index_of.Goals as goal

pub loop-i-preserved : goal.loop-i-preserved
loop-i-preserved g c =
    index_more {X = Pass g.row.T.Denot g.row.C.Denot} (λ x. g.T.Keyed.asked x.target) c.args.passes.now c.loop-i.i c.index-passes-i.result _ c.loop-i.index c.add.new.self (omega arith) c.index-passes-i.is
    (c.asked.ensures ∙ ap (λ (p : Pass g.row.T.Denot g.row.C.Denot). g.T.Keyed.asked p.target) c.pass.view_is)
    c.loop-i.invariant c.in_ok-add.ensures.names c.in_ok-add.ensures.others

pub returns : goal.returns
returns g c = whole_index _ c.args.passes.now c.loop-i.i c.loop-i.index (omega arith) c.loop-i.invariant
