use Rattle.std.proofs.Common.{◌∙◌, ap, not}
use Rattle.bz_passes.specs.declared.pass.Pass.{Pass}
use Rattle.bz_passes.specs.Asked.{may_mark}
use Rattle.bz_passes.proofs.PassedBy.{none_from_start, passed_by}
use Rattle.bz_passes.proofs.script.passes_by.Goals as goal

pub returns-clause-is : goal.returns-clause-is
returns-clause-is g c =
    none_from_start {X = Pass g.row.L-Target.Denot g.row.L-Command.Denot} (λ pass. may_mark c.args.key (g.L.Target.Keyed.asked pass.target)) c.args.passes.now c.first.result c.is_none.result
    c.first.ensures c.is_none.ensures

pub returns-clause-law : goal.returns-clause-law
returns-clause-law g c is slot has =
    passed_by (g.L.Language.meaning c.args.language.now) (g.L.Language.changes c.args.language.now) (g.L.Language.fails c.args.language.now) g.L.Target.Keyed.asked c.args.passes.now slot c.args.key c.first.result
    c.first.ensures (c.is_none.ensures ∙ ap not is) has
