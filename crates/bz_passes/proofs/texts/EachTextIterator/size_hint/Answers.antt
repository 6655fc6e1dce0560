use Rattle.std.proofs.Common.{◌∙◌, sym, ap, length, arith}
use Rattle.bz_passes.proofs.Cuts.{length-cut}
use Rattle.bz_passes.proofs.texts.EachTextIterator.size_hint.Goals as goal

pub returns-clause-lower : goal.returns-clause-lower
returns-clause-lower c = λ _. omega (arith, sym (length-cut c.self.inside.lens.now c.self.inside.joined.now) ∙ ap length c.self.view_is)

pub returns-clause-upper : goal.returns-clause-upper
returns-clause-upper c = (tt, omega (arith, sym (length-cut c.self.inside.lens.now c.self.inside.joined.now) ∙ ap length c.self.view_is))
