use Rattle.std.proofs.Common.{arith, ◌∙◌}
use Rattle.std.proofs.lemmas.Grind.{common_steps}
use Rattle.bz_canonical.proofs.CutTexts.{name_cut, name_is}
use Rattle.bz_canonical.proofs.sealed.put_name.Goals as goal

pub returns : goal.returns
returns c = λ put name is. let cut = c.in-Some-between.ensures ∙ name_cut name c.args.line.now _ (is ∙ name_is name) (omega (arith, c.in-Some.ensures)) in grind (arith, common_steps, cut)
