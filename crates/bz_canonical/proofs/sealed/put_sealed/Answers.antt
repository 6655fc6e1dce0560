use Rattle.std.proofs.Common.{arith, ◌∙◌}
use Rattle.std.proofs.lemmas.Grind.{common_steps}
use Rattle.std.proofs.lemmas.Result.{IfOk-weaker}
use Rattle.bz_layout.specs.Pieces.{bytes_of, suffix_piece}
use Rattle.bz_canonical.proofs.CutTexts.{inner_cut}
use Rattle.bz_canonical.proofs.sealed.put_sealed.Goals as goal

pub returns : goal.returns
returns c = IfOk-weaker c.put_beside.result _ _ (λ put h yes inner suffix is at. let cut = inner_cut inner (bytes_of (suffix_piece suffix)) c.args.lines.now c.args.comma is at in let side = h yes 44 suffix (c.in-Some-split_at_checked.ensures.back ∙ cut.1) in grind (arith, common_steps, cut, side)) c.put_beside.ensures
