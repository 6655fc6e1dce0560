use Rattle.std.proofs.Common.{arith, ◌∙◌}
use Rattle.std.proofs.lemmas.Grind.{common_steps}
use Rattle.bz_canonical.specs.SealedRules.IsLevel.{outside}
use Rattle.bz_canonical.proofs.CommentRows.{kind_begins, rows_outside}
use Rattle.bz_canonical.proofs.CutTexts.{last_cut}
use Rattle.bz_canonical.proofs.sealed.put_front.Goals as goal

pub returns : goal.returns
returns c = λ put notes kind are word is.
    let read = (rw c.in-Some.is at c.in_ok-rest.ensures) 0 notes _ outside are (kind_begins kind _ word) (is ∙ rows_outside notes _) in
    let cut = c.in-Some-split_at_checked.ensures.front ∙ last_cut kind 40 c.in-Some.rest.now _ read.0 (omega (arith, c.in-Some-checked_sub.ensures)) in
    let done = read.1 in
    grind (arith, common_steps, cut, done)
