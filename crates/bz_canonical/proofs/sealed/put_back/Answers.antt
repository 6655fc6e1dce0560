use Rattle.std.proofs.Common.{arith, refl, ◌∙◌, [], ◌∷◌, ◌++◌, List, ℕ}
use Rattle.std.proofs.lemmas.Grind.{common_steps}
use Rattle.std.proofs.lemmas.Result.{IfOk-weaker}
use Rattle.bz_layout.specs.Pieces.{bytes_of, suffix_piece}
use Rattle.bz_canonical.specs.SealedRules.IsLevel.{inside}
use Rattle.bz_canonical.proofs.CommentRows.{rows_inside}
use Rattle.bz_canonical.proofs.CutTexts.{last_cut, rest_at}
use Rattle.bz_canonical.proofs.sealed.put_back.Goals as goal

pub returns : goal.returns
returns c = IfOk-weaker c.put_beside.result _ _ (λ put h yes end suffix are is.
    let tail : List ℕ = 41 ∷ (bytes_of (suffix_piece suffix) ++ 10 ∷ []) in
    let lines = c.in-Some.ensures.back ∙ rest_at (10 ∷ []) _ c.args.back.now 1 (is ∙ rows_inside end tail) refl in
    let read = (rw c.in-Some-2.is at c.in_ok-rest.ensures) 1 end tail inside are refl lines in
    let side = h yes 41 suffix (c.in-Some-split_at_checked.ensures.front ∙ last_cut (41 ∷ bytes_of (suffix_piece suffix)) 10 c.in-Some-2.rest.now _ read.0 (omega (arith, c.in-Some-checked_sub.ensures))) in
    let done = read.1 in
    grind (arith, common_steps, done, side)) c.put_beside.ensures
