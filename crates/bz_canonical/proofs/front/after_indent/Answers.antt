use Rattle.std.proofs.Common.{◌≡◌, ◌+◌, ◌++◌, ◌∷◌, suc, ap, arith, ◌∙◌, refl}
use Rattle.bz_layout.specs.Pieces.{indent}
use Rattle.bz_canonical.proofs.front.after_indent.Goals as goal

pub loop-i-preserved : goal.loop-i-preserved
loop-i-preserved c = λ m tail is.
    let more : c.loop-i.i + suc m ≡ c.loop-i.i + 1 + m = omega arith in
    c.loop-i.invariant (suc m) tail (c.in_ok-rest.ensures ∙ ap (λ xs. 32 ∷ 32 ∷ 32 ∷ 32 ∷ xs) is) ∙ ap (λ k. indent k ++ tail) more

pub returns : goal.returns
returns c =
    let all : c.loop-i.i + 0 ≡ c.args.level = omega (arith, c.loop-i-test.false, c.loop-i.auto.i-end) in
    c.loop-i.invariant 0 c.loop-i.rest.now refl ∙ ap (λ k. indent k ++ c.loop-i.rest.now) all
