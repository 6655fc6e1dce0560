use Rattle.std.proofs.Common.{◌≡◌, ◌+◌, ◌-◌, ◌++◌, ◌∙◌, suc, ap, append_assoc, arith}
use Rattle.std.specs.Prelude.{codes}
use Rattle.bz_layout.specs.Pieces.{indent}
use Rattle.bz_canonical.proofs.otherwise.put_line.Goals as goal

pub loop-preserved : goal.loop-preserved
loop-preserved c =
    let left = c.args.level - (c.loop.counter + 1) in
    let more : suc left ≡ c.args.level - c.loop.counter = omega (arith, c.loop-test.true) in
    let before = c.loop.written.items in
    ap (λ t. t ++ indent left) (c.in_ok-extend_from_slice.ensures.items ∙ ap (λ t. before ++ t) c.as_slice.ensures)
    ∙ append_assoc before (codes "    ") (indent left) ∙ ap (λ n. before ++ indent n) more ∙ c.loop.invariant
