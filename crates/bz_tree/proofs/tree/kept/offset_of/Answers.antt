use Rattle.std.proofs.Common.{◌≡◌, drop, ap, ◌∙◌, arith}
use Rattle.bz_tree.specs.private.BlockSteps.{offset_run}
use Rattle.bz_tree.proofs.Trees.KeptText.{offset_here}
use Rattle.bz_tree.proofs.tree.kept.offset_of.Goals as goal

pub returns-then-at_col-col : goal.returns-then-at_col-col
returns-then-at_col-col c =
    let rest = drop c.loop-byte.byte-index c.args.bytes.now in
    let here : offset_run c.args.line c.args.col c.loop-byte.at_line c.loop-byte.at_col rest ≡ 0 =
    ap (λ l. offset_run c.args.line c.args.col l c.loop-byte.at_col rest) c.if-at_line-line.true ∙ ap (λ k. offset_run c.args.line c.args.col c.args.line k rest) c.if-at_col-col.true ∙ offset_here c.args.line c.args.col rest in
    omega (arith, here, c.loop-byte.invariant.same)
