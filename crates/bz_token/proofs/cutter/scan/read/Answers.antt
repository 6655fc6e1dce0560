use Rattle.std.proofs.Common.{◌≡◌, ◌∙◌, get_or, sym, ap, arith}
use Rattle.bz_token.specs.private.CutSteps.{next}
use Rattle.bz_token.proofs.CutDepth.{next_depth}
use Rattle.bz_token.proofs.CutQuiet.{read_step}
use Rattle.bz_token.proofs.cutter.scan.read.Goals as goal

pub loop-at-preserved : goal.loop-at-preserved
loop-at-preserved c =
    let at = c.loop-at.at in
    let scan = c.loop-at.scan in
    let same : c.advance-scan.result.depth ≡ (next scan (get_or c.args.bytes.now at 0)).depth = ap (λ s. s.depth) c.advance-scan.ensures in
    record {
      within = c.same_end-at-in-loop-at.ensures.in_range.1;
      run = sym c.same_end-at-in-loop-at.ensures.same ∙ read_step scan c.advance-scan.result c.args.bytes.now at c.loop-at-test.true c.advance-scan.ensures ∙ c.loop-at.invariant.run;
      depth = omega (arith, same, next_depth scan (get_or c.args.bytes.now at 0), c.loop-at.invariant.depth, c.same_end-at-in-loop-at.ensures.in_range.0);
    }
