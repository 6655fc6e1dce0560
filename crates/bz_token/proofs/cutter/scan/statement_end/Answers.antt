use Rattle.std.proofs.Common.{◌≡◌, ◌∙◌, drop, arith, length-drop}
use Rattle.std.proofs.lemmas.List.Sums.{prefix_len-le-length}
use Rattle.bz_token.specs.declared.cutter.scan.CutState.TheVariants.{Plain}
use Rattle.bz_token.specs.declared.cutter.scan.LineKind.TheVariants.{Statement}
use Rattle.bz_token.specs.declared.cutter.marks.Stretch.{Stretch}
use Rattle.bz_token.specs.private.Marks.{passes}
use Rattle.bz_token.specs.private.CutSteps.{at, run}
use Rattle.bz_token.proofs.CutQuiet.{statement_run}
use Rattle.bz_token.proofs.cutter.scan.statement_end.Goals as goal

pub loop-after-init : goal.loop-after-init
loop-after-init c =
    let bytes = c.args.bytes.now in
    let few = prefix_len-le-length (passes Stretch.Statement) (drop c.args.start bytes) in
    record {
      passed = omega (arith, c.mark_from-end.ensures);
      within = omega (arith, c.mark_from-end.ensures, few, length-drop c.args.start bytes, c.requires);
      same = rw c.mark_from-end.ensures (statement_run c.args.depth bytes c.args.start);
    }

pub loop-after-preserved : goal.loop-after-preserved
loop-after-preserved c =
    let bytes = c.args.bytes.now in
    let after = c.in-Some.after in
    let few = prefix_len-le-length (passes Stretch.Statement) (drop after bytes) in
    let rest : run (at Plain c.args.depth Statement) (drop after bytes) ≡ run (at Plain c.args.depth Statement) (drop c.mark_from-end-in-Some.result bytes) =
    rw c.mark_from-end-in-Some.ensures (statement_run c.args.depth bytes after) in
    record {
      passed = omega (arith, c.mark_from-end-in-Some.ensures, c.loop-after.invariant.passed, c.in-Some.ensures.in_range.0);
      within = omega (arith, c.mark_from-end-in-Some.ensures, few, length-drop after bytes, c.in-Some.ensures.in_range.1);
      same = c.loop-after.invariant.same ∙ c.in-Some.ensures.same c.args.depth ∙ rest;
    }
