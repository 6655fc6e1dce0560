use Rattle.std.proofs.Common.{drop, refl, arith}
use Rattle.std.proofs.lemmas.Grind.{common_steps}
use Rattle.bz_passes.proofs.Steps.{fits_length, told_rest, told_all}
use Rattle.bz_passes.proofs.kept.tell_passes.Goals as goal

pub loop-i-init : goal.loop-i-init
loop-i-init g c = record { size = fits_length _ _ c.requires; log = refl }

pub loop-i-preserved : goal.loop-i-preserved
loop-i-preserved g c =
    let inv = c.loop-i.invariant in
    record {
      size = let s = inv.size in grind (arith, common_steps, s);
      log = told_rest (g.L.Language.meaning c.args.language.now) c.args.passes.now c.loop-i.i c.index-passes-i.result c.loop-i.kept c.index-kept-i.result c.tell_pass.new.kept c.loop-i.log c.tell_pass.new.log _ c.loop-i-test.true
          c.index-passes-i.is (let s = inv.size in omega arith) c.in_ok-tell_pass.ensures inv.log;
    }

pub returns : goal.returns
returns g c = told_all (g.L.Language.meaning c.args.language.now) c.args.passes.now (drop c.loop-i.i c.loop-i.kept) c.loop-i.i c.loop-i.log _ c.loop-i-test.false c.loop-i.invariant.log
