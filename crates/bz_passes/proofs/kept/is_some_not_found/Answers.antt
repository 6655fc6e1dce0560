use Rattle.std.proofs.Common.{◌||◌, ◌+◌, drop, sym, refl, ap, ◌∙◌, arith}
use Rattle.bz_passes.specs.Exchange.{some_not_found}
use Rattle.bz_passes.proofs.Steps.{fits_length, not_found_here, none_after}
use Rattle.bz_passes.proofs.kept.is_some_not_found.Goals as goal

pub loop-i-init : goal.loop-i-init
loop-i-init g c = record { size = fits_length _ _ c.requires; rest = refl }

pub loop-i-preserved : goal.loop-i-preserved
loop-i-preserved g c =
    let meaning = g.L.Language.meaning c.args.language.now in
    let passes = c.args.passes.now in
    let kept = c.args.kept.now in
    let i = c.loop-i.i in
    let inv = c.loop-i.invariant in
    let here = not_found_here meaning passes kept i c.index-passes-i.result c.index-kept-i.result c.loop-i-test.true (let s = inv.size in omega arith) c.index-passes-i.is c.index-kept-i.is in
    record {
      size = inv.size;
      rest = ap (λ missing. missing || some_not_found meaning (drop (i + 1) passes) (drop (i + 1) kept)) c.if-target_is_missing.ensures ∙ sym here ∙ inv.rest;
    }

pub returns-then-target_is_missing : goal.returns-then-target_is_missing
returns-then-target_is_missing g c =
    let meaning = g.L.Language.meaning c.args.language.now in
    let passes = c.args.passes.now in
    let kept = c.args.kept.now in
    let i = c.loop-i.i in
    let inv = c.loop-i.invariant in
    let here = not_found_here meaning passes kept i c.index-passes-i.result c.index-kept-i.result c.loop-i-test.true (let s = inv.size in omega arith) c.index-passes-i.is c.index-kept-i.is in
    ap (λ missing. missing || some_not_found meaning (drop (i + 1) passes) (drop (i + 1) kept)) c.if-target_is_missing.ensures ∙ sym here ∙ inv.rest

pub returns : goal.returns
returns g c = sym (none_after (g.L.Language.meaning c.args.language.now) c.args.passes.now (drop c.loop-i.i c.args.kept.now) c.loop-i.i c.loop-i-test.false) ∙ c.loop-i.invariant.rest
