use Rattle.std.proofs.Common.{ap, subst, sym}
use Rattle.bz_passes.specs.Exchange.{Fits}
use Rattle.bz_engine.specs.Progress.{Progress}
use Rattle.bz_engine.specs.private.Edits.{run_of}
use Rattle.bz_engine.specs.private.Found.{IsFoundOn, IsRuleFound}
use Rattle.bz_engine.proofs.ChunkEdits.{passed_by}
use Rattle.bz_engine.proofs.SealedEdits.{laid_found}
use Rattle.bz_engine.proofs.SealedRows.{sealed_of}
use Rattle.bz_engine.proofs.sealed.edit_sealed.Goals as goal

pub returns-then-is_passed_by : goal.returns-then-is_passed_by
returns-then-is_passed_by c =
    let run = run_of c.args.script in
    let found = c.args.found.now in
    let old = c.args.progress.now in
    let put = c.in_ok-put_canonical.ensures in
    laid_found run found old c.put_canonical.new.progress c.args.text.now.items c.put_canonical.new.text.items
    (subst (λ (p : Progress). Fits p.kept run.passes) (sym put.last) c.requires.fits) (ap (λ (p : Progress). p.line) put.last) (λ s is.
    let here = subst (λ n. IsFoundOn run.max_depth n found s) (sym (ap (λ p. p.line) c.progress.view_is)) is in
    let known = sealed_of c.progress.inside.line run found c.in-Some.noted c.requires.spans c.requires.noted c.in-Some.ensures s here in
    passed_by run found.chunk.class s old c.put_canonical.new.progress c.args.text.now.items c.put_canonical.new.text.items
    (c.is_passed_by.ensures c.if-is_passed_by.true s known.head) (sym is.is.class_is) put.last (put.text s is.is.class_is is.is.written))

pub edit_noted-requires-clause-rule : goal.edit_noted-requires-clause-rule
edit_noted-requires-clause-rule c = subst (λ n. IsRuleFound n c.args.found.now c.in-Some.noted) (ap (λ p. p.line) c.progress.view_is) c.in-Some.ensures
