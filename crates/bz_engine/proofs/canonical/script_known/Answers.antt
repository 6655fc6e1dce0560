use Rattle.std.proofs.Common.{ℕ, List, sym, ap, subst, ◌∙◌}
use Rattle.std.specs.Global.{Global}
use Rattle.std.specs.Prelude.{Vec}
use Rattle.std.proofs.lemmas.Result.{IfOk-weaker}
use Rattle.bz_passes.specs.Exchange.{Fits}
use Rattle.bz_engine.specs.Progress.{Progress}
use Rattle.bz_engine.specs.private.Edits.{DoesNothing, run_of}
use Rattle.bz_engine.specs.private.Found.{IsFoundOn}
use Rattle.bz_engine.proofs.ChunkEdits.{passed_by}
use Rattle.bz_engine.proofs.Placed.{unplaced_found}
use Rattle.bz_engine.proofs.SealedEdits.{found_then, laid_found}
use Rattle.bz_engine.proofs.canonical.script_known.Goals as goal
use Rattle.bz_engine.proofs.canonical.script_known.Goals.{in-Alone+in_ok-copy_answered-in-Alone+else-branch, in-Unknown}

pub returns-then-is_passed_by : goal.returns-then-is_passed_by
returns-then-is_passed_by c =
    let run = run_of c.args.script in
    let found = c.args.found.now in
    let old = c.args.progress.now in
    let put = c.in_ok-put_canonical.ensures in
    laid_found run found old c.put_canonical.new.progress c.args.text.now.items c.put_canonical.new.text.items
    (subst (λ (p : Progress). Fits p.kept run.passes) (sym put.last) c.requires.fits) (ap (λ (p : Progress). p.line) put.last) (λ s is.
    passed_by run found.chunk.class s old c.put_canonical.new.progress c.args.text.now.items c.put_canonical.new.text.items
    (c.is_passed_by.ensures c.if-is_passed_by.true s is.is) (sym is.is.class_is) put.last (put.text s is.is.class_is is.is.written))

pub returns-in-Unmarked : goal.returns-in-Unmarked
returns-in-Unmarked c =
    let run = run_of c.args.script in
    let found = c.args.found.now in
    let old = c.args.progress.now in
    let put = c.in_ok-put_canonical-in-Unmarked.ensures in
    laid_found run found old c.put_canonical-in-Unmarked.new.progress c.args.text.now.items c.put_canonical-in-Unmarked.new.text.items
    (subst (λ (p : Progress). Fits p.kept run.passes) (sym put.last) c.requires.fits) (ap (λ (p : Progress). p.line) put.last) (λ s is.
    let here = subst (λ n. IsFoundOn run.max_depth n found s) (sym (ap (λ (p : Progress). p.line) c.progress.view_is)) is in
    passed_by run found.chunk.class s old c.put_canonical-in-Unmarked.new.progress c.args.text.now.items c.put_canonical-in-Unmarked.new.text.items
    (c.in-Unmarked.ensures s (unplaced_found run.max_depth _ found s here)) (sym is.is.class_is) put.last (put.text s is.is.class_is is.is.written))

pub returns-then-found : goal.returns-then-found
returns-then-found c =
    let run = run_of c.args.script in
    let old = c.args.progress.now in
    let mid = c.match-find_marking.progress in
    let before : List ℕ = c.args.text.now.items in
    let between : List ℕ = c.match-find_marking.text.items in
    let nothing : DoesNothing old mid before between = elim c.match-find_marking.branch [
      | in-Alone+in_ok-copy_answered-in-Alone+else-branch w ↦ (let none = w.in_ok-copy_answered-in-Alone.ensures.nothing w.if-branch.false in (w.progress-is ∙ none.0, ap (λ (t : Vec ℕ Global). t.items) w.text-is ∙ none.1))
      | in-Unknown w ↦ (w.progress-is, ap (λ (t : Vec ℕ Global). t.items) w.text-is)
    ] in
    IfOk-weaker c.edit_sealed.result _ _ (λ answer is. found_then run c.args.found.now old mid c.edit_sealed.new.progress before between c.edit_sealed.new.text.items answer nothing is) c.edit_sealed.ensures
