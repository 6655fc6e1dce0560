use Rattle.std.proofs.Common.{refl, sym, ap, subst, ◌∙◌}
use Rattle.std.specs.Prelude.{Some}
use Rattle.bz_passes.specs.Exchange.{Fits}
use Rattle.bz_engine.specs.Progress.{Progress}
use Rattle.bz_engine.specs.private.Edits.{run_of}
use Rattle.bz_engine.specs.private.Found.{IsForOne, IsFoundOn, log_of}
use Rattle.bz_engine.proofs.OnlyPass.{is_done_on, log_at, log_fits, on_ok_both, told_laid}
use Rattle.bz_engine.proofs.answered.put_message.Goals as goal

pub keep_message-requires : goal.keep_message-requires
keep_message-requires c = log_at _ c.args.progress.now.kept c.args.script.passes.now c.args.marked.only _ c.requires.only c.requires.fits

pub returns : goal.returns
returns c =
    let old = c.args.progress.now in
    let home = c.args.script.home.now in
    let passes = c.args.script.passes.now in
    let only = c.args.marked.only in
    let found = c.args.marked.found.now in
    let message = c.args.message in
    let one : IsForOne home passes only (IsFoundOn c.args.script.max_depth old.line found) = c.requires.only in
    on_ok_both c.put_canonical.result (λ last following.
    let is = last ∙ ap (λ (p : Progress). record p { last = Some found.chunk.class }) c.in_ok-keep_message.ensures in
    let fits = subst (λ (p : Progress). Fits p.kept passes) (sym is) (log_fits _ old.kept passes only _ (log_of message) one c.requires.fits) in
    is_done_on (run_of c.args.script) found old c.put_canonical.new.progress c.args.text.now.items c.put_canonical.new.text.items
    fits (ap (λ (p : Progress). p.line) is) (λ s on.
    let telling = c.requires.tells.tells c.args.script.max_depth s on.is in
    told_laid (run_of c.args.script) only message found.chunk.class s old c.keep_message.new.self c.put_canonical.new.progress
    c.args.text.now.items c.put_canonical.new.text.items (one.alone s s on telling.made.after_is (λ before target. refl)) c.requires.fits c.requires.tells.goes_on (one.marked s on) telling on.is.class_is
    c.in_ok-keep_message.ensures last (following s on.is.class_is on.is.written))) c.put_canonical.ensures.last c.put_canonical.ensures.text
