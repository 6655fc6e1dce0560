use Rattle.std.proofs.Common.{[], true, refl, ◌∙◌, sym, ap, subst}
use Rattle.std.specs.Prelude.{Some}
use Rattle.bz_attribute.specs.Effects.{with_args}
use Rattle.bz_rule.specs.Commands.{args_after}
use Rattle.bz_passes.specs.Exchange.{Fits}
use Rattle.bz_engine.specs.Progress.{Progress}
use Rattle.bz_engine.specs.private.Edits.{run_of}
use Rattle.bz_engine.specs.private.Found.{IsForOne, IsFoundOn}
use Rattle.bz_engine.proofs.Gone.{gone_name_kept, remove_changes}
use Rattle.bz_engine.proofs.OnlyPass.{grown_laid, is_done_on, log_at, log_fits, marked_rule}
use Rattle.bz_engine.proofs.marked_rule.put_gone.Goals as goal

pub keep_line-requires : goal.keep_line-requires
keep_line-requires c = log_at _ c.args.progress.now.kept c.args.script.passes.now c.args.marked.only _ c.requires.only c.requires.fits

pub returns : goal.returns
returns c =
    let old = c.args.progress.now in
    let end = c.put.new.progress in
    let depth = c.args.script.max_depth in
    let home = c.args.script.home.now in
    let passes = c.args.script.passes.now in
    let only = c.args.marked.only in
    let one : IsForOne home passes only (IsFoundOn depth old.line c.args.marked.found.now) = c.requires.only in
    let command = only.command.now in
    let attr = c.args.attr.now in
    let place = c.in-Some.place in
    let put = c.in_ok-put.ensures in
    let is = put.last ∙ ap (λ (p : Progress). record p { last = Some c.args.marked.found.now.chunk.class; changed = true }) c.in_ok-keep_line.ensures in
    let fits = subst (λ (p : Progress). Fits p.kept passes) (sym is) (log_fits _ old.kept passes only _ [] one c.requires.fits) in
    is_done_on (run_of c.args.script) c.args.marked.found.now old end c.args.text.now.items c.put.new.text.items fits (ap (λ (p : Progress). p.line) is) (λ s on.
    let t = with_args (args_after command home) s in
    let changed = remove_changes command attr home s place.before.now place.after.now [] c.requires.gone refl (marked_rule only.target.now s (one.marked s on)) (c.in-Some.ensures depth s on.is (c.has_once_by_spans.ensures c.if-not-has_once_by_spans.false old.line s on)) in
    grown_laid (run_of c.args.script) only c.args.marked.found.now.chunk.class s t old c.keep_line.new.self end c.args.text.now.items c.put.new.text.items
    (one.alone s t on changed.0.after_is (λ later. gone_name_kept command home attr s c.requires.gone (sym c.eq.ensures ∙ c.if-eq.false))) c.requires.fits (one.marked s on) changed.0 on.is.class_is
    c.in_ok-keep_line.ensures put.last (put.text t on.is.class_is changed.1))
