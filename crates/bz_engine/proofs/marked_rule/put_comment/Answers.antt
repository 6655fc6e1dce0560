use Rattle.std.proofs.Common.{ℕ, List, [], true, ◌∙◌, sym, ap, subst}
use Rattle.std.specs.Prelude.{Option, Some, IfSome, option_map}
use Rattle.bz_attribute.specs.Effects.{with_args}
use Rattle.bz_canonical.specs.Canonical.{HasPlace, between}
use Rattle.bz_canonical.specs.declared.place.ArgumentPlace.{ArgumentPlace}
use Rattle.bz_rule.specs.Commands.{args_after}
use Rattle.bz_passes.specs.Exchange.{Fits}
use Rattle.bz_engine.specs.Progress.{Progress}
use Rattle.bz_engine.specs.private.Edits.{run_of}
use Rattle.bz_engine.specs.private.Found.{IsForOne, IsFoundOn}
use Rattle.bz_engine.proofs.ArgumentAnswers.{comment_changes}
use Rattle.bz_engine.proofs.OnlyPass.{grown_laid, is_done_on, log_at, log_fits, marked_rule, name_kept}
use Rattle.bz_engine.proofs.marked_rule.put_comment.Goals as goal

pub keep_line-requires : goal.keep_line-requires
keep_line-requires c = log_at _ c.args.progress.now.kept c.args.script.passes.now c.args.marked.only _ c.requires.only c.requires.fits

pub returns : goal.returns
returns c =
    let old = c.args.progress.now in
    let end = c.put.new.progress in
    let depth = c.args.script.max_depth in
    let home = c.args.script.home.now in
    let passes = c.args.script.passes.now in
    let only = c.args.marked.only in
    let one : IsForOne home passes only (IsFoundOn depth old.line c.args.marked.found.now) = c.requires.only in
    let command = only.command.now in
    let attr : List ℕ = c.args.marked.found.now.attr.now in
    let comment = c.args.comment in
    let place = c.in-Some.place in
    let at = c.in-Some-comment_place.at in
    let put = c.in_ok-put.ensures in
    let is = put.last ∙ ap (λ (p : Progress). record p { last = Some c.args.marked.found.now.chunk.class; changed = true }) c.in_ok-keep_line.ensures in
    let fits = subst (λ (p : Progress). Fits p.kept passes) (sym is) (log_fits _ old.kept passes only _ [] one c.requires.fits) in
    is_done_on (run_of c.args.script) c.args.marked.found.now old end c.args.text.now.items c.put.new.text.items fits (ap (λ (p : Progress). p.line) is) (λ s on.
    let found = on.is in
    let rule = marked_rule only.target.now s (one.marked s on) in
    let has : HasPlace depth attr s (between place) = subst (λ (o : Option ArgumentPlace). IfSome (option_map between o) (HasPlace depth attr s)) c.in-Some.ensures.place found.has in
    let t = with_args (args_after command home) s in
    let changed = comment_changes command attr comment.attr.now comment.text.now home s at.above.now at.below.now c.as_bytes.result.now c.in-Some.ensures.attr rule c.requires.comment
    (c.as_bytes.ensures.value ∙ c.in_ok-line.ensures) (c.in-Some-comment_place.ensures depth attr s found.written has) in
    grown_laid (run_of c.args.script) only c.args.marked.found.now.chunk.class s t old c.keep_line.new.self end c.args.text.now.items c.put.new.text.items
    (one.alone s t on changed.0.after_is (λ later. name_kept command home attr s c.in-Some.ensures.attr (c.in-Some.ensures.name later))) c.requires.fits (one.marked s on) changed.0 found.class_is
    c.in_ok-keep_line.ensures put.last (put.text t found.class_is changed.1))
