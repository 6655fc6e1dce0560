use Rattle.std.proofs.Common.{ℕ, List, [], true, refl, ◌∙◌, sym, ap, subst}
use Rattle.std.specs.Prelude.{Option, None, Some, IfSome, option_map}
use Rattle.bz_attribute.specs.Effects.{with_args}
use Rattle.bz_canonical.specs.Canonical.{HasPlace, between}
use Rattle.bz_canonical.specs.declared.place.ArgumentPlace.{ArgumentPlace}
use Rattle.bz_rule.specs.Commands.{args_after}
use Rattle.bz_passes.specs.Exchange.{Fits}
use Rattle.bz_engine.specs.Progress.{Progress}
use Rattle.bz_engine.specs.declared.argument.EditedArgument.{EditedArgument}
use Rattle.bz_engine.specs.private.ArgumentEdits.{EditsLines}
use Rattle.bz_engine.specs.private.Edits.{run_of}
use Rattle.bz_engine.specs.private.Found.{HasLogAt, IsForOne, IsFoundOn}
use Rattle.bz_engine.proofs.ArgumentAnswers.{argument_changes, argument_stays}
use Rattle.bz_engine.proofs.OnlyPass.{grown_laid, is_done_on, laid_as, log_at, log_fits, marked_rule, name_kept, stays_laid}
use Rattle.bz_engine.proofs.marked_rule.edit_argument.Goals as goal

pub keep_line-requires : goal.keep_line-requires
keep_line-requires c =
    subst (λ (p : Progress). HasLogAt p.kept c.args.marked.only.at) (sym c.take_spare-spare.ensures)
    (log_at _ c.args.progress.now.kept c.args.script.passes.now c.args.marked.only _ c.requires.only c.requires.fits)

pub keep_line-requires-in-Some-Lines : goal.keep_line-requires-in-Some-Lines
keep_line-requires-in-Some-Lines c =
    subst (λ (p : Progress). HasLogAt p.kept c.args.marked.only.at) (sym c.take_spare-spare.ensures)
    (log_at _ c.args.progress.now.kept c.args.script.passes.now c.args.marked.only _ c.requires.only c.requires.fits)

pub returns-in_ok-put_canonical-in-Some-Unchanged : goal.returns-in_ok-put_canonical-in-Some-Unchanged
returns-in_ok-put_canonical-in-Some-Unchanged c =
    let old = c.args.progress.now in
    let start = c.take_spare-spare.new.self in
    let end = c.put_canonical.new.progress in
    let depth = c.args.script.max_depth in
    let home = c.args.script.home.now in
    let passes = c.args.script.passes.now in
    let only = c.args.marked.only in
    let one : IsForOne home passes only (IsFoundOn depth old.line c.args.marked.found.now) = c.requires.only in
    let command = only.command.now in
    let attr : List ℕ = c.args.marked.found.now.attr.now in
    let place = c.in-Some.place in
    let put = c.in_ok-put_canonical-in-Some-Unchanged.ensures in
    let is = c.give_back-in-Some-Unchanged.ensures ∙ put.last ∙ ap (λ (p : Progress). record p { last = Some c.args.marked.found.now.chunk.class }) c.in_ok-keep_line-in-Some-Unchanged.ensures in
    let begins = subst (λ (p : Progress). Fits p.kept passes) (sym c.take_spare-spare.ensures) c.requires.fits in
    let fits = subst (λ (p : Progress). Fits p.kept passes) (sym is) (log_fits _ start.kept passes only _ [] one begins) in
    let line = ap (λ (p : Progress). p.line) is ∙ ap (λ (p : Progress). p.line) c.take_spare-spare.ensures in
    is_done_on (run_of c.args.script) c.args.marked.found.now old c.give_back-in-Some-Unchanged.new.self c.args.text.now.items c.put_canonical.new.text.items fits line (λ s on.
    let found = on.is in
    let rule = marked_rule only.target.now s (one.marked s on) in
    let has : HasPlace depth attr s (between place) = subst (λ (o : Option ArgumentPlace). IfSome (option_map between o) (HasPlace depth attr s)) c.in-Some.ensures.place found.has in
    let told = subst (EditsLines depth command home (between place)) c.in-Some-Unchanged.field-0-is
    (subst (λ (o : Option EditedArgument). IfSome o (EditsLines depth command home (between place))) c.in-Some-Unchanged.is c.in_ok-execute_on_lines.ensures) in
    let makes = argument_stays depth command attr home s (between place) c.in-Some.ensures.attr rule has told in
    laid_as (run_of c.args.script) s old start end c.give_back-in-Some-Unchanged.new.self c.args.text.now.items c.put_canonical.new.text.items
    c.take_spare-spare.ensures c.give_back-in-Some-Unchanged.ensures
    (stays_laid (run_of c.args.script) only None c.args.marked.found.now.chunk.class s start c.keep_line.new.self end
    c.args.text.now.items c.put_canonical.new.text.items (one.alone s s on makes.after_is (λ before target. refl)) begins (one.marked s on) makes.after_is makes.done found.class_is
    c.in_ok-keep_line-in-Some-Unchanged.ensures put.last (put.text s found.class_is found.written)))

pub returns-in_ok-put-in-Some-Lines : goal.returns-in_ok-put-in-Some-Lines
returns-in_ok-put-in-Some-Lines c =
    let old = c.args.progress.now in
    let start = c.take_spare-spare.new.self in
    let end = c.put.new.progress in
    let depth = c.args.script.max_depth in
    let home = c.args.script.home.now in
    let passes = c.args.script.passes.now in
    let only = c.args.marked.only in
    let one : IsForOne home passes only (IsFoundOn depth old.line c.args.marked.found.now) = c.requires.only in
    let command = only.command.now in
    let attr : List ℕ = c.args.marked.found.now.attr.now in
    let place = c.in-Some.place in
    let put = c.in_ok-put-in-Some-Lines.ensures in
    let is = c.give_back-in-Some-Lines.ensures ∙ put.last ∙ ap (λ (p : Progress). record p { last = Some c.args.marked.found.now.chunk.class; changed = true }) c.in_ok-keep_line-in-Some-Lines.ensures in
    let begins = subst (λ (p : Progress). Fits p.kept passes) (sym c.take_spare-spare.ensures) c.requires.fits in
    let fits = subst (λ (p : Progress). Fits p.kept passes) (sym is) (log_fits _ start.kept passes only _ [] one begins) in
    let line = ap (λ (p : Progress). p.line) is ∙ ap (λ (p : Progress). p.line) c.take_spare-spare.ensures in
    is_done_on (run_of c.args.script) c.args.marked.found.now old c.give_back-in-Some-Lines.new.self c.args.text.now.items c.put.new.text.items fits line (λ s on.
    let found = on.is in
    let rule = marked_rule only.target.now s (one.marked s on) in
    let has : HasPlace depth attr s (between place) = subst (λ (o : Option ArgumentPlace). IfSome (option_map between o) (HasPlace depth attr s)) c.in-Some.ensures.place found.has in
    let told = subst (EditsLines depth command home (between place)) c.in-Some-Lines.field-0-is
    (subst (λ (o : Option EditedArgument). IfSome o (EditsLines depth command home (between place))) c.in-Some-Lines.is c.in_ok-execute_on_lines.ensures) in
    let t = with_args (args_after command home) s in
    let changed = argument_changes depth command attr home s (between place) c.in-Some-Lines.lines.now c.in-Some.ensures.attr rule has told in
    laid_as (run_of c.args.script) s old start end c.give_back-in-Some-Lines.new.self c.args.text.now.items c.put.new.text.items
    c.take_spare-spare.ensures c.give_back-in-Some-Lines.ensures
    (grown_laid (run_of c.args.script) only c.args.marked.found.now.chunk.class s t start c.keep_line-in-Some-Lines.new.self end
    c.args.text.now.items c.put.new.text.items (one.alone s t on changed.0.after_is (λ later. name_kept command home attr s c.in-Some.ensures.attr (c.in-Some.ensures.name later))) begins (one.marked s on) changed.0 found.class_is
    c.in_ok-keep_line-in-Some-Lines.ensures put.last (put.text t found.class_is changed.1)))
