use Rattle.std.proofs.Common.{◌≡◌, ◌++◌, ℕ, List, [], ◌∷◌, true, refl, ◌∙◌, sym, ap, subst, arith, length, tests, if◌then◌else◌}
use Rattle.std.specs.Prelude.{Option, None, Some, IfSome, option_map}
use Rattle.bz_attribute.specs.Effects.{with_args}
use Rattle.bz_canonical.specs.Canonical.{HasPlace, between}
use Rattle.bz_canonical.specs.declared.place.ArgumentPlace.{ArgumentPlace}
use Rattle.bz_rule.specs.Commands.{args_after}
use Rattle.bz_passes.specs.Exchange.{Fits}
use Rattle.bz_engine.specs.Outcome.{is_query}
use Rattle.bz_engine.specs.Progress.{Progress, text_following}
use Rattle.bz_canonical.specs.declared.edited.EditedList.{EditedList}
use Rattle.bz_engine.specs.private.ArgumentEdits.{EditsPlace}
use Rattle.bz_engine.specs.private.Edits.{run_of}
use Rattle.bz_engine.specs.private.Found.{IsForOne, IsFoundOn}
use Rattle.bz_engine.proofs.ArgumentAnswers.{list_changes, list_stays, none_of, put_following}
use Rattle.bz_engine.proofs.OnlyPass.{grown_laid, is_done_on, log_at, log_fits, marked_rule, name_kept, stays_laid}
use Rattle.bz_engine.proofs.marked_rule.edit_long_argument.Goals as goal

pub keep_line-requires : goal.keep_line-requires
keep_line-requires c = log_at _ c.args.progress.now.kept c.args.script.passes.now c.args.marked.only _ c.requires.only c.requires.fits

pub keep_line-requires-in-Some-Written : goal.keep_line-requires-in-Some-Written
keep_line-requires-in-Some-Written c = log_at _ c.args.progress.now.kept c.args.script.passes.now c.args.marked.only _ c.requires.only c.requires.fits

pub returns-in_ok-put_canonical-in-Some-Unchanged : goal.returns-in_ok-put_canonical-in-Some-Unchanged
returns-in_ok-put_canonical-in-Some-Unchanged c =
    let old = c.args.progress.now in
    let end = c.put_canonical.new.progress in
    let depth = c.args.script.max_depth in
    let home = c.args.script.home.now in
    let passes = c.args.script.passes.now in
    let only = c.args.marked.only in
    let one : IsForOne home passes only (IsFoundOn depth old.line c.args.marked.found.now) = c.requires.only in
    let command = only.command.now in
    let attr : List ℕ = c.args.marked.found.now.attr.now in
    let place = c.in-Some.place in
    let before = c.put_gap.new.text.items in
    let written = c.execute_in_place.new.written.items in
    let put = c.in_ok-put_canonical-in-Some-Unchanged.ensures in
    let is = put.last ∙ ap (λ (p : Progress). record p { last = Some c.args.marked.found.now.chunk.class }) c.in_ok-keep_line-in-Some-Unchanged.ensures in
    let fits = subst (λ (p : Progress). Fits p.kept passes) (sym is) (log_fits _ old.kept passes only _ [] one c.requires.fits) in
    let none : length c.args.text.now.items ≡ 0 = grind (arith, tests, c.if-not-is_empty.false, c.is_empty.ensures) in
    let same : c.clear-in-Some-Unchanged.new.self.items ≡ c.args.text.now.items = c.clear-in-Some-Unchanged.ensures.items ∙ sym (none_of c.args.text.now.items none) in
    is_done_on (run_of c.args.script) c.args.marked.found.now old end c.args.text.now.items c.put_canonical.new.text.items fits (ap (λ (p : Progress). p.line) is) (λ s on.
    let found = on.is in
    let rule = marked_rule only.target.now s (one.marked s on) in
    let has : HasPlace depth attr s (between place) = subst (λ (o : Option ArgumentPlace). IfSome (option_map between o) (HasPlace depth attr s)) c.in-Some.ensures.place found.has in
    let told = subst (EditsPlace depth command home (between place) before written) c.in-Some-Unchanged.field-0-is
    (subst (λ (o : Option EditedList). IfSome o (EditsPlace depth command home (between place) before written)) c.in-Some-Unchanged.is c.in_ok-execute_in_place.ensures) in
    let makes = list_stays depth command attr home s (between place) before written c.in-Some.ensures.attr rule has told in
    stays_laid (run_of c.args.script) only None c.args.marked.found.now.chunk.class s old c.keep_line.new.self end
    c.args.text.now.items c.put_canonical.new.text.items (one.alone s s on makes.after_is (λ before target. refl)) c.requires.fits (one.marked s on) makes.after_is makes.done found.class_is
    c.in_ok-keep_line-in-Some-Unchanged.ensures put.last
    (put.text s found.class_is found.written ∙ ap (λ (t : List ℕ). t ++ (if is_query passes then [] else text_following c.keep_line.new.self.last (Some s ∷ []))) same))

pub returns-in_ok-keep_line-in-Some-Written : goal.returns-in_ok-keep_line-in-Some-Written
returns-in_ok-keep_line-in-Some-Written c =
    let old = c.args.progress.now in
    let mid = c.keep_line-in-Some-Written.new.self in
    let depth = c.args.script.max_depth in
    let home = c.args.script.home.now in
    let passes = c.args.script.passes.now in
    let only = c.args.marked.only in
    let one : IsForOne home passes only (IsFoundOn depth old.line c.args.marked.found.now) = c.requires.only in
    let command = only.command.now in
    let attr : List ℕ = c.args.marked.found.now.attr.now in
    let class = c.args.marked.found.now.chunk.class in
    let place = c.in-Some.place in
    let before = c.put_gap.new.text.items in
    let written = c.execute_in_place.new.written.items in
    let ends = ap (λ (p : Progress). record p { last = Some class; changed = true }) c.progress-in-Some-Written.view_is in
    let is = ends ∙ ap (λ (p : Progress). record p { last = Some class; changed = true }) c.in_ok-keep_line-in-Some-Written.ensures in
    let fits = subst (λ (p : Progress). Fits p.kept passes) (sym is) (log_fits _ old.kept passes only _ [] one c.requires.fits) in
    let last = ap (λ (p : Progress). p.last) c.progress.view_is ∙ sym (ap (λ (p : Progress). p.last) c.in_ok-keep_line-in-Some-Written.ensures) in
    is_done_on (run_of c.args.script) c.args.marked.found.now old _ c.args.text.now.items written fits (ap (λ (p : Progress). p.line) is) (λ s on.
    let found = on.is in
    let rule = marked_rule only.target.now s (one.marked s on) in
    let has : HasPlace depth attr s (between place) = subst (λ (o : Option ArgumentPlace). IfSome (option_map between o) (HasPlace depth attr s)) c.in-Some.ensures.place found.has in
    let told = subst (EditsPlace depth command home (between place) before written) c.in-Some-Written.field-0-is
    (subst (λ (o : Option EditedList). IfSome o (EditsPlace depth command home (between place) before written)) c.in-Some-Written.is c.in_ok-execute_in_place.ensures) in
    let t = with_args (args_after command home) s in
    let changed = list_changes depth command attr home s (between place) before written c.in-Some.ensures.attr rule has told in
    grown_laid (run_of c.args.script) only class s t old mid _ c.args.text.now.items written
    (one.alone s t on changed.0.after_is (λ later. name_kept command home attr s c.in-Some.ensures.attr (c.in-Some.ensures.name later))) c.requires.fits (one.marked s on) changed.0 found.class_is
    c.in_ok-keep_line-in-Some-Written.ensures ends
    (put_following (is_query passes) c.args.text.now.items before written c.progress.inside.last mid.last class t (sym c.is_query.ensures ∙ c.if-is_query.false) c.in_ok-put_gap.ensures.gap last found.class_is changed.1))
