use Rattle.std.proofs.Common.{true, Some, ◌∙◌, sym, ap, subst, Ok, Err}
use Rattle.std.specs.Prelude.{IfNone}
use Rattle.std.proofs.lemmas.Result.{err_from_is_err_and}
use Rattle.bz_engine.specs.private.Edits.{DoesNothing}
use Rattle.bz_engine.specs.private.Finds.{Finds}
use Rattle.bz_engine.specs.Progress.{Progress}
use Rattle.bz_engine.specs.SessionValue.{SessionValue}
use Rattle.bz_engine.proofs.Finds.{finds_nothing, finds_memory}
use Rattle.bz_engine.proofs.session.Session.edit_here_or_by_lines.Goals as goal

pub returns-in_err-next-clause-finds : goal.returns-in_err-next-clause-finds
returns-in_err-next-clause-finds g c =
    let p = err_from_is_err_and c.from_residual.result c.from_residual.ensures.1 in
    let v = c.args.self.now in
    subst (λ a. Finds g.S.Source.gave g.S.Source.failures v.options v.progress.line c.args.source.now c.args.source.now v.ahead a c.from_residual.result)
    (sym (ap (λ x. x.ahead) c.edit_ahead.ensures.same))
    (finds_memory _ _ _ _ true _ _ _ _ _ (p.1 ∙ ap Err p.2)
    (finds_nothing _ _ _ _ true _ _ (g.met.S.Source.gave_nothing _) c.requires.made c.requires.bound))

pub returns-in-Some-clause-finds : goal.returns-in-Some-clause-finds
returns-in-Some-clause-finds g c =
    let v = c.args.self.now in
    subst (λ a. Finds g.S.Source.gave g.S.Source.failures v.options v.progress.line c.args.source.now c.args.source.now v.ahead a (Ok (Some c.in-Some.next)))
    (sym (ap (λ x. x.ahead) c.edit_ahead.ensures.same))
    (finds_nothing _ _ _ _ _ _ _ (g.met.S.Source.gave_nothing _) c.requires.made c.requires.bound)

pub returns-in-None-clause-finds : goal.returns-in-None-clause-finds
returns-in-None-clause-finds g c =
    let v = c.args.self.now in
    let w = c.edit_ahead.new.self in
    let at : Progress → SessionValue = λ p. record v { progress = p } in
    let nothing = subst (λ o. IfNone o (DoesNothing v.progress w.progress c.args.text.now.items c.edit_ahead.new.text.items)) c.in-None.is c.in_ok-next.ensures.none in
    subst (λ x. Finds g.S.Source.gave g.S.Source.failures x.options x.progress.line c.args.source.now c.edit_by_lines.new.source x.ahead c.edit_by_lines.new.self.ahead c.edit_by_lines.result)
    (c.edit_ahead.ensures.same ∙ ap at nothing.0) c.edit_by_lines.ensures.finds
