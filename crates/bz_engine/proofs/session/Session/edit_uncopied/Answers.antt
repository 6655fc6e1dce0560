use Rattle.std.proofs.Common.{Bool, subst, Ok, Err}
use Rattle.std.proofs.lemmas.Result.{err_from_is_err_and}
use Rattle.bz_engine.specs.Progress.{Progress}
use Rattle.bz_engine.specs.private.Finds.{Finds}
use Rattle.bz_engine.proofs.Finds.{finds_then, finds_failed}
use Rattle.bz_engine.proofs.session.Session.edit_uncopied.Goals as goal

pub returns-in_err-read_short-clause-finds : goal.returns-in_err-read_short-clause-finds
returns-in_err-read_short-clause-finds g c =
    let p = err_from_is_err_and c.from_residual.result c.from_residual.ensures.1 in
    finds_failed _ _ _ _ _ p.0 c.in_err-read_short.field-0.0 _ _ _ _ p.1 p.2
    (subst (λ v. Finds {T = Bool} g.S.Source.gave g.S.Source.failures v.options v.progress.line c.args.source.now c.read_short.new.source v.ahead c.read_short.new.ahead (Err c.in_err-read_short.field-0.0))
    c.self.view_is c.in_err-read_short.ensures.finds)

pub returns-clause-finds : goal.returns-clause-finds
returns-clause-finds g c =
    finds_then _ _ _ _ c.in_ok-read_short.field-0 _ _ _ _ _ _ _ g.met.S.Source.gave_more
    (subst (λ v. Finds g.S.Source.gave g.S.Source.failures v.options v.progress.line c.args.source.now c.read_short.new.source v.ahead c.read_short.new.ahead (Ok c.in_ok-read_short.field-0))
    c.self.view_is c.in_ok-read_short.ensures.finds)
    (subst (λ v. Finds g.S.Source.gave g.S.Source.failures v.options v.progress.line c.read_short.new.source c.edit_here_or_by_lines.new.source c.read_short.new.ahead c.edit_here_or_by_lines.new.self.ahead c.edit_here_or_by_lines.result)
    c.self.view_is
    (subst (λ (p : Progress). Finds g.S.Source.gave g.S.Source.failures c.self.inside.options p.line c.read_short.new.source c.edit_here_or_by_lines.new.source c.read_short.new.ahead c.edit_here_or_by_lines.new.self.ahead c.edit_here_or_by_lines.result)
    c.in_ok-read_short.ensures.same c.edit_here_or_by_lines.ensures.finds))

pub returns-then-branch-clause-finds : goal.returns-then-branch-clause-finds
returns-then-branch-clause-finds g c =
    finds_then _ _ _ _ c.in_ok-read_short.field-0 _ _ _ _ _ _ _ g.met.S.Source.gave_more
    (subst (λ v. Finds g.S.Source.gave g.S.Source.failures v.options v.progress.line c.args.source.now c.read_short.new.source v.ahead c.read_short.new.ahead (Ok c.in_ok-read_short.field-0))
    c.self.view_is c.in_ok-read_short.ensures.finds)
    (subst (λ v. Finds g.S.Source.gave g.S.Source.failures v.options v.progress.line c.read_short.new.source c.edit_by_lines.new.source c.read_short.new.ahead c.edit_by_lines.new.self.ahead c.edit_by_lines.result)
    c.self.view_is
    (subst (λ (p : Progress). Finds g.S.Source.gave g.S.Source.failures c.self.inside.options p.line c.read_short.new.source c.edit_by_lines.new.source c.read_short.new.ahead c.edit_by_lines.new.self.ahead c.edit_by_lines.result)
    c.in_ok-read_short.ensures.same c.edit_by_lines.ensures.finds))
