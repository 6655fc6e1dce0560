use Rattle.std.proofs.Common.{◌≡◌, refl, sym, ◌∙◌, ap}
use Rattle.bz_engine.specs.declared.report.End.{End}
use Rattle.bz_engine.specs.declared.report.End.TheVariants.{Whole, Syntax, FirstFailure}
use Rattle.bz_engine.specs.declared.session.SessionState.{SessionState}
use Rattle.bz_engine.specs.declared.session.SessionState.TheVariants.{Ended, Stopped}
use Rattle.bz_engine.specs.SessionValue.{SessionValue, told_at}
use Rattle.bz_engine.specs.contracts.session.Session.{the_view}
use Rattle.bz_engine.proofs.Runs.{where_ok}
use Rattle.bz_engine.proofs.session.Session.take_report.Goals as goal

-- what is told is the same at each state
told_at_state : (v : SessionValue) (state : SessionState) (end : End) → (let after : SessionValue = record v { state = state } in told_at after end) ≡ told_at v end
told_at_state v state Whole = refl
told_at_state v state (Syntax fault) = refl
told_at_state v state FirstFailure = refl

ended_so : (e f : End) → (let state : SessionState = Ended e in state) ≡ Ended f → e ≡ f
ended_so e f h = cc

pub returns-clause-report : goal.returns-clause-report
returns-clause-report c end is =
    let same : c.in-Ended.end ≡ end = ended_so c.in-Ended.end end (sym c.in-Ended.is ∙ ap (λ v. v.state) c.self.view_is ∙ is) in
    where_ok c.report_at.result (λ report told. told ∙ told_at_state (the_view c.self.inside) Stopped c.in-Ended.end ∙ ap (λ v. told_at v c.in-Ended.end) c.self.view_is ∙ ap (told_at c.args.self.now) same)
    c.report_at.ensures.told
