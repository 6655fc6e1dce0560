use Rattle.std.proofs.Common.{subst, sym, Ok, Err}
use Rattle.bz_devices.specs.declared.limits.Limits.{Limits}
use Rattle.bz_devices.specs.Search.{Searches}
use Rattle.bz_engine.specs.private.Finds.{Finds}
use Rattle.bz_engine.proofs.Finds.{finds_as, finds_no}
use Rattle.bz_engine.proofs.session.read_more.Goals as goal

pub returns-in-Ok-clause-finds : goal.returns-in-Ok-clause-finds
returns-in-Ok-clause-finds g c =
    let searches = subst (λ (l : Limits). Searches g.S.Source.gave g.S.Source.failures l c.args.source.now c.read_where_open.new.source c.args.ahead.now c.read_where_open.new.ahead (Ok c.in-Ok.read)) c.limits.ensures c.in-Ok.ensures.searches in
    finds_as _ _ c.args.search.options _ c.in-Ok.read _ _ _ _ _ searches

pub returns-in-Err-clause-finds : goal.returns-in-Err-clause-finds
returns-in-Err-clause-finds g c =
    let searches = subst (λ (l : Limits). Searches g.S.Source.gave g.S.Source.failures l c.args.source.now c.read_where_open.new.source c.args.ahead.now c.read_where_open.new.ahead (Err c.in-Err.fault)) c.limits.ensures c.in-Err.ensures.searches in
    subst (λ fault. Finds g.S.Source.gave g.S.Source.failures c.args.search.options c.args.search.line c.args.source.now c.read_where_open.new.source c.args.ahead.now c.read_where_open.new.ahead (Err fault))
    (sym c.fault_at.ensures) (finds_no _ _ c.args.search.options _ c.in-Err.fault _ _ _ _ searches)
