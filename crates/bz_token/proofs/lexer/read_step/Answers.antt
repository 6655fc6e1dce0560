use Rattle.std.proofs.Common.{sym, subst}
use Rattle.bz_token.specs.Brackets.{is_inside}
use Rattle.bz_token.specs.private.Scans.{opened}
use Rattle.bz_token.specs.private.Steps.{IsStep, IsBadStep, IsRefused}
use Rattle.bz_token.proofs.Steps.{step_taken, bad_refused, misfit_refused}
use Rattle.bz_token.proofs.lexer.read_step.Goals as goal

pub returns-in-Ok-clause-step : goal.returns-in-Ok-clause-step
returns-in-Ok-clause-step c =
    step_taken c.args.max_depth (opened c.args.brackets.now) c.args.bytes.now c.in-Ok.step (sym c.if-not-is_bracket_byte.ensures)
    (subst (λ inside. IsStep inside c.args.bytes.now c.in-Ok.step) c.is_inside.ensures c.in-Ok.ensures.step)

pub returns-in-Err-clause-fault : goal.returns-in-Err-clause-fault
returns-in-Err-clause-fault c =
    let place = c.args.place in
    subst (IsRefused c.args.max_depth (opened c.args.brackets.now) c.args.bytes.now place.line place.col) (sym c.bad_fault.ensures)
    (bad_refused c.args.max_depth (opened c.args.brackets.now) c.args.bytes.now place.line place.col c.in-Err.bad
    (subst (λ inside. IsBadStep inside c.args.bytes.now c.in-Err.bad) c.is_inside.ensures c.in-Err.ensures.bad))

pub scan_bracket-requires-clause-bracket : goal.scan_bracket-requires-clause-bracket
scan_bracket-requires-clause-bracket c = sym c.if-not-is_bracket_byte.ensures

pub returns-in-Ok-take-clause-step : goal.returns-in-Ok-take-clause-step
returns-in-Ok-take-clause-step c =
    let scanned = c.scan_bracket.ensures in
    (scanned.solid (is_inside (opened c.args.brackets.now)), scanned.token, c.in-Ok-take.ensures.fits, c.in-Ok-take.ensures.opened)

pub returns-in-Err-take-clause-fault : goal.returns-in-Err-take-clause-fault
returns-in-Err-take-clause-fault c =
    let place = c.args.place in
    subst (IsRefused c.args.max_depth (opened c.args.brackets.now) c.args.bytes.now place.line place.col) (sym c.misfit_fault.ensures)
    (misfit_refused c.args.max_depth (opened c.args.brackets.now) c.args.bytes.now place.line place.col c.in-Err-take.misfit c.requires (sym c.if-not-is_bracket_byte.ensures) c.in-Err-take.ensures.misfit)
