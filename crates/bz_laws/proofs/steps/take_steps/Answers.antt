use Rattle.std.proofs.Common.{◌≡◌, refl, sym, ◌∙◌, ap, subst, arith}
use Rattle.std.specs.Prelude.{Ok, Err, ◌<◌}
use Rattle.std.proofs.lemmas.Result.{err_from_is_err_and}
use Rattle.bz_devices.proofs.PassedOn.{err_is}
use Rattle.bz_laws.specs.Steps.{HasManyMore}
use Rattle.bz_laws.proofs.ManySteps.{many_none, many_more, come_to, met_fault, counted_ok, counted_err, was_going}
use Rattle.bz_engine.specs.declared.run_fault.RunFault.TheVariants.{ReadFailed, WriteFailed}
use Rattle.bz_engine.specs.declared.session.Step.TheVariants.{More, End}
use Rattle.bz_engine.proofs.Advances.{more_is_no_end}
use Rattle.bz_engine.proofs.Runs.{ok_is_no_err, where_is}
use Rattle.bz_engine.proofs.SessionSteps.{did_as}
use Rattle.bz_laws.proofs.steps.take_steps.Goals as goal

pub loop-taken-init : goal.loop-taken-init
loop-taken-init g c = record {
  within = omega arith;
  same = record { home = refl; passes = refl; options = refl };
  goes = λ is. is;
  read_steady = refl;
  write_steady = refl;
  done = many_none g.S.Source.gave g.W.Sink.took g.met.S.Source.gave_nothing g.met.W.Sink.took_nothing _ _ _;
}

pub loop-taken-preserved : goal.loop-taken-preserved
loop-taken-preserved g c =
    let inv = c.loop-taken.invariant in
    let same = c.step.ensures.same in
    let answer = c.in_ok-step.was ∙ ap Ok c.in-More.is in
    let step = c.step.ensures.steps (was_going _ c.step.result (λ h. (c.step.ensures.stopped h).0) (λ end h. (c.step.ensures.ended end h).0) answer) in
    let more = did_as step (Ok More) answer in
    record {
      within = omega arith;
      same = record { home = same.home ∙ inv.same.home; passes = same.passes ∙ inv.same.passes; options = same.options ∙ inv.same.options };
      goes = λ is. more.going;
      read_steady = step.reads_counted.1 (λ h. ok_is_no_err _ _ ReadFailed answer h) ∙ inv.read_steady;
      write_steady = step.writes_counted.1 (λ h. ok_is_no_err _ _ WriteFailed answer h) ∙ inv.write_steady;
      done = λ pieces cs text done.
          many_more g.S.Source.gave g.W.Sink.took g.met.S.Source.gave_more g.met.W.Sink.took_more _ _ _ _ _ _ _ _ _ _ step.read pieces cs step.shown text refl
          (inv.done pieces cs text done) step.gave step.took more;
    }

pub returns-in-End-clause-end : goal.returns-in-End-clause-end
returns-in-End-clause-end g c was going =
    let inv = c.loop-taken.invariant in
    let answer = c.in_ok-step.was ∙ ap Ok c.in-End.is in
    let step = c.step.ensures.steps (inv.goes going) in
    let over = did_as step (Ok End) answer in (
      over.end,
      over.ended,
      λ pieces cs text done.
          come_to g.S.Source.gave g.W.Sink.took g.met.S.Source.gave_more g.met.W.Sink.took_more _ _ _ _ _ _ _ _ _ _ step.read pieces cs text c.loop-taken-test.true
          (inv.done pieces cs text done) step.gave
          (step.unwritten (λ h. more_is_no_end c.step.result h answer) (λ h. ok_is_no_err _ _ WriteFailed answer h)).1 over,
    )

pub returns-clause-more : goal.returns-clause-more
returns-clause-more g c was pieces cs text done =
    let inv = c.loop-taken.invariant in
    let all : c.loop-taken.taken ≡ c.args.count = grind (arith, inv.within, c.loop-taken-test.false) in
    subst (λ n. HasManyMore n (λ read. g.S.Source.gave c.args.source.now read c.loop-taken.source) (λ shown. g.W.Sink.took c.args.sink.now shown c.loop-taken.sink) c.loop-taken.session pieces cs text) all
    (inv.done pieces cs text done)

pub returns-in_err-step-clause-fault : goal.returns-in_err-step-clause-fault
returns-in_err-step-clause-fault g c =
    let inv = c.loop-taken.invariant in
    let fault = c.in_err-step.field-0.0 in
    let was = c.in_err-step.was in
    let passed = c.from_residual in
    let p = err_from_is_err_and passed.result passed.ensures.1 in
    where_is _ passed.result fault (p.1 ∙ ap Err p.2) (λ going pieces cs text done.
    let step = c.step.ensures.steps (inv.goes going) in
    let left = did_as step (Err fault) was in
    met_fault g.S.Source.gave g.W.Sink.took g.met.S.Source.gave_more g.met.W.Sink.took_more _ _ _ _ _ _ _ _ _ _ fault step.read pieces cs step.shown text
    c.loop-taken-test.true (inv.done pieces cs text done) step.gave step.took c.step.ensures.same step.needed step.bound left
    (λ other. (step.unwritten (λ h. ok_is_no_err _ _ fault h was) (λ h. other (err_is fault WriteFailed (sym was ∙ h)))).0))

pub returns-in_err-step-clause-reads_counted : goal.returns-in_err-step-clause-reads_counted
returns-in_err-step-clause-reads_counted g c going =
    let inv = c.loop-taken.invariant in
    let passed = c.from_residual in
    let p = err_from_is_err_and passed.result passed.ensures.1 in
    counted_err passed.result c.step.result c.in_err-step.field-0.0 ReadFailed _ _ _ c.in_err-step.was (p.1 ∙ ap Err p.2) inv.read_steady
    (c.step.ensures.steps (inv.goes going)).reads_counted

pub returns-in_err-step-clause-writes_counted : goal.returns-in_err-step-clause-writes_counted
returns-in_err-step-clause-writes_counted g c going =
    let inv = c.loop-taken.invariant in
    let passed = c.from_residual in
    let p = err_from_is_err_and passed.result passed.ensures.1 in
    counted_err passed.result c.step.result c.in_err-step.field-0.0 WriteFailed _ _ _ c.in_err-step.was (p.1 ∙ ap Err p.2) inv.write_steady
    (c.step.ensures.steps (inv.goes going)).writes_counted

pub returns-in-End-clause-reads_counted : goal.returns-in-End-clause-reads_counted
returns-in-End-clause-reads_counted g c going =
    let inv = c.loop-taken.invariant in
    let answer = c.in_ok-step.was ∙ ap Ok c.in-End.is in
    counted_ok _ End ReadFailed _ _ refl
    ((c.step.ensures.steps (inv.goes going)).reads_counted.1 (λ h. ok_is_no_err _ _ ReadFailed answer h) ∙ inv.read_steady)

pub returns-in-End-clause-writes_counted : goal.returns-in-End-clause-writes_counted
returns-in-End-clause-writes_counted g c going =
    let inv = c.loop-taken.invariant in
    let answer = c.in_ok-step.was ∙ ap Ok c.in-End.is in
    counted_ok _ End WriteFailed _ _ refl
    ((c.step.ensures.steps (inv.goes going)).writes_counted.1 (λ h. ok_is_no_err _ _ WriteFailed answer h) ∙ inv.write_steady)

pub returns-clause-reads_counted : goal.returns-clause-reads_counted
returns-clause-reads_counted g c going = counted_ok _ More ReadFailed _ _ refl c.loop-taken.invariant.read_steady

pub returns-clause-writes_counted : goal.returns-clause-writes_counted
returns-clause-writes_counted g c going = counted_ok _ More WriteFailed _ _ refl c.loop-taken.invariant.write_steady
