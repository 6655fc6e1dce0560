use Rattle.std.proofs.Common.{◌≡◌, ◌+◌, ◌-◌, ◌*◌, ◌<◌, ◌≤◌, [], ◌∷◌, ◌++◌, refl, ◌∙◌, ap, sym, subst, length, arith, append-nil}
use Rattle.std.specs.Prelude.{IsErrAnd, Ok, Err}
use Rattle.std.proofs.lemmas.Result.{err_from_is_err_and}
use Rattle.bz_engine.specs.declared.run_fault.RunFault.{RunFault}
use Rattle.bz_engine.specs.declared.run_fault.RunFault.TheVariants.{OutOfMemory, InputTooLong, Stopped, ReadFailed, WriteFailed}
use Rattle.bz_engine.specs.declared.session.Step.TheVariants.{More, End}
use Rattle.bz_engine.specs.Outcome.{run_with, told_by}
use Rattle.bz_engine.specs.SessionValue.{HasDone, at_start, told_at}
use Rattle.bz_engine.proofs.Advances.{more_is_no_end}
use Rattle.bz_devices.proofs.PassedOn.{err_is, passed_on, not_passed_on}
use Rattle.bz_memory.specs.NoMemory.{no_memory}
use Rattle.bz_devices.proofs.ReadOn.{rises_from, read_nothing}
use Rattle.bz_engine.proofs.Faults.{memory_alone}
use Rattle.bz_engine.proofs.Cut.{BeginsAll, fault_begins, fault_reads, ended_begins, nothing_begins, one_needed_there, one_more_fits, ends_done, stops_unread, stops_in_time}
use Rattle.bz_engine.proofs.NeededReads.{no_reads}
use Rattle.bz_engine.proofs.Runs.{started, shorter, outcome_is, ends_after, reads_for, where_ok, where_is, where_memory, ok_is_no_err}
use Rattle.bz_engine.proofs.SessionSteps.{did_as}
use Rattle.bz_engine.proofs.runner.run.Goals as goal

pub loop-session-init : goal.loop-session-init
loop-session-init g c =
    let new = c.in_ok-session.ensures in
    record {
      home = ap (λ s. s.home) new;
      passes = ap (λ s. s.passes) new;
      options = ap (λ s. s.options) new;
      goes = ap (λ s. s.state) new;
      pieces = [];
      cs = [];
      text = [];
      gave = g.met.S.Source.gave_nothing _;
      took = g.met.W.Sink.took_nothing _;
      done = subst (λ s. HasDone s [] [] []) (sym new) (started c.args.home c.args.passes.items c.args.options);
      fit = tt;
      read_steady = refl;
      write_steady = refl;
    }

pub loop-session-preserved : goal.loop-session-preserved
loop-session-preserved g c =
    let inv = c.loop-session.invariant in
    let same = c.step.ensures.same in
    let answer = c.in_ok-step.was ∙ ap Ok c.in-More.is in
    let step = c.step.ensures.steps inv.goes in
    let more = did_as step (Ok More) answer in
    record {
      home = same.home ∙ inv.home;
      passes = same.passes ∙ inv.passes;
      options = same.options ∙ inv.options;
      goes = more.going;
      pieces = inv.pieces ++ step.read;
      cs = inv.cs ++ more.chunk ∷ [];
      text = inv.text ++ step.shown;
      gave = g.met.S.Source.gave_more _ _ _ _ _ inv.gave step.gave;
      took = g.met.W.Sink.took_more _ _ _ _ _ inv.took step.took;
      done = more.done inv.pieces inv.cs inv.text inv.done;
      fit = one_more_fits _ inv.cs more.chunk inv.fit (subst (λ o. length more.chunk ≤ o.max_statement) (same.options ∙ inv.options) more.size);
      read_steady = step.reads_counted.1 (λ h. ok_is_no_err _ _ ReadFailed answer h) ∙ inv.read_steady;
      write_steady = step.writes_counted.1 (λ h. ok_is_no_err _ _ WriteFailed answer h) ∙ inv.write_steady;
    }

pub loop-session-smaller : goal.loop-session-smaller
loop-session-smaller g c =
    let inv = c.loop-session.invariant in
    let old = c.loop-session.session in
    let new = c.step.new.self in
    let step = c.step.ensures.steps inv.goes in
    let more = did_as step (Ok More) (c.in_ok-step.was ∙ ap Ok c.in-More.is) in
    let within : new.ahead.reads ≤ old.options.max_reads =
    subst (λ o. new.ahead.reads ≤ o.max_reads) c.step.ensures.same.options (subst (λ v. v.ahead.reads ≤ v.options.max_reads) c.session.view_is c.session.invariant.made) in
    subst (λ o. 8193 * (o.max_reads - new.ahead.reads) + length new.ahead.bytes < 8193 * (old.options.max_reads - old.ahead.reads) + length old.ahead.bytes) (sym c.step.ensures.same.options)
    (shorter old new old.options.max_reads inv.pieces inv.cs step.read more.chunk inv.text (inv.text ++ step.shown) inv.done (more.done inv.pieces inv.cs inv.text inv.done) more.some step.few within)

pub returns-in_err-step-clause-too_long : goal.returns-in_err-step-clause-too_long
returns-in_err-step-clause-too_long g c told =
    let inv = c.loop-session.invariant in
    let same : (let fault : RunFault = InputTooLong in fault) ≡ c.in_err-step.field-0.0 = subst (λ r. IsErrAnd r (λ e. e ≡ c.in_err-step.field-0.0)) told c.from_residual-in_err-step.ensures.1 in
    let step = c.step.ensures.steps inv.goes in
    let left = did_as step (Err InputTooLong) (c.in_err-step.was ∙ ap Err (sym same)) in
    let all = one_needed_there c.loop-session.session c.step.new.self.ahead _ _ _ inv.pieces inv.cs step.read inv.text inv.home inv.passes inv.options inv.done left.read_ahead
    left.tells.0 left.tells.1 in
    (inv.pieces ++ step.read, _, g.met.S.Source.gave_more _ _ _ _ _ inv.gave step.gave, all.0, all.1)

pub returns-in_err-step-clause-going : goal.returns-in_err-step-clause-going
returns-in_err-step-clause-going g c told =
    let same : (let fault : RunFault = Stopped in fault) ≡ c.in_err-step.field-0.0 = subst (λ r. IsErrAnd r (λ e. e ≡ c.in_err-step.field-0.0)) told c.from_residual-in_err-step.ensures.1 in
    (did_as (c.step.ensures.steps c.loop-session.invariant.goes) (Err Stopped) (c.in_err-step.was ∙ ap Err (sym same))).tells

pub returns-in-End-clause-outcome : goal.returns-in-End-clause-outcome
returns-in-End-clause-outcome g c =
    let inv = c.loop-session.invariant in
    let same = c.step.ensures.same in
    let step = c.step.ensures.steps inv.goes in
    let answer = c.in_ok-step.was ∙ ap Ok c.in-End.is in
    let end = did_as step (Ok End) answer in
    let over = end.outcome inv.pieces inv.cs inv.text inv.done in
    let wrote = subst (λ w. g.W.Sink.took c.args.sink.now inv.text w) (sym (step.unwritten (λ h. more_is_no_end c.step.result h answer) (λ h. ok_is_no_err _ _ WriteFailed answer h)).1) inv.took in
    where_ok c.finish.result (λ report told. (
      inv.pieces ++ step.read,
      inv.text,
      g.met.S.Source.gave_more _ _ _ _ _ inv.gave step.gave,
      wrote,
      reads_for c.step.new.self _ _ _ (inv.pieces ++ step.read) (same.home ∙ inv.home) (same.passes ∙ inv.passes) (same.options ∙ inv.options) over.0,
      outcome_is c.step.new.self c.args.home c.args.passes.items c.args.options end.end (told_by report) (inv.pieces ++ step.read) inv.cs inv.text
          (same.home ∙ inv.home) (same.passes ∙ inv.passes) (same.options ∙ inv.options) told over.1,
      ends_done c.loop-session.session c.step.new.self.ahead c.args.home c.args.passes.items c.args.options inv.pieces inv.cs step.read inv.text (told_by report).end
          inv.home inv.passes inv.options inv.done end.read_ahead inv.fit
          (ends_after c.step.new.self c.args.home c.args.passes.items c.args.options end.end (told_by report) (inv.pieces ++ step.read) inv.cs inv.text
          (same.home ∙ inv.home) (same.passes ∙ inv.passes) (same.options ∙ inv.options) told over.1),
    ))
    (c.finish.ensures.report end.end end.ended)

pub returns-in_err-session-clause-stopped : goal.returns-in_err-session-clause-stopped
returns-in_err-session-clause-stopped g c =
    let start = at_start c.args.home c.args.passes.items c.args.options in
    let none : 0 ≤ c.args.options.max_reads = omega arith in
    let p = err_from_is_err_and c.from_residual.result c.from_residual.ensures.1 in
    where_is _ c.from_residual.result (OutOfMemory no_memory) (p.1 ∙ ap Err p.2) (
      [],
      [],
      g.met.S.Source.gave_nothing _,
      g.met.W.Sink.took_nothing _,
      no_reads _ _ _,
      nothing_begins (run_with c.args.home c.args.passes.items c.args.options),
      stops_unread start start.ahead (OutOfMemory no_memory) c.args.home c.args.passes.items c.args.options [] [] [] [] refl refl refl
          (started c.args.home c.args.passes.items c.args.options) (read_nothing c.args.options.max_reads start.ahead none) tt tt,
    )

pub returns-in_err-step-clause-stopped : goal.returns-in_err-step-clause-stopped
returns-in_err-step-clause-stopped g c =
    let inv = c.loop-session.invariant in
    let step = c.step.ensures.steps inv.goes in
    let fault = c.in_err-step.field-0.0 in
    let was = c.in_err-step.was in
    let left = did_as step (Err fault) was in
    let p = err_from_is_err_and c.from_residual-in_err-step.result c.from_residual-in_err-step.ensures.1 in
    where_is _ c.from_residual-in_err-step.result fault (p.1 ∙ ap Err p.2) (
      inv.pieces ++ step.read,
      inv.text ++ step.shown,
      g.met.S.Source.gave_more _ _ _ _ _ inv.gave step.gave,
      g.met.W.Sink.took_more _ _ _ _ _ inv.took step.took,
      fault_reads c.loop-session.session c.step.new.self _ c.args.home c.args.passes.items c.args.options inv.pieces inv.cs step.read inv.text step.shown inv.home inv.passes inv.options inv.done (record { needed = step.needed; few = step.bound }) left,
      fault_begins c.loop-session.session c.step.new.self _ c.args.home c.args.passes.items c.args.options inv.pieces inv.cs step.read inv.text step.shown
          inv.home inv.passes inv.options inv.done c.step.ensures.same left,
      stops_in_time c.loop-session.session c.step.new.self fault c.args.home c.args.passes.items c.args.options inv.pieces inv.cs step.read inv.text step.shown
          inv.home inv.passes inv.options inv.done c.step.ensures.same inv.fit left
          (λ other. (step.unwritten (λ h. ok_is_no_err _ _ fault h was) (λ h. other (err_is fault WriteFailed (sym was ∙ h)))).0),
    )

pub returns-in-End-clause-stopped : goal.returns-in-End-clause-stopped
returns-in-End-clause-stopped g c =
    let inv = c.loop-session.invariant in
    let same = c.step.ensures.same in
    let step = c.step.ensures.steps inv.goes in
    let answer = c.in_ok-step.was ∙ ap Ok c.in-End.is in
    let end = did_as step (Ok End) answer in
    let over = end.outcome inv.pieces inv.cs inv.text inv.done in
    let wrote = subst (λ w. g.W.Sink.took c.args.sink.now inv.text w) (sym (step.unwritten (λ h. more_is_no_end c.step.result h answer) (λ h. ok_is_no_err _ _ WriteFailed answer h)).1) inv.took in
    let begins = ended_begins (run_with c.args.home c.args.passes.items c.args.options) (inv.pieces ++ step.read) inv.text (told_at c.step.new.self end.end)
    (outcome_is c.step.new.self c.args.home c.args.passes.items c.args.options end.end (told_at c.step.new.self end.end) (inv.pieces ++ step.read) inv.cs inv.text
    (same.home ∙ inv.home) (same.passes ∙ inv.passes) (same.options ∙ inv.options) refl over.1) in
    where_memory _ c.finish.result (OutOfMemory no_memory) (c.finish.ensures.memory end.end end.ended) (
      inv.pieces ++ step.read,
      inv.text ++ [],
      g.met.S.Source.gave_more _ _ _ _ _ inv.gave step.gave,
      subst (λ t. g.W.Sink.took c.args.sink.now t c.step.new.sink) (sym (append-nil inv.text)) wrote,
      reads_for c.step.new.self _ _ _ (inv.pieces ++ step.read) (same.home ∙ inv.home) (same.passes ∙ inv.passes) (same.options ∙ inv.options) over.0,
      subst (BeginsAll (run_with c.args.home c.args.passes.items c.args.options) (inv.pieces ++ step.read)) (sym (append-nil inv.text)) begins,
      stops_unread c.loop-session.session c.step.new.self.ahead (OutOfMemory no_memory) _ _ _ inv.pieces inv.cs step.read inv.text
          inv.home inv.passes inv.options inv.done end.read_ahead inv.fit tt,
    )

pub returns-in_err-session-clause-devices : goal.returns-in_err-session-clause-devices
returns-in_err-session-clause-devices g c = ([], [], g.met.S.Source.gave_nothing _, g.met.W.Sink.took_nothing _)

pub returns-in_err-step-clause-devices : goal.returns-in_err-step-clause-devices
returns-in_err-step-clause-devices g c =
    let inv = c.loop-session.invariant in
    let step = c.step.ensures.steps inv.goes in
    (inv.pieces ++ step.read, inv.text ++ step.shown, g.met.S.Source.gave_more _ _ _ _ _ inv.gave step.gave, g.met.W.Sink.took_more _ _ _ _ _ inv.took step.took)

pub returns-in-End-clause-devices : goal.returns-in-End-clause-devices
returns-in-End-clause-devices g c =
    let inv = c.loop-session.invariant in
    let step = c.step.ensures.steps inv.goes in
    (inv.pieces ++ step.read, inv.text ++ step.shown, g.met.S.Source.gave_more _ _ _ _ _ inv.gave step.gave, g.met.W.Sink.took_more _ _ _ _ _ inv.took step.took)

pub returns-in_err-session-clause-steady : goal.returns-in_err-session-clause-steady
returns-in_err-session-clause-steady g c = (λ _. refl, λ _. refl)

pub returns-in_err-step-clause-steady : goal.returns-in_err-step-clause-steady
returns-in_err-step-clause-steady g c =
    let inv = c.loop-session.invariant in
    let step = c.step.ensures.steps inv.goes in
    let was = c.in_err-step.was in
    let fault = c.from_residual-in_err-step in
    let p = err_from_is_err_and fault.result fault.ensures.1 in (
      λ other. step.reads_counted.1 (λ h. not_passed_on fault.result p.0 c.in_err-step.field-0.0 ReadFailed p.1 p.2 other (sym was ∙ h)) ∙ inv.read_steady,
      λ other. step.writes_counted.1 (λ h. not_passed_on fault.result p.0 c.in_err-step.field-0.0 WriteFailed p.1 p.2 other (sym was ∙ h)) ∙ inv.write_steady,
    )

pub returns-in-End-clause-steady : goal.returns-in-End-clause-steady
returns-in-End-clause-steady g c =
    let inv = c.loop-session.invariant in
    let answer = c.in_ok-step.was ∙ ap Ok c.in-End.is in
    let step = c.step.ensures.steps inv.goes in (
      λ _. step.reads_counted.1 (λ h. ok_is_no_err _ _ ReadFailed answer h) ∙ inv.read_steady,
      λ _. step.writes_counted.1 (λ h. ok_is_no_err _ _ WriteFailed answer h) ∙ inv.write_steady,
    )

pub returns-in-End-clause-too_long : goal.returns-in-End-clause-too_long
returns-in-End-clause-too_long g c told =
    let end = did_as (c.step.ensures.steps c.loop-session.invariant.goes) (Ok End) (c.in_ok-step.was ∙ ap Ok c.in-End.is) in
    memory_alone c.finish.result InputTooLong (c.finish.ensures.memory end.end end.ended) refl told

pub returns-in-End-clause-read_failed : goal.returns-in-End-clause-read_failed
returns-in-End-clause-read_failed g c told =
    let end = did_as (c.step.ensures.steps c.loop-session.invariant.goes) (Ok End) (c.in_ok-step.was ∙ ap Ok c.in-End.is) in
    memory_alone c.finish.result ReadFailed (c.finish.ensures.memory end.end end.ended) refl told

pub returns-in-End-clause-write_failed : goal.returns-in-End-clause-write_failed
returns-in-End-clause-write_failed g c told =
    let end = did_as (c.step.ensures.steps c.loop-session.invariant.goes) (Ok End) (c.in_ok-step.was ∙ ap Ok c.in-End.is) in
    memory_alone c.finish.result WriteFailed (c.finish.ensures.memory end.end end.ended) refl told

pub returns-in-End-clause-going : goal.returns-in-End-clause-going
returns-in-End-clause-going g c told =
    let end = did_as (c.step.ensures.steps c.loop-session.invariant.goes) (Ok End) (c.in_ok-step.was ∙ ap Ok c.in-End.is) in
    memory_alone c.finish.result Stopped (c.finish.ensures.memory end.end end.ended) refl told

pub returns-in_err-step-clause-read_failed : goal.returns-in_err-step-clause-read_failed
returns-in_err-step-clause-read_failed g c told =
    let inv = c.loop-session.invariant in
    let fault = c.from_residual-in_err-step in
    let p = err_from_is_err_and fault.result fault.ensures.1 in
    rises_from _ _ _ inv.read_steady ((c.step.ensures.steps inv.goes).reads_counted.0 (c.in_err-step.was ∙ passed_on fault.result p.0 c.in_err-step.field-0.0 ReadFailed p.1 p.2 told))

pub returns-in_err-step-clause-write_failed : goal.returns-in_err-step-clause-write_failed
returns-in_err-step-clause-write_failed g c told =
    let inv = c.loop-session.invariant in
    let fault = c.from_residual-in_err-step in
    let p = err_from_is_err_and fault.result fault.ensures.1 in
    rises_from _ _ _ inv.write_steady ((c.step.ensures.steps inv.goes).writes_counted.0 (c.in_err-step.was ∙ passed_on fault.result p.0 c.in_err-step.field-0.0 WriteFailed p.1 p.2 told))
