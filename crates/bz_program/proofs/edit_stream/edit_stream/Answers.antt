use Rattle.std.proofs.Common.{[], ◌++◌, Result, Ok, Err, IsErrAnd, sym, subst}
use Rattle.std.specs.Prelude.{IfErr}
use Rattle.bz_devices.specs.Buffer.{took_nothing_lem, took_more_lem}
use Rattle.bz_program.specs.Runs.{IsFaultOver}
use Rattle.bz_program.specs.Texts.{lines_text, messages_text}
use Rattle.bz_program.proofs.edit_stream.edit_stream.Goals as goal

if_fault : {T E : Type 0} {Q : E → Type 0} (r : Result T E) (P : E → Type 0) → IsErrAnd r P → ((e : E) → P e → Q e) → IfErr r Q
if_fault (Ok x) P h f = tt
if_fault (Err e) P h f = f e h

pub returns-in_err-report-clause-devices : goal.returns-in_err-report-clause-devices
returns-in_err-report-clause-devices g c =
    let moved = c.run.ensures.devices in
    (moved.0, moved.1, [], moved.2, record { out = moved.3; err = took_nothing_lem g.E.Sink.took g.met.E.Sink.took_nothing c.args.console.now.err })

pub returns-in_err-report-clause-failed : goal.returns-in_err-report-clause-failed
returns-in_err-report-clause-failed g c =
    let cut = c.in_err-report.ensures.front in
    if_fault c.from_residual.result _ c.from_residual.ensures.1 (λ fault is. record {
      cause = subst (λ f. IsFaultOver g.S.Source.gave g.S.Source.failures c.args.source.now f c.run.new.source) (sym is) c.in_err-report.ensures.fault;
      read = cut.0;
      gave_is = cut.2;
      shown = cut.1;
      front = cut.4;
      shows = record { out = cut.3; err = took_nothing_lem g.E.Sink.took g.met.E.Sink.took_nothing c.args.console.now.err };
    })

pub returns-clause-edited : goal.returns-clause-edited
returns-clause-edited g c =
    let ran = c.in_ok-report.ensures.ran in
    record {
      read = ran.read;
      text = ran.text;
      report = c.in_ok-report.report;
      gave_is = ran.gave_is;
      outcome = ran.outcome;
      shows = record {
        out = took_more_lem g.O.Sink.took g.met.O.Sink.took_more c.args.console.now.out c.run.new.sink c.put_report.new.self.out ran.text (lines_text c.in_ok-report.report.lines)
            ran.took_is c.put_report.ensures.out;
        err = c.put_report.ensures.err;
      };
      status_is = c.status.ensures;
    }

pub returns-clause-devices : goal.returns-clause-devices
returns-clause-devices g c =
    let ran = c.in_ok-report.ensures.ran in (
      ran.read,
      ran.text ++ lines_text c.in_ok-report.report.lines,
      messages_text c.args.file.now c.in_ok-report.report.messages,
      ran.gave_is,
      record {
        out = took_more_lem g.O.Sink.took g.met.O.Sink.took_more c.args.console.now.out c.run.new.sink c.put_report.new.self.out ran.text (lines_text c.in_ok-report.report.lines)
            ran.took_is c.put_report.ensures.out;
        err = c.put_report.ensures.err;
      },
    )
