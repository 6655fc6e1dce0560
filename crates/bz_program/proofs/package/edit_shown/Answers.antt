use Rattle.std.proofs.Common.{[], inl, inr, refl}
use Rattle.bz_program.specs.Handled.{streamed_account, cut_account}
use Rattle.bz_program.proofs.Shown.{shows_told}
use Rattle.bz_program.proofs.package.edit_shown.Goals as goal

pub returns-in-Ok : goal.returns-in-Ok
returns-in-Ok g c =
    let ran = c.in-Ok.ensures.edited in (
      streamed_account c.args.name.now ran.text ran.report,
      inl (record { read = ran.read; gave_is = ran.gave_is; text = ran.text; report = ran.report; outcome = ran.outcome; account_is = refl }),
      ran.shows,
      refl,
      ran.status_is,
    )

pub returns-in-Err : goal.returns-in-Err
returns-in-Err g c =
    let cut = c.in-Err.ensures.failed in
    let told = c.put_fault.ensures.told in (
      cut_account c.args.name.now cut.shown told.0,
      inr (record {
        fault = c.in-Err.fault;
        cause = cut.cause;
        read = cut.read;
        gave_is = cut.gave_is;
        shown = cut.shown;
        front = cut.front;
        why = told.0;
        why_is = told.1;
        account_is = refl;
      }),
      shows_told g.O.Sink.took g.E.Sink.took g.met.O.Sink.took_more g.met.E.Sink.took_more c.args.console.now c.edit_stream.new.console c.put_fault.new.console cut.shown [] _ cut.shows told.2,
      refl,
      c.put_fault.ensures.status,
    )
