use Rattle.std.proofs.Common.{ℕ, List, subst}
use Rattle.std.specs.Prelude.{OnErr}
use Rattle.bz_program.specs.Runs.{Job, IsFront, Ran}
use Rattle.bz_script.proofs.Loops.{if_ok}
use Rattle.bz_program.proofs.Faults.{at_fault, fault_over, too_long_in}
use Rattle.bz_engine.specs.declared.run_fault.RunFault.TheVariants.{StatementTooLong}
use Rattle.bz_program.proofs.Fronts.{where_err}
use Rattle.bz_program.proofs.run.Job.run.Goals as goal

pub returns-clause-ran : goal.returns-clause-ran
returns-clause-ran g c =
    let ran : Job → _ → _ = λ job report. Ran g.S.Source.gave g.W.Sink.took job c.args.source.now c.run.new.source c.args.sink.now c.run.new.sink report in
    if_ok (λ report out. subst (λ job. ran job report) c.self.view_is (record { read = out.0; text = out.1; outcome = record { reads = out.4; outcome = out.5; ended = out.6 }; gave_is = out.2; took_is = out.3 }))
    c.run.result c.run.ensures.outcome

pub returns-clause-front : goal.returns-clause-front
returns-clause-front g c =
    let cut : Job → Type 0 = λ job. (read : List (List ℕ)) × (text : List ℕ)
    × g.S.Source.gave c.args.source.now read c.run.new.source × g.W.Sink.took c.args.sink.now text c.run.new.sink × IsFront job read text in
    subst (λ job. OnErr c.run.result (cut job)) c.self.view_is
    (where_err (λ fault out. (out.0, out.1, out.2, out.3, record { reads = out.4; begins = out.5 })) c.run.result c.run.ensures.stopped)

pub returns-clause-fault : goal.returns-clause-fault
returns-clause-fault g c =
    let e = c.run.ensures in
    fault_over g.S.Source.gave g.S.Source.failures c.args.source.now c.run.new.source c.run.result e.read_failed
    (λ told. let there = e.too_long told in (there.0, there.2, there.3, there.4.going))
    (λ line told. let out = at_fault _ c.run.result (StatementTooLong line) e.stopped told in (out.0, out.2, too_long_in _ _ out.0 out.1 line out.6))
    e.going
