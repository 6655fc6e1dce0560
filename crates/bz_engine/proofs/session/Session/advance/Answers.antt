use Rattle.std.proofs.Common.{refl, ◌∙◌, ap, subst, take}
use Rattle.std.proofs.lemmas.Result.{err_from_is_err_and}
use Rattle.bz_devices.proofs.PassedOn.{err_is}
use Rattle.bz_engine.specs.declared.run_fault.RunFault.TheVariants.{WriteFailed}
use Rattle.bz_engine.specs.declared.session.SessionState.TheVariants.{Going, Stopped}
use Rattle.bz_engine.specs.declared.session.Step.TheVariants.{More}
use Rattle.bz_engine.specs.private.Finds.{Finds}
use Rattle.bz_engine.specs.private.NextChunks.{IsNext}
use Rattle.bz_engine.specs.SessionValue.{SessionValue, IsSession}
use Rattle.bz_engine.proofs.SessionSteps.{adds_one, ends_whole, ends_at_fault, ends_at_failure, left_by_write, steps_as, step_unread, step_unwritten, step_on, step_ended, step_at_empty_line}
use Rattle.bz_engine.proofs.session.Session.advance.Goals as goal

pub returns-then-is_at_empty_line-clause-steps : goal.returns-then-is_at_empty_line-clause-steps
returns-then-is_at_empty_line-clause-steps g c =
    let at = c.is_at_empty_line.ensures c.if-is_at_empty_line.true in
    let kept = subst IsSession c.self.view_is c.self.invariant in
    step_at_empty_line g.S.Source.gave g.S.Source.failures g.W.Sink.took g.W.Sink.failures _ _ c.args.source.now c.args.sink.now at.0
    (g.met.S.Source.gave_nothing c.args.source.now) (g.met.W.Sink.took_nothing c.args.sink.now)
    c.requires.going (kept.ready c.requires.going) kept.made at.1 at.2 c.pass_empty_line.ensures

pub returns-in_err-edited-clause-steps : goal.returns-in_err-edited-clause-steps
returns-in_err-edited-clause-steps g c =
    let u = c.take_text-text.new.self in
    let e = c.edit_next.new.self in
    let stops : SessionValue → SessionValue = λ x. record x { state = Stopped } in
    let at = c.take_text-text.ensures.same ∙ ap stops c.self.view_is in
    let finds = subst (Finds g.S.Source.gave g.S.Source.failures u.options u.progress.line c.args.source.now c.edit_next.new.source u.ahead e.ahead) c.in_err-edited.was c.edit_next.ensures.finds in
    let p = err_from_is_err_and c.from_residual.result c.from_residual.ensures.1 in
    steps_as _ _ _ _ c.from_residual.result p.0 c.in_err-edited.field-0.0 p.1 p.2
    (step_unread g.S.Source.gave g.S.Source.failures g.W.Sink.took g.W.Sink.failures c.args.self.now u e c.args.source.now c.edit_next.new.source c.args.sink.now c.in_err-edited.field-0.0 (g.met.W.Sink.took_nothing _) at
    c.edit_next.ensures.same finds)

pub returns-in_default-clause-steps : goal.returns-in_default-clause-steps
returns-in_default-clause-steps g c =
    let kept = subst IsSession c.self.view_is c.self.invariant in
    let u = c.take_text-text.new.self in
    let e = c.edit_next.new.self in
    let stops : SessionValue → SessionValue = λ x. record x { state = Stopped } in
    let at = c.take_text-text.ensures.same ∙ ap stops c.self.view_is in
    let finds = subst (Finds g.S.Source.gave g.S.Source.failures u.options u.progress.line c.args.source.now c.edit_next.new.source u.ahead e.ahead) c.in_ok-edited.was c.edit_next.ensures.finds in
    let ended = subst (IsNext u e c.take_text-text.result.items c.edit_next.new.text.items) c.in_default.is c.in_ok-edited.ensures.next in
    step_ended g.S.Source.gave g.S.Source.failures g.W.Sink.took g.W.Sink.failures c.args.self.now u e _ _ _ c.args.source.now c.edit_next.new.source c.args.sink.now (g.met.W.Sink.took_nothing _) c.end_at.ensures.end at finds
    (ends_whole c.args.self.now u e _ finds.read.0 kept.commands at finds.read.2 finds.read.3 ended c.edit_next.ensures.same c.end_at.ensures.ended)

pub returns-in_err-write-in-Done-clause-steps : goal.returns-in_err-write-in-Done-clause-steps
returns-in_err-write-in-Done-clause-steps g c =
    let u = c.take_text-text.new.self in
    let e = c.edit_next.new.self in
    let stops : SessionValue → SessionValue = λ x. record x { state = Stopped } in
    let at = c.take_text-text.ensures.same ∙ ap stops c.self.view_is in
    let finds = subst (Finds g.S.Source.gave g.S.Source.failures u.options u.progress.line c.args.source.now c.edit_next.new.source u.ahead e.ahead) c.in_ok-edited.was c.edit_next.ensures.finds in
    let next = subst (IsNext u e c.take_text-text.result.items c.edit_next.new.text.items) c.in-Some.is c.in_ok-edited.ensures.next in
    let p = err_from_is_err_and c.from_residual-in_err-write-in-Done.result c.from_residual-in_err-write-in-Done.ensures.1 in
    let cut = c.in_err-write-in-Done.ensures.front in
    steps_as _ _ _ _ c.from_residual-in_err-write-in-Done.result p.0 WriteFailed p.1 (p.2 ∙ err_is c.in_err-write-in-Done.field-0.0 WriteFailed c.in_err-write-in-Done.ensures.fault)
    (step_unwritten g.S.Source.gave g.S.Source.failures g.W.Sink.took g.W.Sink.failures c.args.self.now u e _ _ c.args.source.now c.edit_next.new.source c.args.sink.now c.write.new.sink (take cut.0 c.edit_next.new.text.items)
    (subst (λ t. g.W.Sink.took c.args.sink.now (take cut.0 t) c.write.new.sink) c.as_slice.ensures.value cut.2) c.in_err-write-in-Done.ensures.failed at finds
    (left_by_write c.args.self.now u e _ c.take_text-text.result.items c.edit_next.new.text.items c.in-Some.field-0 cut.0 finds.read.0 at finds.read.2 finds.read.3 next
    c.take_text-text.ensures.empty c.in-Done.is c.edit_next.ensures.same c.in_err-write-in-Done.ensures.same))

pub returns-in_ok-write-in-Done-clause-steps : goal.returns-in_ok-write-in-Done-clause-steps
returns-in_ok-write-in-Done-clause-steps g c =
    let u = c.take_text-text.new.self in
    let e = c.edit_next.new.self in
    let stops : SessionValue → SessionValue = λ x. record x { state = Stopped } in
    let at = c.take_text-text.ensures.same ∙ ap stops c.self.view_is in
    let finds = subst (Finds g.S.Source.gave g.S.Source.failures u.options u.progress.line c.args.source.now c.edit_next.new.source u.ahead e.ahead) c.in_ok-edited.was c.edit_next.ensures.finds in
    let next = subst (IsNext u e c.take_text-text.result.items c.edit_next.new.text.items) c.in-Some.is c.in_ok-edited.ensures.next in
    let goes : SessionValue → SessionValue = λ x. record x { state = Going } in
    step_on g.S.Source.gave g.S.Source.failures g.W.Sink.took g.W.Sink.failures c.args.self.now u e _ _ More c.args.source.now c.edit_next.new.source c.args.sink.now c.write.new.sink c.edit_next.new.text.items
    (subst (λ t. g.W.Sink.took c.args.sink.now t c.write.new.sink) c.as_slice.ensures.value c.in_ok-write-in-Done.ensures.ok) c.in_ok-write-in-Done.ensures.steady
    (λ other. absurd (other refl)) at finds
    (adds_one c.args.self.now u e c.write.new.self _ c.take_text-text.result.items c.edit_next.new.text.items c.in-Some.field-0 finds.read.0 at finds.read.2 finds.read.3 next
    c.take_text-text.ensures.empty c.in-Done.is c.edit_next.ensures.same c.in_ok-write-in-Done.ensures.taken (ap goes c.self-in-Done.view_is))

pub returns-in-Faulty-clause-steps : goal.returns-in-Faulty-clause-steps
returns-in-Faulty-clause-steps g c =
    let kept = subst IsSession c.self.view_is c.self.invariant in
    let u = c.take_text-text.new.self in
    let e = c.edit_next.new.self in
    let stops : SessionValue → SessionValue = λ x. record x { state = Stopped } in
    let at = c.take_text-text.ensures.same ∙ ap stops c.self.view_is in
    let finds = subst (Finds g.S.Source.gave g.S.Source.failures u.options u.progress.line c.args.source.now c.edit_next.new.source u.ahead e.ahead) c.in_ok-edited.was c.edit_next.ensures.finds in
    let next = subst (IsNext u e c.take_text-text.result.items c.edit_next.new.text.items) c.in-Some.is c.in_ok-edited.ensures.next in
    step_ended g.S.Source.gave g.S.Source.failures g.W.Sink.took g.W.Sink.failures c.args.self.now u e _ _ _ c.args.source.now c.edit_next.new.source c.args.sink.now (g.met.W.Sink.took_nothing _) c.end_at-in-Faulty.ensures.end at finds
    (ends_at_fault c.args.self.now u e _ c.take_text-text.result.items c.edit_next.new.text.items c.in-Some.field-0 c.in-Faulty.fault finds.read.0 kept.commands at finds.read.2 finds.read.3 next
    c.take_text-text.ensures.empty c.in-Faulty.is c.edit_next.ensures.same c.end_at-in-Faulty.ensures.ended)

pub returns-in-Failed-clause-steps : goal.returns-in-Failed-clause-steps
returns-in-Failed-clause-steps g c =
    let kept = subst IsSession c.self.view_is c.self.invariant in
    let u = c.take_text-text.new.self in
    let e = c.edit_next.new.self in
    let stops : SessionValue → SessionValue = λ x. record x { state = Stopped } in
    let at = c.take_text-text.ensures.same ∙ ap stops c.self.view_is in
    let finds = subst (Finds g.S.Source.gave g.S.Source.failures u.options u.progress.line c.args.source.now c.edit_next.new.source u.ahead e.ahead) c.in_ok-edited.was c.edit_next.ensures.finds in
    let next = subst (IsNext u e c.take_text-text.result.items c.edit_next.new.text.items) c.in-Some.is c.in_ok-edited.ensures.next in
    let fails : SessionValue → SessionValue = λ x. record x { failure = c.in-Failed.message } in
    step_ended g.S.Source.gave g.S.Source.failures g.W.Sink.took g.W.Sink.failures c.args.self.now u e _ _ _ c.args.source.now c.edit_next.new.source c.args.sink.now (g.met.W.Sink.took_nothing _) c.end_at-in-Failed.ensures.end at finds
    (ends_at_failure c.args.self.now u e _ _ c.take_text-text.result.items c.edit_next.new.text.items c.in-Some.field-0 c.in-Failed.message finds.read.0 kept.commands at finds.read.2 finds.read.3 next
    c.take_text-text.ensures.empty c.in-Failed.is c.edit_next.ensures.same (ap fails c.self-in-Failed.view_is) c.end_at-in-Failed.ensures.ended)
