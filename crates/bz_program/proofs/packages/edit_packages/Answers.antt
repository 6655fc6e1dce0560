use Rattle.std.proofs.Common.{◌≡◌, false, [], sym, ◌∙◌, ap, subst}
use Rattle.bz_folder.specs.Sequence.{SafeRun}
use Rattle.bz_folder.specs.SequenceLaws.{run_more}
use Rattle.bz_program.specs.Files.{MayHoldNothing}
use Rattle.bz_program.specs.Handled.{is_last, IsStatusOfAll}
use Rattle.bz_program.specs.Program.{MayHold, is_shown}
use Rattle.bz_program.proofs.Edited.{untouched, of_package}
use Rattle.bz_program.proofs.Handling.{goes_on_after, handled_none, handled_more, handled_all, handled_last, three_both}
use Rattle.bz_program.proofs.Turns.{turn, end, contains_next, test_next, ok_is, at_end}
use Rattle.bz_program.proofs.packages.edit_packages.Goals as goal
use Rattle.bz_program.proofs.packages.edit_packages.Goals.{in-None, else-status-eq-FAILED-via-then-status-eq-FAILED+else-not-flags, else-status-eq-FAILED-via-else-status-eq-FAILED, in-Some+then-status-eq-FAILED+then-not-flags}

pub returns-in_err-packages-clause-safe : goal.returns-in_err-packages-clause-safe
returns-in_err-packages-clause-safe g c = untouched g.D.Folder.did _ g.met.D.Folder.did_nothing c.args.devices.now.draft.folder

pub returns-in_err-packages-clause-shown : goal.returns-in_err-packages-clause-shown
returns-in_err-packages-clause-shown g c all = g.met.D.Folder.did_nothing c.args.devices.now.draft.folder

pub loop-home-init : goal.loop-home-init
loop-home-init g c = record {
  safe = untouched g.D.Folder.did _ g.met.D.Folder.did_nothing c.args.devices.now.draft.folder;
  handled = handled_none g.D.Folder.did g.D.Folder.leads g.D.Folder.absent g.D.File.Source.gave g.D.File.Source.failures g.S.Source.gave g.S.Source.failures g.O.Sink.took g.E.Sink.took c.args.flags.now
      (record { did_nothing = g.met.D.Folder.did_nothing; did_more = g.met.D.Folder.did_more; out_nothing = g.met.O.Sink.took_nothing; out_more = g.met.O.Sink.took_more; err_nothing = g.met.E.Sink.took_nothing; err_more = g.met.E.Sink.took_more }) c.args.script.items c.args.devices.now _ c.whole_status-whole.ensures;
  idle = λ three. untouched g.D.Folder.did MayHoldNothing g.met.D.Folder.did_nothing c.args.devices.now.draft.folder;
  shown = λ all. g.met.D.Folder.did_nothing c.args.devices.now.draft.folder;
}

pub loop-home-preserved : goal.loop-home-preserved
loop-home-preserved g c =
    let inv = c.loop-home.invariant in
    let here = turn _ _ _ c.in_ok-packages.ensures c.loop-home.yielded _ _ _ c.into_iter-home-iterator.ensures.into_iter_gives.0 c.loop-home.yielded_by _ c.next.ensures.steps (c.in-Some.home, c.in-Some.passes) c.in-Some.is in
    record {
      safe = run_more g.D.Folder.did (MayHold g.D.Folder.leads g.D.File.Source.gave c.args.flags.now.k c.args.script.items) g.met.D.Folder.did_more c.args.devices.now.draft.folder c.loop-home.devices.draft.folder
          c.edit_package-status.new.devices.draft.folder inv.safe
          (of_package g.D.Folder.did g.D.Folder.leads g.D.File.Source.gave c.args.flags.now.k c.args.script.items _ (contains_next _ _ _ _ here) _ _ c.edit_package-status.ensures.files.safe);
      handled = handled_more g.D.Folder.did g.D.Folder.leads g.D.Folder.absent g.D.File.Source.gave g.D.File.Source.failures g.S.Source.gave g.S.Source.failures g.O.Sink.took g.E.Sink.took c.args.flags.now
          (record { did_nothing = g.met.D.Folder.did_nothing; did_more = g.met.D.Folder.did_more; out_nothing = g.met.O.Sink.took_nothing; out_more = g.met.O.Sink.took_more; err_nothing = g.met.E.Sink.took_nothing; err_more = g.met.E.Sink.took_more }) c.args.script.items c.args.devices.now _ c.loop-home.yielded (c.in-Some.home, c.in-Some.passes) c.loop-home.devices c.edit_package-status.new.devices
          c.loop-home.whole _ (c.edit_package-status.ensures.handled.0, c.edit_package-status.result) inv.handled c.edit_package-status.ensures.handled.1
          (elim c.else-status-eq-FAILED.branch [
            | else-status-eq-FAILED-via-then-status-eq-FAILED+else-not-flags w ↦ ap (λ k. is_last k c.edit_package-status.result) w.if-not-flags.false
            | else-status-eq-FAILED-via-else-status-eq-FAILED w ↦ goes_on_after c.args.flags.now.k c.edit_package-status.result w.if-status-eq-FAILED.false
          ])
          c.whole_status-whole-in-loop-home.ensures;
      idle = λ three.
          let both = three_both g.D.Folder.did g.D.Folder.leads g.D.Folder.absent g.D.File.Source.gave g.D.File.Source.failures g.S.Source.gave g.S.Source.failures g.O.Sink.took g.E.Sink.took c.args.flags.now
          (record { did_nothing = g.met.D.Folder.did_nothing; did_more = g.met.D.Folder.did_more; out_nothing = g.met.O.Sink.took_nothing; out_more = g.met.O.Sink.took_more; err_nothing = g.met.E.Sink.took_nothing; err_more = g.met.E.Sink.took_more }) c.args.script.items c.args.devices.now _ _ c.loop-home.devices c.edit_package-status.new.devices c.loop-home.whole _ c.edit_package-status.ensures.handled.0 c.edit_package-status.result
          inv.handled c.edit_package-status.ensures.handled.1 c.whole_status-whole-in-loop-home.ensures three in
          run_more g.D.Folder.did MayHoldNothing g.met.D.Folder.did_more c.args.devices.now.draft.folder c.loop-home.devices.draft.folder c.edit_package-status.new.devices.draft.folder
          (inv.idle both.0) (c.edit_package-status.ensures.files.idle both.1);
      shown = λ all.
          g.met.D.Folder.did_more _ _ _ [] [] (inv.shown all)
          (c.edit_package-status.ensures.files.shown (test_next (λ task. is_shown c.args.flags.now.stdout task.1) _ _ _ _ here all));
    }

pub returns-clause-safe : goal.returns-clause-safe
returns-clause-safe g c =
    elim c.match-next.branch [
      | in-None w ↦
          subst (λ d. SafeRun g.D.Folder.did (MayHold g.D.Folder.leads g.D.File.Source.gave c.args.flags.now.k c.args.script.items) c.args.devices.now.draft.folder d.draft.folder) (sym w.devices-is) c.loop-home.invariant.safe
      | in-Some+then-status-eq-FAILED+then-not-flags w ↦
          subst (λ d. SafeRun g.D.Folder.did (MayHold g.D.Folder.leads g.D.File.Source.gave c.args.flags.now.k c.args.script.items) c.args.devices.now.draft.folder d.draft.folder) (sym w.devices-is)
          (run_more g.D.Folder.did (MayHold g.D.Folder.leads g.D.File.Source.gave c.args.flags.now.k c.args.script.items) g.met.D.Folder.did_more c.args.devices.now.draft.folder c.loop-home.devices.draft.folder
          w.edit_package-status.new.devices.draft.folder c.loop-home.invariant.safe
          (of_package g.D.Folder.did g.D.Folder.leads g.D.File.Source.gave c.args.flags.now.k c.args.script.items _
          (contains_next _ _ _ _ (turn _ _ _ c.in_ok-packages.ensures c.loop-home.yielded _ _ _ c.into_iter-home-iterator.ensures.into_iter_gives.0 c.loop-home.yielded_by _ c.next.ensures.steps (w.in-Some.home, w.in-Some.passes) w.in-Some.is))
          _ _ w.edit_package-status.ensures.files.safe))
    ]

pub returns-clause-status : goal.returns-clause-status
returns-clause-status g c =
    elim c.match-next.branch [
      | in-None w ↦
          at_end (IsStatusOfAll g.D.Folder.did g.D.Folder.leads g.D.Folder.absent g.D.File.Source.gave g.D.File.Source.failures g.S.Source.gave g.S.Source.failures g.O.Sink.took g.E.Sink.took c.args.flags.now c.args.script.items c.args.devices.now) w.devices-is w.whole-is
          (handled_all g.D.Folder.did g.D.Folder.leads g.D.Folder.absent g.D.File.Source.gave g.D.File.Source.failures g.S.Source.gave g.S.Source.failures g.O.Sink.took g.E.Sink.took c.args.flags.now
          (record { did_nothing = g.met.D.Folder.did_nothing; did_more = g.met.D.Folder.did_more; out_nothing = g.met.O.Sink.took_nothing; out_more = g.met.O.Sink.took_more; err_nothing = g.met.E.Sink.took_nothing; err_more = g.met.E.Sink.took_more }) c.args.script.items c.args.devices.now _ c.loop-home.devices c.loop-home.whole c.loop-home.invariant.handled
          (end _ _ _ c.in_ok-packages.ensures c.loop-home.yielded _ _ _ c.into_iter-home-iterator.ensures.into_iter_gives.0 c.loop-home.yielded_by _ c.next.ensures.steps w.in-None.is))
      | in-Some+then-status-eq-FAILED+then-not-flags w ↦
          at_end (IsStatusOfAll g.D.Folder.did g.D.Folder.leads g.D.Folder.absent g.D.File.Source.gave g.D.File.Source.failures g.S.Source.gave g.S.Source.failures g.O.Sink.took g.E.Sink.took c.args.flags.now c.args.script.items c.args.devices.now) w.devices-is w.whole-is
          (handled_last g.D.Folder.did g.D.Folder.leads g.D.Folder.absent g.D.File.Source.gave g.D.File.Source.failures g.S.Source.gave g.S.Source.failures g.O.Sink.took g.E.Sink.took c.args.flags.now
          (record { did_nothing = g.met.D.Folder.did_nothing; did_more = g.met.D.Folder.did_more; out_nothing = g.met.O.Sink.took_nothing; out_more = g.met.O.Sink.took_more; err_nothing = g.met.E.Sink.took_nothing; err_more = g.met.E.Sink.took_more }) c.args.script.items c.args.devices.now _ c.loop-home.devices w.edit_package-status.new.devices c.loop-home.whole _ (w.in-Some.home, w.in-Some.passes.items)
          (w.edit_package-status.ensures.handled.0, w.edit_package-status.result) c.loop-home.invariant.handled w.edit_package-status.ensures.handled.1 w.whole_status-whole-in-loop-home.ensures _
          (turn _ _ _ c.in_ok-packages.ensures c.loop-home.yielded _ _ _ c.into_iter-home-iterator.ensures.into_iter_gives.0 c.loop-home.yielded_by _ c.next.ensures.steps (w.in-Some.home, w.in-Some.passes) w.in-Some.is)
          (ap (λ k. is_last k w.edit_package-status.result) w.if-not-flags.true ∙ ap (is_last false) w.if-status-eq-FAILED.true))
    ]

pub returns-clause-idle : goal.returns-clause-idle
returns-clause-idle g c three =
    elim c.match-next.branch [
      | in-None w ↦
          let whole : c.loop-home.whole ≡ 3 = sym w.whole-is ∙ ok_is _ _ three in
          subst (λ d. SafeRun g.D.Folder.did MayHoldNothing c.args.devices.now.draft.folder d.draft.folder) (sym w.devices-is) (c.loop-home.invariant.idle whole)
      | in-Some+then-status-eq-FAILED+then-not-flags w ↦
          let both = three_both g.D.Folder.did g.D.Folder.leads g.D.Folder.absent g.D.File.Source.gave g.D.File.Source.failures g.S.Source.gave g.S.Source.failures g.O.Sink.took g.E.Sink.took c.args.flags.now
          (record { did_nothing = g.met.D.Folder.did_nothing; did_more = g.met.D.Folder.did_more; out_nothing = g.met.O.Sink.took_nothing; out_more = g.met.O.Sink.took_more; err_nothing = g.met.E.Sink.took_nothing; err_more = g.met.E.Sink.took_more }) c.args.script.items c.args.devices.now _ _ c.loop-home.devices w.edit_package-status.new.devices c.loop-home.whole _ w.edit_package-status.ensures.handled.0 w.edit_package-status.result
          c.loop-home.invariant.handled w.edit_package-status.ensures.handled.1 w.whole_status-whole-in-loop-home.ensures (sym w.whole-is ∙ ok_is _ _ three) in
          subst (λ d. SafeRun g.D.Folder.did MayHoldNothing c.args.devices.now.draft.folder d.draft.folder) (sym w.devices-is)
          (run_more g.D.Folder.did MayHoldNothing g.met.D.Folder.did_more c.args.devices.now.draft.folder c.loop-home.devices.draft.folder w.edit_package-status.new.devices.draft.folder
          (c.loop-home.invariant.idle both.0) (w.edit_package-status.ensures.files.idle both.1))
    ]

pub returns-clause-shown : goal.returns-clause-shown
returns-clause-shown g c all =
    elim c.match-next.branch [
      | in-None w ↦
          subst (λ d. g.D.Folder.did c.args.devices.now.draft.folder [] d.draft.folder) (sym w.devices-is) (c.loop-home.invariant.shown all)
      | in-Some+then-status-eq-FAILED+then-not-flags w ↦
          subst (λ d. g.D.Folder.did c.args.devices.now.draft.folder [] d.draft.folder) (sym w.devices-is)
          (g.met.D.Folder.did_more _ _ _ [] [] (c.loop-home.invariant.shown all)
          (w.edit_package-status.ensures.files.shown (test_next (λ task. is_shown c.args.flags.now.stdout task.1) _ _ _ _
          (turn _ _ _ c.in_ok-packages.ensures c.loop-home.yielded _ _ _ c.into_iter-home-iterator.ensures.into_iter_gives.0 c.loop-home.yielded_by _ c.next.ensures.steps (w.in-Some.home, w.in-Some.passes) w.in-Some.is) all)))
    ]
