use Rattle.std.proofs.Common.{◌≡◌, false, [], map, get_or, ap, ◌∙◌}
use Rattle.std.proofs.lemmas.List.{take_all}
use Rattle.bz_passes.specs.Passes.{Pass}
use Rattle.bz_passes.specs.Exchange.{no_slot}
use Rattle.bz_passes.proofs.Steps.{mapped_more, no_slot_fits}
use Rattle.bz_passes.proofs.kept.nothing_kept.Goals as goal

pub loop-pass-preserved : goal.loop-pass-preserved
loop-pass-preserved g c =
    let pass = get_or c.args.passes.now c.loop-pass.pass-index c.pass-item.result in
    let logs : c.in_ok-logs.logs.items ≡ map (λ command. []) pass.commands =
    c.in_ok-logs.ensures
    ∙ ap (map (λ command. [])) (c.as_slice.ensures.value ∙ ap (λ (p : Pass g.row.T.Denot g.row.C.Denot). p.commands) (c.pass.view_is ∙ c.pass-item.is)) in
    mapped_more no_slot c.loop-pass.kept.items c.push.new.list.items _ c.args.passes.now c.loop-pass.pass-index c.pass-item.result c.loop-pass-test.true c.in_ok-push.ensures.items (ap (λ logs. record { found = false; logs = logs }) logs) c.loop-pass.invariant

pub returns-clause-nothing : goal.returns-clause-nothing
returns-clause-nothing g c = c.loop-pass.invariant ∙ ap (map no_slot) (take_all c.loop-pass.pass-index c.args.passes.now c.loop-pass-test.false)

pub returns-clause-fits : goal.returns-clause-fits
returns-clause-fits g c =
    let all : c.loop-pass.kept.items ≡ map no_slot c.args.passes.now = c.loop-pass.invariant ∙ ap (map no_slot) (take_all c.loop-pass.pass-index c.args.passes.now c.loop-pass-test.false) in
    rw all (no_slot_fits _ c.args.passes.now)
