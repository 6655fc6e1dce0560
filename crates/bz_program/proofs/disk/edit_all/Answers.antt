use Rattle.std.proofs.Common.{refl, ◌∙◌}
use Rattle.bz_program.proofs.NewDevices.{edited}
use Rattle.bz_program.proofs.disk.edit_all.Goals as goal

pub returns : goal.returns
returns g c =
    edited _ _ _ _ _ g.S.Source.gave g.S.Source.failures g.O.Sink.took g.E.Sink.took c.args.flags.now c.args.script.items _ c.args.input c.args.out c.args.err
    (record { draft = c.in_ok-new.field-0; input = c.args.input; console = c.in_ok-new-2.field-0 }) c.edit_packages.new.devices c.edit_packages.result
    (c.in_ok-new.ensures ∙ c.new.ensures) refl c.in_ok-new-2.ensures.0 c.in_ok-new-2.ensures.1
    c.edit_packages.ensures.safe c.edit_packages.ensures.status c.edit_packages.ensures.idle c.edit_packages.ensures.shown
