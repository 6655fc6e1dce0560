use Rattle.std.proofs.Common.{[], ap, ◌∙◌, map}
use Rattle.std.proofs.lemmas.List.{take_all}
use Rattle.bz_passes.proofs.Steps.{mapped_more}
use Rattle.bz_passes.proofs.kept.nothing_told.Goals as goal

pub loop-command-preserved : goal.loop-command-preserved
loop-command-preserved g c =
    mapped_more (λ (command : g.row.C.Denot). []) c.loop-command.logs.items c.push.new.list.items c.new.result c.args.commands.now c.loop-command._command-index c._command-item.result c.loop-command-test.true c.in_ok-push.ensures.items c.new.ensures c.loop-command.invariant

pub returns : goal.returns
returns g c = c.loop-command.invariant ∙ ap (map (λ (command : g.row.C.Denot). [])) (take_all c.loop-command._command-index c.args.commands.now c.loop-command-test.false)
