use Rattle.bz_engine.proofs.OnlyPass.{for_those}
use Rattle.bz_engine.proofs.Placed.{unplaced_found}
use Rattle.bz_engine.proofs.answered.copy_printed.Goals as goal

pub put_unchanged-requires-clause-only : goal.put_unchanged-requires-clause-only
put_unchanged-requires-clause-only c =
    for_those c.args.script.home.now c.args.script.passes.now c.args.marked.only _ _ (λ s on. unplaced_found c.args.script.max_depth _ c.args.marked.found.now s on) c.requires.only

pub put_message-requires-clause-only : goal.put_message-requires-clause-only
put_message-requires-clause-only c =
    for_those c.args.script.home.now c.args.script.passes.now c.args.marked.only _ _ (λ s on. unplaced_found c.args.script.max_depth _ c.args.marked.found.now s on) c.requires.only
