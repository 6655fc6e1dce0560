use Rattle.std.proofs.lemmas.Result.{IfOk-weaker}
use Rattle.bz_engine.specs.private.Edits.{run_of}
use Rattle.bz_engine.proofs.OnlyPass.{for_those}
use Rattle.bz_engine.proofs.Placed.{placed_edits, placed_spans, without_place}
use Rattle.bz_engine.proofs.answered.copy_edited.Goals as goal

pub copy_placed-requires-clause-only : goal.copy_placed-requires-clause-only
copy_placed-requires-clause-only c =
    for_those c.args.script.home.now c.args.script.passes.now c.args.marked.only _ _
    (λ s on. without_place c.args.script.max_depth _ c.args.script.passes.now c.args.marked.found.now c.with_place-placed.result s c.with_place-placed.ensures on) c.requires.only

pub copy_placed-requires-clause-spans : goal.copy_placed-requires-clause-spans
copy_placed-requires-clause-spans c =
    placed_spans c.args.script.max_depth c.args.script.passes.now c.args.marked.found.now c.with_place-placed.result c.with_place-placed.ensures c.requires.spans

pub returns : goal.returns
returns c =
    IfOk-weaker c.copy_placed.result _ _
    (λ done edits. placed_edits (run_of c.args.script) c.args.marked.found.now c.with_place-placed.result c.args.progress.now c.copy_placed.new.progress c.args.text.now.items c.copy_placed.new.text.items done
    c.with_place-placed.ensures c.requires.spans edits) c.copy_placed.ensures
