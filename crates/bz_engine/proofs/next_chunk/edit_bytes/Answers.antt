use Rattle.std.proofs.Common.{ap, subst, sym}
use Rattle.std.specs.Prelude.{IfNone, Option}
use Rattle.bz_engine.specs.Progress.{Progress}
use Rattle.bz_engine.specs.declared.edit.Edited.{Edited}
use Rattle.bz_engine.specs.private.Edits.{DoesNothing}
use Rattle.bz_engine.specs.private.ChunkRead.{IsReadAs}
use Rattle.bz_engine.proofs.RowStatements.{read_by_text}
use Rattle.bz_engine.proofs.next_chunk.edit_bytes.Goals as goal

pub edit_chunk-requires-clause-read : goal.edit_chunk-requires-clause-read
edit_chunk-requires-clause-read c =
    let read = c.read_text-read in
    let nothing = subst (λ (o : Option Edited). IfNone o (DoesNothing c.args.progress.now c.copy_whole.new.progress c.args.text.now.items c.copy_whole.new.text.items)) c.in_default.is c.in_ok-edited.ensures.nothing in
    subst (λ (p : Progress). IsReadAs c.args.script.max_depth p.line c.in-Ok.whole.now read.result) (sym nothing.0)
    (subst (λ n. IsReadAs c.args.script.max_depth n c.in-Ok.whole.now read.result) (ap (λ p. p.line) c.progress.view_is)
    (read_by_text c.progress.inside.line c.args.script.max_depth c.in-Ok.whole.now read.result read.ensures.statement read.ensures.blank read.ensures.fault))
