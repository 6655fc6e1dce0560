use Rattle.std.proofs.Common.{◌∙◌, ap, subst}
use Rattle.std.specs.Prelude.{Ok}
use Rattle.bz_token.specs.Places.{line_at}
use Rattle.bz_engine.specs.private.ChunkRead.{IsReadAs}
use Rattle.bz_engine.specs.private.Edits.{run_of}
use Rattle.bz_engine.proofs.ChunkEdits.{blank_done, scripted_edited}
use Rattle.bz_engine.proofs.edit.edit_chunk.Goals as goal

pub returns-in_default-clause-edited : goal.returns-in_default-clause-edited
returns-in_default-clause-edited c cs statements kept =
    let old = c.args.progress.now in
    blank_done (run_of c.args.script) cs statements c.args.chunk.now old _ c.args.text.now.items
    kept (
      c.utf8.chunk,
      subst (λ o. IsReadAs c.args.script.max_depth old.line c.args.chunk.now (Ok o)) c.in_default.is
          (subst (IsReadAs c.args.script.max_depth old.line c.args.chunk.now) c.in-Ok.is c.requires.read),
    )
    (c.pass_lines.ensures ∙ ap (λ bytes. record old { line = line_at old.line bytes }) c.as_bytes.ensures.value)

pub returns-clause-edited : goal.returns-clause-edited
returns-clause-edited c cs statements kept =
    let run = run_of c.args.script in
    let depth = c.args.script.max_depth in
    let chunk = c.args.chunk.now in
    let old = c.args.progress.now in
    let mid = c.edit_row.new.progress in
    let before = c.args.text.now.items in
    let after = c.edit_row.new.text.items in
    let row = subst (λ o. IsReadAs depth old.line chunk (Ok o)) c.in-Some.is (subst (IsReadAs depth old.line chunk) c.in-Ok.is c.requires.read) in
    scripted_edited run cs statements chunk row.statement old mid _ before after c.in_ok-scripted.scripted c.in_ok-edited.edited
    kept (c.utf8.chunk, row.read) (c.in_ok-scripted.ensures.scripted row.statement row.of_row)
    (c.pass_lines-2.ensures ∙ ap (λ bytes. record mid { line = line_at mid.line bytes }) c.as_bytes-2.ensures.value) c.in_ok-edited.ensures
