use Rattle.std.proofs.Common.{ap}
use Rattle.std.specs.Prelude.{Some}
use Rattle.bz_engine.specs.private.Edits.{run_of}
use Rattle.bz_engine.proofs.ChunkEdits.{passed_by}
use Rattle.bz_engine.proofs.Runs.{where_ok}
use Rattle.bz_engine.proofs.edit.edit_row.Goals as goal

pub returns-then-is_passed_by-clause-scripted : goal.returns-then-is_passed_by-clause-scripted
returns-then-is_passed_by-clause-scripted c s row =
    passed_by (run_of c.args.script) c.args.row.class s c.args.progress.now c.put_passed.new.progress
    c.args.text.now.items c.put_passed.new.text.items
    (c.is_passed_by.ensures c.if-is_passed_by.true s (c.in_ok-head.ensures s row.class row.parts)) row.parts.class c.in_ok-put_passed.ensures.last (c.in_ok-put_passed.ensures.text s row.parts)

pub returns-clause-scripted : goal.returns-clause-scripted
returns-clause-scripted c =
    where_ok c.edit_slot.result (λ scripted runs s row. runs s (ap Some (c.new.ensures s row.parts))) c.edit_slot.ensures.scripted

pub new-requires : goal.new-requires
new-requires c =
    let row = c.requires.row.1 in
    (c.requires.row.0, (row.parts, c.in_ok-head.ensures c.requires.row.0 row.class row.parts))
