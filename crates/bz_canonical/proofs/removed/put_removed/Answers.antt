use Rattle.std.proofs.Common.{◌<◌, length, arith, tests}
use Rattle.bz_canonical.proofs.RemovedLines.{removes_read, some_of}
use Rattle.bz_canonical.proofs.removed.put_removed.Goals as goal

pub returns : goal.returns
returns c =
    let some : 0 < length c.args.old.values.now = grind (arith, tests, c.if-is_empty.false, c.is_empty.ensures) in
    removes_read c.args.max_depth c.args.home.now c.args.old c.args.lines.now c.args.written.now.items c.put_edited.new.written.items c.put_edited.result (some_of c.args.old.values.now some) c.put_edited.ensures
