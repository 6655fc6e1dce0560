use Rattle.std.proofs.Common.{◌≡◌, ◌≤◌, length, length-take-le, take, arith}
use Rattle.std.proofs.lemmas.Grind.{common_steps}
use Rattle.bz_devices.proofs.Pieces.{read_after}
use Rattle.bz_devices.proofs.input.read_at_most.Goals as goal

pub returns-in-Ok-clause-read : goal.returns-in-Ok-clause-read
returns-in-Ok-clause-read g c =
    let n = c.in-Ok.n in
    let end = c.args.end in
    let before = c.args.bytes.now.items in
    let within : n ≤ length c.read.new.buf = c.in-Ok.ensures.within in
    let front : take end c.deref_mut.result.now ≡ take end before = grind (arith, common_steps, c.deref_mut.ensures.value, c.in_ok-make_room.ensures.front, c.make_room.ensures.front) in
    (take n c.read.new.buf, c.in-Ok.ensures.ok, read_after c.deref_mut.result.now (take end before) c.read.new.buf _ _ end n c.make_room.new.bytes.len front (length-take-le end before c.requires.within) within (grind (arith, common_steps)), grind (arith, common_steps), grind (arith, common_steps))

pub returns-in-Ok-clause-within : goal.returns-in-Ok-clause-within
returns-in-Ok-clause-within g c = grind (arith, common_steps)

pub returns-in-Err-clause-err : goal.returns-in-Err-clause-err
returns-in-Err-clause-err g c = grind (arith, common_steps)
