use Rattle.std.proofs.Common.{◌≡◌, arith, length}
use Rattle.bz_canonical.proofs.EditedLines.{in_place}
use Rattle.bz_canonical.proofs.edited.put_in_place.Goals as goal

pub returns : goal.returns
returns c = λ put front token start_is is.
    let len : c.len-len.result ≡ length c.args.written.now.items = omega (arith, c.len-len.ensures) in
    in_place c.args.written.now.items front token c.copy_within.new.self.items c.truncate.new.self.items c.push.new.list.items c.args.start c.len-len.result start_is len is
    c.copy_within.ensures.items c.truncate.ensures.items c.in_ok-push.ensures.items
