use Rattle.bz_canonical.proofs.Pendings.{pend_more}
use Rattle.bz_canonical.proofs.ReadArguments.{value_read}
use Rattle.bz_canonical.proofs.spans.note_value.Goals as goal

pub returns-in-Some : goal.returns-in-Some
returns-in-Some c = λ attr named head text begun p.
    let at = c.args.at in
    let end = c.in-Some.field-0 in
    let read = value_read c.args.depth attr at.rest.now c.args.value.now end.comma.now end.rest.now named head c.in-Some.ensures in
    (read.0, pend_more text c.args.written.now.items begun at.from.now at.rest.now read.0 end.rest.now p read.1, (read.2, read.3))
