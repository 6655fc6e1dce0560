use Rattle.std.proofs.lemmas.List.{take_rest}
use Rattle.std.proofs.Common.{refl}
use Rattle.bz_token.proofs.Scanning.{string_scanned, open_text}
use Rattle.bz_token.proofs.scan_token.string_at.Goals as goal

pub returns-in_default-clause-none : goal.returns-in_default-clause-none
returns-in_default-clause-none c =
    let never = rw (take_rest, c.quote_count.ensures) at c.in_default.ensures.none in
    open_text c.args.bytes.now c.args.opened c.requires never

pub returns-clause-string : goal.returns-clause-string
returns-clause-string c =
    let row = c.quote_count.ensures in
    let range = rw (take_rest, row) at c.in-Some.ensures.in_range in
    let closed = rw (take_rest, row) at c.in-Some.ensures.closed in
    let one_line = rw (take_rest, row) at c.in-Some.ensures.one_line in
    (rw row (string_scanned c.args.bytes.now c.args.opened c.in-Some.body.len c.in-Some.body.has_newline c.requires range.0 range.1 closed one_line), refl)
