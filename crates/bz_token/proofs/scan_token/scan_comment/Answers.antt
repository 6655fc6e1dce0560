use Rattle.bz_token.specs.declared.token.Kind.TheVariants.{Comment}
use Rattle.bz_token.proofs.Scanning.{comment_scanned, scanned_as}
use Rattle.bz_token.proofs.scan_token.scan_comment.Goals as goal

pub returns-clause-comment : goal.returns-clause-comment
returns-clause-comment c =
    let made = c.on_one_line.ensures in
    let found = c.line_comment_len.ensures in
    scanned_as c.args.bytes.now c.on_one_line.result Comment c.line_comment_len.result made.kind made.len made.newline
    (comment_scanned c.args.bytes.now c.line_comment_len.result found.in_range.0 found.in_range.1 found.in_line found.comment found.longest)
