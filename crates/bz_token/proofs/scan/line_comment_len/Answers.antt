use Rattle.std.proofs.Common.{arith, not}
use Rattle.std.proofs.lemmas.List.{length-take-le}
use Rattle.bz_token.specs.Common.{is_newline}
use Rattle.std.proofs.lemmas.List.Sums.{prefix_len-le-length}
use Rattle.bz_token.proofs.Gaps.{comment_front}
use Rattle.bz_token.proofs.scan.line_comment_len.Goals as goal

pub returns-clause-comment : goal.returns-clause-comment
returns-clause-comment c =
    comment_front c.args.bytes.now c.line_len.result c.trimmed_len.result c.requires c.line_len.ensures (omega (arith, c.trimmed_len.ensures.in_range)) (omega (arith, c.trimmed_len.ensures.in_range.1, length-take-le c.line_len.result c.args.bytes.now (omega (arith, c.line_len.ensures, prefix_len-le-length (λ b. not (is_newline b)) c.args.bytes.now)))) c.trimmed_len.ensures.trimmed
