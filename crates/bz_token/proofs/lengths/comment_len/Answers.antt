use Rattle.bz_token.specs.declared.token.Kind.TheVariants.{Comment}
use Rattle.bz_token.proofs.TokenLengths.{scanned_of}
use Rattle.bz_token.proofs.lengths.comment_len.Goals as goal

pub returns-in-35-clause-comment : goal.returns-in-35-clause-comment
returns-in-35-clause-comment c = λ some. scanned_of Comment c.args.bytes.now c.scan_comment.result c.scan_comment.ensures.comment c.scan_comment.ensures.kind
