use Rattle.std.proofs.Common.{refl}
use Rattle.bz_token.specs.declared.token.Kind.TheVariants.{Comment}
use Rattle.bz_canonical.proofs.Tokens.{token_front}
use Rattle.bz_canonical.proofs.front.after_comment.Goals as goal

pub returns : goal.returns
returns c =
    let found = c.any_comment_len.ensures c.in_ok-rest.ensures.some in
    token_front Comment c.args.text.now c.in_ok-rest.rest.now c.any_comment_len.result found.1.whole refl c.in_ok-rest.ensures.rest
