use Rattle.bz_token.specs.declared.token.Kind.TheVariants.{String}
use Rattle.bz_canonical.proofs.Tokens.{token_front, quoted_stays}
use Rattle.bz_canonical.proofs.front.after_any_string.Goals as goal

pub returns : goal.returns
returns c =
    let text = c.args.text.now in
    let n = c.any_string_len.result in
    let some = c.in_ok-rest.ensures.some in
    token_front String text c.in_ok-rest.rest.now n (c.any_string_len.ensures some).1.whole (quoted_stays text c.in_ok-_inside._inside.now n some c.in_ok-_inside.ensures) c.in_ok-rest.ensures.rest
