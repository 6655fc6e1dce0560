use Rattle.std.proofs.Common.{◌∙◌, sym, subst}
use Rattle.bz_canonical.specs.private.Strings.{IsSingleFront}
use Rattle.bz_canonical.proofs.SingleStrings.{single_front}
use Rattle.bz_canonical.proofs.front.read_single_string.Goals as goal

pub returns : goal.returns
returns c =
    subst (λ xs. IsSingleFront c.args.text.now xs c.in_ok-rest.rest.now) (sym c.split_at.ensures.front)
    (single_front c.args.text.now c.in_ok-inside.inside.now c.in_ok-rest.rest.now c.plain_len.result c.in_ok-inside.ensures c.plain_len.ensures.len (sym c.split_at.ensures.back ∙ c.in_ok-rest.ensures))
