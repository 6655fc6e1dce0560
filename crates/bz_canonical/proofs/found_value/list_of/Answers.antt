use Rattle.std.proofs.Common.{true, sym, subst, ◌∙◌}
use Rattle.bz_canonical.specs.private.Arguments.{IsHeadRead}
use Rattle.bz_canonical.proofs.found_value.list_of.Goals as goal

pub returns-clause-head : goal.returns-clause-head
returns-clause-head c =
    let attr = c.args.attr.now in
    let text = c.args.text.now in
    subst (λ v. IsHeadRead attr text v true) c.in_ok-inside.ensures (subst (λ b. IsHeadRead attr text c.in_ok-read.read.value.now b) (sym c.are_same.ensures ∙ c.if-not-are_same.false) (c.in_ok-read.ensures attr).0)
