use Rattle.std.proofs.Common.{◌∷◌, true, subst}
use Rattle.bz_canonical.specs.private.Arguments.{IsHeadRead}
use Rattle.bz_canonical.proofs.AddedElements.{sought_more, sought_none}
use Rattle.bz_canonical.proofs.ListLines.{sought_lines}
use Rattle.bz_canonical.proofs.found_value.are_in.Goals as goal

pub loop-init : goal.loop-init
loop-init c = sought_none c.args.home.now c.args.sought.values.now c.is_on_lines-on_lines.result c.in_ok-inside.inside.now

pub loop-preserved : goal.loop-preserved
loop-preserved c = sought_more c.args.home.now c.args.sought.values.now c.is_on_lines-on_lines.result c.loop.one c.in_ok-inside.inside.now c.loop.rest.now c.loop.there c.in_ok-equal.equal c.either-both.result c.in_ok-next.next c.loop.invariant
    c.in_ok-next.ensures c.in_ok-equal.ensures c.either-both.ensures

pub returns-in-Some : goal.returns-in-Some
returns-in-Some c =
    let head = subst (λ text. IsHeadRead c.args.sought.attr.now text (91 ∷ c.in_ok-inside.inside.now) true) c.as_bytes.ensures.value
    (subst (λ attr. IsHeadRead attr c.as_bytes.result.now (91 ∷ c.in_ok-inside.inside.now) true) c.as_bytes-2.ensures.value c.in_ok-inside.ensures.head) in
    sought_lines c.args.max_depth c.args.home.now c.args.sought c.args.lines.now c.in_ok-inside.inside.now c.loop.rest.now c.in-Some.end.now c.is_on_lines-on_lines.result c.loop.one c.loop.there
    c.in_ok-inside.ensures.deep head c.loop.invariant c.in-Some.ensures (c.is_last.ensures c.if-not-is_last.false)
