use Rattle.std.proofs.Common.{◌∷◌, true, subst}
use Rattle.bz_canonical.specs.private.Arguments.{IsHeadRead}
use Rattle.bz_canonical.proofs.SetLines.{compared_more, compared_none, list_compared}
use Rattle.bz_canonical.proofs.set_list.compare_list.Goals as goal

pub loop-init : goal.loop-init
loop-init c = compared_none c.args.new.values.now c.is_on_lines-on_lines.result c.in_ok-inside.inside.now

pub loop-preserved : goal.loop-preserved
loop-preserved c = compared_more c.args.new.values.now c.is_on_lines-on_lines.result c.loop.one c.in_ok-inside.inside.now c.loop.rest.now _ _ c.in_ok-next.next c.loop.invariant c.in_ok-next.ensures c.left_after-left.ensures

pub returns-in-Some : goal.returns-in-Some
returns-in-Some c =
    let head = subst (λ text. IsHeadRead c.args.new.attr.now text (91 ∷ c.in_ok-inside.inside.now) true) c.as_bytes.ensures.value
    (subst (λ attr. IsHeadRead attr c.as_bytes.result.now (91 ∷ c.in_ok-inside.inside.now) true) c.as_bytes-2.ensures.value c.in_ok-inside.ensures.head) in
    list_compared c.args.max_depth c.args.new c.args.lines.now c.loop.rest.now (record { inside = c.in_ok-inside.inside; end = c.in-Some.end; same = c.none_left-same.result }) c.is_on_lines-on_lines.result c.loop.one _
    c.in_ok-inside.ensures.deep head c.loop.invariant c.in-Some.ensures (c.is_last.ensures c.if-not-is_last.false) c.none_left-same.ensures
