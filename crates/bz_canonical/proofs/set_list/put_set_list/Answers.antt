use Rattle.std.proofs.Common.{◌-◌, ◌∙◌, length, take, ap, sym}
use Rattle.bz_canonical.proofs.SetLines.{values_set, values_stay}
use Rattle.bz_canonical.proofs.set_list.put_set_list.Goals as goal

pub returns-then-list : goal.returns-then-list
returns-then-list c =
    let old = c.args.written.now.items in
    values_stay c.args.max_depth c.args.new c.args.lines.now old old c.in-Some.list c.in-Some.ensures (sym c.eq.ensures ∙ c.if-eq.false) c.if-list.true

pub returns : goal.returns
returns c =
    let list = c.in-Some.list in
    let head_is = c.in-Some-before.ensures ∙ ap (λ t. take (length t - length list.inside.now) t) c.as_bytes.ensures.value in
    values_set c.args.max_depth c.args.new c.args.lines.now c.in-Some-before.head.now c.args.written.now.items c.extend_from_slice.new.list.items c.put_values.new.written.items list c.in-Some.ensures (sym c.eq.ensures ∙ c.if-eq.false) c.if-list.false head_is
    c.in_ok-extend_from_slice.ensures.items (c.in_ok-put_values.ensures c.if-not-branch.false)
