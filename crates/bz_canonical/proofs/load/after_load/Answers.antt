use Rattle.std.proofs.Common.{◌+◌, false}
use Rattle.bz_tree.specs.declared.tree.GroupKind.TheVariants.{Load}
use Rattle.bz_canonical.proofs.GroupSegments.{begin_after, more_flat, finish_flat}
use Rattle.bz_canonical.proofs.load.after_load.Goals as goal

pub loop-init : goal.loop-init
loop-init c = (c.in_ok-rest.rest.now, c.in_ok-rest.ensures, 0, begin_after Load 0 0 c.in_ok-rest.rest.now)

pub loop-preserved : goal.loop-preserved
loop-preserved c =
    let i = c.loop.invariant in
    (i.0, i.1, i.2 + 1, more_flat Load false 0 0 i.0 c.loop.rest.now c.in-Some.next.now c.in_ok-rest-2.rest.now i.2 false false i.3 c.in-Some.ensures c.in_ok-rest-2.ensures)

pub returns : goal.returns
returns c =
    let i = c.loop.invariant in
    record { middle = i.0; end = c.loop.rest.now; many = i.2; file = i.1; names = finish_flat Load false 0 0 i.0 c.loop.rest.now i.2 false i.3; ends = c.in_ok-end.ensures }
