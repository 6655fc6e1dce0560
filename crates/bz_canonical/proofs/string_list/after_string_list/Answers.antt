use Rattle.std.proofs.Common.{◌+◌, ◌-◌, ◌∙◌, arith, false, sym, subst}
use Rattle.bz_tree.specs.declared.tree.GroupKind.TheVariants.{List as ListKind}
use Rattle.bz_canonical.specs.private.Segments.{Continues}
use Rattle.bz_canonical.proofs.GroupSegments.{begin}
use Rattle.bz_canonical.proofs.StringLists.{broken_list, plain_more}
use Rattle.bz_canonical.proofs.string_list.after_string_list.Goals as goal

pub loop-count-init : goal.loop-count-init
loop-count-init c = λ below. begin ListKind 2 below c.in_ok-inside.inside.now

pub loop-count-preserved : goal.loop-count-preserved
loop-count-preserved c = λ below.
    let l = c.loop-count in
    let side = c.in-Some.side in
    let read = c.in-Some.ensures in
    subst (λ b. Continues ListKind 2 below c.in_ok-inside.inside.now side.rest.now (l.count + 1) false b) (sym c.either-noted.ensures)
    (plain_more ListKind 2 below c.in_ok-inside.inside.now l.rest.now read.0 read.1 side.rest.now l.count false l.noted side.some (l.invariant below) read.2 (read.3 below) read.4)

pub returns-in_default : goal.returns-in_default
returns-in_default c =
    broken_list (c.args.depth - 1) c.args.depth c.args.text.now c.in_ok-inside.inside.now c.loop-count.rest.now c.in_ok-end.end.now c.loop-count.count c.loop-count.noted
    (omega (arith, c.if-depth-eq0.false)) c.in_ok-inside.ensures (c.loop-count.invariant (c.args.depth - 1)) (sym c.either-broken.ensures ∙ c.if-not-broken.false) c.in_ok-end.ensures
