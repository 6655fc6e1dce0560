use Rattle.std.proofs.Common.{◌∙◌, ◌||◌, map, ap, sym, refl}
use Rattle.std.proofs.lemmas.Bool.{false≢true}
use Rattle.bz_tree.specs.Rows.{part_view}
use Rattle.bz_canonical.proofs.ListedArguments.{lists_all, lists_next}
use Rattle.std.proofs.lemmas.List.{drop_all}
use Rattle.bz_canonical.proofs.listed.put_lists.Goals.{else-here-via-then-here+in_ok-put_list_at+else-not-branch, else-here-via-else-here}
use Rattle.bz_canonical.proofs.listed.put_lists.Goals as goal

pub loop-span-init : goal.loop-span-init
loop-span-init c = λ names from start args stands after are text reads. record { from = from; start = start; args = args; stands = stands; after = after; are = are; text = text; reads = reads; whole_is = refl }

pub loop-span-preserved : goal.loop-span-preserved
loop-span-preserved c = λ names from start args stands after are text reads.
    let here = c.either-here.ensures ∙ ap (λ b. c.args.all || b) c.is_asked.ensures in
    let left = c.loop-span.invariant names from start args stands after are text reads in
    elim c.else-here.branch [
      | else-here-via-then-here+in_ok-put_list_at+else-not-branch w ↦
          lists_next c.args.max_depth names c.args.chunk.now c.args.all c.either-here.result c.args.spans.now c.loop-span.span-index _ _ _ _ c.loop-span-test.true here
          (λ yes args reads. ap (λ x. map part_view x.items) w.parts-is ∙ w.in_ok-put_list_at.ensures w.if-not-branch.false args reads)
          (λ other. absurd (false≢true (sym other ∙ w.if-here.true))) left
      | else-here-via-else-here w ↦
          lists_next c.args.max_depth names c.args.chunk.now c.args.all c.either-here.result c.args.spans.now c.loop-span.span-index _ _ _ _ c.loop-span-test.true here
          (λ yes. absurd (false≢true (sym w.if-here.false ∙ yes))) (λ other. ap (λ x. map part_view x.items) w.parts-is) left
    ]

pub returns : goal.returns
returns c = λ put names from start args stands after are text reads.
    lists_all c.args.max_depth names c.args.chunk.now c.args.all _ _ _ (drop_all c.loop-span.span-index c.args.spans.now c.loop-span-test.false) (c.loop-span.invariant names from start args stands after are text reads)
