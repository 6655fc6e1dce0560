use Rattle.std.proofs.Common.{◌++◌, ℕ, List, ap, ◌∙◌, codes}
use Rattle.std.proofs.lemmas.List.{drop_all}
use Rattle.bz_canonical.proofs.AskedLines.{lines_all, lines_next}
use Rattle.bz_canonical.proofs.asked.put_asked_rule.Goals as goal

pub loop-span-preserved : goal.loop-span-preserved
loop-span-preserved c = λ names from start args stands after are text.
    lines_next names c.args.chunk.now c.args.spans.now c.loop-span.span-index _ _ _ _ c.loop-span-test.true (c.in_ok-put_lines.ensures c.if-not-branch.false) (c.loop-span.invariant names from start args stands after are text)

pub returns : goal.returns
returns c = λ put names from start args stands after are text.
    c.in_ok-push_str-2.ensures.bytes ∙ ap (λ (t : List ℕ). t ++ codes "\n    #\n)\n") (lines_all names c.args.chunk.now _ _ _ (drop_all c.loop-span.span-index c.args.spans.now c.loop-span-test.false) (c.loop-span.invariant names from start args stands after are text))
