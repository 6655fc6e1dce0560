use Rattle.std.proofs.Common.{map, rules, sym, ◌∙◌}
use Rattle.bz_tree.specs.Rows.{part_view}
use Rattle.bz_attribute.proofs.ListWalk.{some_both}
use Rattle.bz_attribute.proofs.ValueElements.{next_emptied, next_later, when_none}
use Rattle.bz_attribute.proofs.elements.next_of_value.Goals as goal

pub loop-from-preserved : goal.loop-from-preserved
loop-from-preserved c = record {
  within = search rules;
  after = search rules;
  emptied =
      next_emptied (map part_view c.args.parts.now) c.args.at c.loop-from.end c.in-Some.from c.loop-from.invariant.emptied c.in-Some.ensures.some
      (when_none c.next_element-element-in-Some.result (sym c.is_some-in-Some.ensures ∙ c.if-is_some-2.false) c.next_element-element-in-Some.ensures.none);
}

pub returns-then-is_some-2-clause-some : goal.returns-then-is_some-2-clause-some
returns-then-is_some-2-clause-some c = some_both _ _ _ c.next_element-element-in-Some.result (λ e begins there. λ rest after read.
    next_later (map part_view c.args.parts.now) c.args.at c.loop-from.end c.in-Some.from e.from e.token e.to _ rest after c.loop-from.invariant.after begins c.loop-from.invariant.emptied c.in-Some.ensures.some there read) c.next_element-element-in-Some.ensures.from c.next_element-element-in-Some.ensures.some
