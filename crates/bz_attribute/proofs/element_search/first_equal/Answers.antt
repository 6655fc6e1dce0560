use Rattle.std.proofs.Common.{map, rules, sym, ◌∙◌}
use Rattle.bz_tree.specs.Rows.{part_view}
use Rattle.bz_attribute.proofs.ElementSearch.{sought_more, sought_on}
use Rattle.bz_attribute.proofs.element_search.first_equal.Goals as goal

pub loop-element-preserved : goal.loop-element-preserved
loop-element-preserved c = record {
  within = search rules;
  sought =
      sought_on c.args.home.now c.args.word.now (map part_view c.args.parts.now) c.args.from c.in-Some.element.to _
      (sought_more c.args.home.now c.args.word.now (map part_view c.args.parts.now) c.args.from c.loop-element.at c.in-Some.element.from c.in-Some.element.token c.in-Some.element.to _ c.loop-element.invariant.sought c.in-Some.ensures.some
      (sym c.if-is_word.false ∙ c.is_word.ensures))
      (c.pass_apart-at-in-Some.ensures.sought c.args.home.now);
}
