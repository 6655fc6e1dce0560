use Rattle.std.proofs.Common.{arith, map, rules, ◌∙◌}
use Rattle.std.proofs.lemmas.Grind.{common_steps}
use Rattle.bz_tree.specs.Rows.{part_view}
use Rattle.bz_rule.proofs.SameValues.{match_more}
use Rattle.bz_rule.proofs.commands.same_value.are_strings.Goals as goal

pub loop-word-preserved : goal.loop-word-preserved
loop-word-preserved c = record {
  within = search rules;
  matched =
      match_more c.args.words.now c.as_str.result.now c.word-item.result c.loop-word.word-index (map part_view c.args.parts.now) c.args.from c.loop-word.at c.in-Some.element.token c.in-Some.element.to _ c.loop-word.invariant.matched c.in-Some.ensures.some
      c.loop-word-test.true (c.as_str.ensures ∙ c.word-item.is) (search rules);
}

pub loop-word-init : goal.loop-word-init
loop-word-init c = grind (arith, common_steps)

pub returns-in_default : goal.returns-in_default
returns-in_default c = grind (arith, common_steps)

pub returns-in_default-string : goal.returns-in_default-string
returns-in_default-string c = grind (arith, common_steps)

pub returns-in_default-string-2 : goal.returns-in_default-string-2
returns-in_default-string-2 c = grind (arith, common_steps)

pub returns : goal.returns
returns c = grind (arith, common_steps)
