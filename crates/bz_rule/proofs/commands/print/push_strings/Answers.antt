use Rattle.std.proofs.Common.{map}
use Rattle.bz_tree.specs.Rows.{part_view}
use Rattle.bz_rule.proofs.PrintedValues.{flat_strings, if_both, if_three, one_list, one_string}
use Rattle.bz_rule.proofs.commands.print.push_strings.Goals as goal

pub returns-in-Some : goal.returns-in-Some
returns-in-Some c =
    if_both c.push_string.result _ _ _ c.push_string.ensures.word c.push_string.ensures.is
    (λ is word told nodes after read. one_string is c.in-Some.literal.now _ _ nodes (c.in-Some.ensures nodes after read) word told)

pub returns-in_default-only_list : goal.returns-in_default-only_list
returns-in_default-only_list c = λ nodes after read. flat_strings nodes _ (c.in_default.ensures nodes after read) (c.in_default-only_list.ensures.list nodes after read)

pub returns : goal.returns
returns c =
    if_three c.push_list.result _ _ _ _ c.push_list.ensures.are c.push_list.ensures.words c.push_list.ensures.none
    (λ are told words none nodes after read.
    one_list are nodes after (map part_view c.args.parts.now) c.in-Some-only_list.list _ _ (c.in-Some-only_list.ensures.list nodes after read) told words none)
