use Rattle.std.proofs.Common.{None, option_map, map, ap}
use Rattle.bz_tree.specs.Tree.{Segment}
use Rattle.bz_tree.specs.Rows.{part_view}
use Rattle.bz_attribute.specs.Rules.{value}
use Rattle.bz_attribute.proofs.EditedAt.{none_first}
use Rattle.bz_rule.specs.Print.{value_text}
use Rattle.bz_rule.proofs.PrintedFields.{named_value, one_argument, one_value}
use Rattle.bz_rule.proofs.commands.print.push_attribute.Goals as goal

pub returns-in_default-value_place : goal.returns-in_default-value_place
returns-in_default-value_place c =
    one_argument c.args.env.home.now c.args.attr.now c.args.head (map part_view c.args.parts.now) _ _ None
    (λ s r h. ap (option_map (λ (a : Segment). value_text (value a))) (none_first c.args.attr.now r.args (c.in_default-value_place.ensures.none s r h)))
    c.in_ok-push_str.ensures.bytes

pub returns : goal.returns
returns c =
    one_value c.args.env.home.now c.args.attr.now c.args.head (map part_view c.args.parts.now) _ _
    (λ s r h.
    let v = c.in-Some.ensures.some s r h in (
      value_text (value v.arg),
      ap (option_map (λ (a : Segment). value_text (value a))) v.first,
      c.in_ok-push_value.ensures (value v.arg) v.after v.read,
    ))

pub returns-in-Some-name : goal.returns-in-Some-name
returns-in-Some-name c =
    named_value c.args.env.home.now c.args.attr.now c.args.head (map part_view c.args.parts.now) _ _ c.in-Some-name.name.now (ap (option_map (λ text. text.now)) c.in-Some-name.is-0) c.in-Some-name.is-name-1
    c.in_ok-push_word.ensures
