use Rattle.std.proofs.Common.{ap, map, refl, sym, ◌∙◌}
use Rattle.bz_tree.specs.Rows.{part_view}
use Rattle.bz_tree.specs.Tree.{Statement}
use Rattle.bz_attribute.specs.RowPlaces.{IsRuleRow}
use Rattle.bz_attribute.specs.Rules.{Rule}
use Rattle.bz_attribute.specs.declared.done.Done.{Done}
use Rattle.bz_attribute.proofs.RowEdits.{changed, seen_within, unchanged}
use Rattle.bz_rule.proofs.NamedArgument.{has_found}
use Rattle.bz_rule.proofs.SetEdits.{argument_added}
use Rattle.bz_rule.proofs.commands.set.set_if_absent.Goals as goal

pub returns-then-is_some : goal.returns-then-is_some
returns-then-is_some c =
    let ps = map part_view c.args.parts.now in
    unchanged _ _ ps _ _ _ c.none.ensures (ap (λ (d : Done). d.changed) c.quiet.ensures)
    (λ s r h. rw (has_found c.args.attr.now s r ps c.find_argument.result h (c.find_argument.ensures.found s r h) ∙ sym c.is_some.ensures ∙ c.if-is_some.true) c.quiet.ensures)

pub returns : goal.returns
returns c =
    let attr = c.args.attr.now in
    let ps = map part_view c.args.parts.now in
    let none = λ (s : Statement) (r : Rule) (h : IsRuleRow s r ps). has_found attr s r ps c.find_argument.result h (c.find_argument.ensures.found s r h) ∙ sym c.is_some.ensures ∙ c.if-is_some.false in
    changed _ _ ps _ _ _ c.at.ensures (seen_within c.new_place.result c.args.parts.now c.new_place.ensures.within)
    (λ s r h. argument_added attr c.args.words.now s r ps _ c.new_place.result (none s r h) (c.new_place.ensures.place attr s r h (none s r h)) c.in_ok-write_argument.ensures)
    (λ s r h. rw (none s r h) refl)
