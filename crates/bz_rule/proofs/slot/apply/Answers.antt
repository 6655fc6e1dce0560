use Rattle.std.proofs.Common.{◌≡◌, false, rules, ap, sym, ◌∙◌}
use Rattle.std.specs.Prelude.{is_some}
use Rattle.bz_attribute.specs.Effects.{holds_rule}
use Rattle.bz_attribute.specs.Rules.{rule_of}
use Rattle.bz_tree.specs.View.{nodes_view, slot_view}
use Rattle.bz_rule.proofs.Lawfulness.{told_note_stays, no_rule_stays, told_of_slot, unchanged_stays}
use Rattle.bz_rule.proofs.RowEdited.{told_of_none}
use Rattle.bz_rule.proofs.slot.apply.Goals as goal

pub returns-then-not-is_rule-clause-slot : goal.returns-then-not-is_rule-clause-slot
returns-then-not-is_rule-clause-slot c =
    let none : holds_rule (slot_view c.args.slot.now) ≡ false = ap (λ slot. holds_rule (slot_view slot)) c.in-Some.is ∙ ap (λ nodes. is_some (rule_of (nodes_view nodes))) (sym c.deref.ensures.value) ∙ sym c.is_rule.ensures ∙ c.if-not-is_rule.true in
    sym (ap slot_view c.in-Some.is) ∙ sym (no_rule_stays c.args.command.now c.args.home.now (slot_view c.args.slot.now) none)

pub returns-then-not-is_rule-clause-done : goal.returns-then-not-is_rule-clause-done
returns-then-not-is_rule-clause-done c =
    let none : holds_rule (slot_view c.args.slot.now) ≡ false = ap (λ slot. holds_rule (slot_view slot)) c.in-Some.is ∙ ap (λ nodes. is_some (rule_of (nodes_view nodes))) (sym c.deref.ensures.value) ∙ sym c.is_rule.ensures ∙ c.if-not-is_rule.true in
    c.quiet-then-not-is_rule.ensures ∙ sym (told_of_none c.args.command.now c.args.home.now (slot_view c.args.slot.now) none)

pub returns-then-not-done-clause-done : goal.returns-then-not-done-clause-done
returns-then-not-done-clause-done c = search rules

pub returns-then-not-done-clause-slot : goal.returns-then-not-done-clause-slot
returns-then-not-done-clause-slot c =
    sym (ap slot_view c.in-Some.is) ∙ unchanged_stays c.args.command.now c.args.home.now (slot_view c.args.slot.now) _ (returns-then-not-done-clause-done c) c.if-not-done.true

pub returns-then-not-done-clause-noted : goal.returns-then-not-done-clause-noted
returns-then-not-done-clause-noted c h = sym (ap slot_view c.in-Some.is)

pub returns-then-not-done-clause-changed : goal.returns-then-not-done-clause-changed
returns-then-not-done-clause-changed c =
    told_of_slot c.args.command.now c.args.home.now (slot_view c.args.slot.now) _ _ (search rules) (returns-then-not-done-clause-slot c) (returns-then-not-done-clause-done c)

pub returns-clause-slot : goal.returns-clause-slot
returns-clause-slot c = search rules

pub returns-clause-done : goal.returns-clause-done
returns-clause-done c = search rules

pub returns-clause-noted : goal.returns-clause-noted
returns-clause-noted c =
    told_note_stays c.args.command.now c.args.home.now (slot_view c.args.slot.now) _ _ (returns-clause-slot c) (returns-clause-done c)

pub returns-clause-changed : goal.returns-clause-changed
returns-clause-changed c =
    told_of_slot c.args.command.now c.args.home.now (slot_view c.args.slot.now) _ _ (search rules) (returns-clause-slot c) (returns-clause-done c)
