use Rattle.std.proofs.Common.{◌≡◌, ◌++◌, List, false, true, ap, map, sym, ◌∙◌, arith}
use Rattle.std.proofs.lemmas.List.{length-map}
use Rattle.bz_tree.specs.declared.row.Part.{Part}
use Rattle.bz_tree.specs.Tree.{Statement, items_of}
use Rattle.bz_tree.specs.Rows.{items_parts, part_view}
use Rattle.bz_attribute.specs.RowPlaces.{IsRuleRow}
use Rattle.bz_attribute.specs.Rules.{Rule, value}
use Rattle.bz_rule.specs.Set.{New, new_value}
use Rattle.bz_attribute.specs.declared.done.Done.{Done}
use Rattle.bz_attribute.proofs.RowEdits.{changed, seen_within, unchanged}
use Rattle.bz_rule.specs.private.SetViews.{new_view}
use Rattle.bz_rule.proofs.SetEdits.{new_known, none_told, set_added, set_told, value_set}
use Rattle.bz_rule.proofs.commands.set.set.Goals as goal

pub returns-in_default : goal.returns-in_default
returns-in_default c =
    let attr = c.args.attr.now in
    let ps = map part_view c.args.parts.now in
    changed _ _ ps _ _ _ c.at.ensures (seen_within c.new_place.result c.args.parts.now c.new_place.ensures.within)
    (λ s r h. let none = c.in_default.ensures.none s r h in set_added attr c.args.words.now s r ps _ c.new_place.result h.rule none (c.new_place.ensures.place attr s r h none) c.in_ok-write_argument.ensures)
    (λ s r h. none_told attr c.args.words.now r.args (c.in_default.ensures.none s r h))

pub returns-then-is_value : goal.returns-then-is_value
returns-then-is_value c =
    let attr = c.args.attr.now in
    let words = c.args.words.now in
    let ps = map part_view c.args.parts.now in
    let new : New = new_view c.new_of-new.result in
    unchanged _ _ ps _ _ _ c.none.ensures (ap (λ (d : Done). d.changed) c.quiet.ensures) (λ s r h.
    let v = c.in-Some.ensures.some s r h in
    let only = c.only_list-list.ensures.list (value v.arg) v.after v.read in
    let known = new_known attr words v.arg v.after ps c.only_list-list.result c.is_some.result new only c.is_some.ensures c.new_of-new.ensures in
    c.quiet.ensures ∙ set_told attr words r.args v.arg new true v.first known (sym c.if-is_value.true ∙ c.is_value.ensures (value v.arg) v.after v.read only))

pub returns : goal.returns
returns c =
    let attr = c.args.attr.now in
    let words = c.args.words.now in
    let ps = map part_view c.args.parts.now in
    let new : New = new_view c.new_of-new.result in
    let written : map part_view c.push_value.new.new.items ≡ items_parts (items_of (new_value new)) =
    c.in_ok-push_value.ensures ∙ ap (λ (qs : List Part). map part_view qs ++ items_parts (items_of (new_value new))) c.clear.ensures.items in
    let only = λ (s : Statement) (r : Rule) (h : IsRuleRow s r ps).
    let v = c.in-Some.ensures.some s r h in c.only_list-list.ensures.list (value v.arg) v.after v.read in
    let known = λ (s : Statement) (r : Rule) (h : IsRuleRow s r ps).
    let v = c.in-Some.ensures.some s r h in new_known attr words v.arg v.after ps c.only_list-list.result c.is_some.result new (only s r h) c.is_some.ensures c.new_of-new.ensures in
    let other = λ (s : Statement) (r : Rule) (h : IsRuleRow s r ps).
    let v = c.in-Some.ensures.some s r h in sym c.if-is_value.false ∙ c.is_value.ensures (value v.arg) v.after v.read (only s r h) in
    changed _ _ ps _ _ _ c.at-2.ensures (c.value_end.ensures.within.0, omega (arith, c.value_end.ensures.within.1, length-map c.args.parts.now part_view))
    (λ s r h. let v = c.in-Some.ensures.some s r h in value_set attr words s r ps _ c.in-Some.value c.value_end.result new h v (known s r h) (sym (other s r h)) written (c.value_end.ensures.end (value v.arg) v.after v.read))
    (λ s r h. let v = c.in-Some.ensures.some s r h in set_told attr words r.args v.arg new false v.first (known s r h) (other s r h))
