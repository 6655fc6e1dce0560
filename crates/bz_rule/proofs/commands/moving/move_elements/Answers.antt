use Rattle.std.proofs.Common.{List, None, Some, ap, map, subst, ◌∙◌}
use Rattle.bz_tree.specs.Rows.{RowPart, part_view}
use Rattle.bz_rule.specs.Reports.{moves}
use Rattle.bz_attribute.specs.declared.done.Done.{Done}
use Rattle.bz_attribute.proofs.RowEdits.{unchanged}
use Rattle.bz_rule.specs.declared.commands.list_place.ListPlace.{ListPlace}
use Rattle.bz_rule.specs.private.ListPlaces.{IsListPlace}
use Rattle.bz_rule.proofs.MovedRules.{no_list_to_come, no_list_to_leave, no_note, with_no_note}
use Rattle.bz_rule.proofs.WrittenParts.{ok_as}
use Rattle.bz_rule.proofs.commands.moving.move_elements.Goals as goal

pub returns-in_ok-not_a_list-in-NoList-default : goal.returns-in_ok-not_a_list-in-NoList-default
returns-in_ok-not_a_list-in-NoList-default c =
    let old = c.args.change.old.now in
    let ps : List RowPart = map part_view c.args.parts.now in
    let told = c.in_ok-not_a_list-in-NoList-default.ensures in
    unchanged _ _ ps _ _ _ c.none-in-NoList-default.ensures (ap (λ (d : Done). d.changed) told) (λ s r h.
    let there = subst (λ (place : ListPlace). IsListPlace old s r ps place) c.in-NoList-default.is-0 (c.list_place.ensures.place s r h) in
    told ∙ no_list_to_leave old c.args.change.new.now s r ps (moves c.args.env.home.now old c.args.change.moved.now r.args) there)

pub returns-in_ok-not_a_list-in_default-NoList : goal.returns-in_ok-not_a_list-in_default-NoList
returns-in_ok-not_a_list-in_default-NoList c =
    let old = c.args.change.old.now in
    let ps : List RowPart = map part_view c.args.parts.now in
    let told = c.in_ok-not_a_list-in_default-NoList.ensures in
    unchanged _ _ ps _ _ _ c.none-in_default-NoList.ensures (ap (λ (d : Done). d.changed) told)
    (λ s r h. told ∙ no_list_to_come old c.args.change.new.now s r ps _ (moves c.args.env.home.now old c.args.change.moved.now r.args) (c.in_default-NoList.ensures.place s r h) (c.in_default-NoList.ensures'.place s r h))

pub returns-in-At-Absent : goal.returns-in-At-Absent
returns-in-At-Absent c =
    let ps : List RowPart = map part_view c.args.parts.now in
    ok_as
    (λ e h. with_no_note c.args.env.home.now c.args.change.old.now c.args.change.new.now c.args.change.moved.now ps (map part_view c.move_chosen.new.written.items) e
    (λ s r row. no_note c.args.change.old.now c.args.change.new.now s r ps c.in-At-Absent.from None (c.in-At-Absent.ensures.place s r row) (c.in-At-Absent.ensures'.place s r row)) h)
    c.move_chosen.result c.move_chosen.ensures

pub returns-in-At-At : goal.returns-in-At-At
returns-in-At-At c =
    let ps : List RowPart = map part_view c.args.parts.now in
    ok_as
    (λ e h. with_no_note c.args.env.home.now c.args.change.old.now c.args.change.new.now c.args.change.moved.now ps (map part_view c.move_chosen-in-At-At.new.written.items) e
    (λ s r row. no_note c.args.change.old.now c.args.change.new.now s r ps c.in-At-At.from (Some c.in-At-At.list) (c.in-At-At.ensures.place s r row) (c.in-At-At.ensures'.place s r row)) h)
    c.move_chosen-in-At-At.result c.move_chosen-in-At-At.ensures
