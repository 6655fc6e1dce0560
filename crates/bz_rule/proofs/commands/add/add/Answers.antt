use Rattle.std.proofs.Common.{◌≡◌, ◌≤◌, ℕ, List, [], ◌∷◌, ◌++◌, Some, refl, true, false, length, map, ap, ◌∙◌, arith, tests}
use Rattle.std.proofs.lemmas.List.{length-map}
use Rattle.bz_tree.specs.declared.row.Part.{Part}
use Rattle.bz_tree.specs.Rows.{RowPart, part_view, segs_parts}
use Rattle.bz_tree.specs.Tree.{Segment, Statement, segs_of}
use Rattle.bz_rule.specs.AddByValue.{new_elements}
use Rattle.bz_attribute.specs.Effects.{argument, list_item}
use Rattle.bz_attribute.specs.Elements.{AreLists}
use Rattle.bz_attribute.specs.Lists.{parts}
use Rattle.bz_attribute.specs.RowPlaces.{IsRuleRow}
use Rattle.bz_attribute.specs.Rules.{Rule, value}
use Rattle.bz_attribute.specs.declared.done.Done.{Done}
use Rattle.bz_attribute.proofs.RowEdits.{changed, unchanged}
use Rattle.bz_rule.proofs.Adding.{added_new, added_there, attribute_written, lists_there, none_new, some_new, told_absent, told_list, told_no_list}
use Rattle.bz_rule.proofs.commands.add.add.Goals as goal

pub returns-in_ok-close_attribute-in-Absent : goal.returns-in_ok-close_attribute-in-Absent
returns-in_ok-close_attribute-in-Absent c =
    let home = c.args.env.home.now in
    let attr = c.args.attr.now in
    let values = c.args.values.now in
    let ps : List RowPart = map part_view c.args.parts.now in
    let place = c.in-Absent.ensures.place in
    let new : List RowPart = segs_parts (segs_of (argument attr (list_item (new_elements home [] values) ∷ []) ∷ [])) in
    let written : map part_view c.close_attribute.new.written.items ≡ new =
    attribute_written attr (new_elements home [] values) (map part_view c.clear.new.self.items) (map part_view c.open_attribute.new.written.items) (map part_view c.write_missing.new.written.items) (map part_view c.close_attribute.new.written.items)
    c.in_ok-open_attribute-in-Absent.ensures (c.in_ok-write_missing-in-Absent.ensures [] refl) c.in_ok-close_attribute-in-Absent.ensures
    ∙ ap (λ (qs : List Part). map part_view qs ++ new) c.clear.ensures.items in
    changed _ _ ps _ c.new_place.result _ c.at.ensures (c.new_place.ensures.within.0, omega (arith, c.new_place.ensures.within.1, length-map c.args.parts.now part_view))
    (λ s r h. added_new home attr values s r ps _ c.new_place.result (place s r h) (c.new_place.ensures.place attr s r h (place s r h)) written)
    (λ s r h. told_absent home attr values r.args (place s r h))

pub returns-in_ok-not_a_list-in-NoList : goal.returns-in_ok-not_a_list-in-NoList
returns-in_ok-not_a_list-in-NoList c =
    let told = c.in_ok-not_a_list-in-NoList.ensures in
    unchanged _ _ (map part_view c.args.parts.now) _ _ _ c.none.ensures (ap (λ (d : Done). d.changed) told)
    (λ s r h. let lack = c.in-NoList.ensures.place s r h in told ∙ told_no_list c.args.env.home.now c.args.attr.now c.args.values.now r.args lack.there.arg lack.there.first lack.none)

pub returns-then-is_empty : goal.returns-then-is_empty
returns-then-is_empty c =
    let home = c.args.env.home.now in
    let values = c.args.values.now in
    let ps : List RowPart = map part_view c.args.parts.now in
    let told = c.quiet.ensures in
    let now : List Part = c.write_missing-in-At.new.written.items in
    let empty : length now ≡ 0 = grind (arith, tests, c.if-is_empty.true, c.is_empty.ensures, c.write_missing-in-At.new.written.ok.0) in
    let missing = λ (lists : List (List Segment)) (are : AreLists ps (Some c.in-At.list) lists).
    c.in_ok-write_missing-in-At.ensures lists are ∙ ap (λ (qs : List Part). map part_view qs ++ segs_parts (segs_of (new_elements home lists values))) c.clear.ensures.items in
    unchanged _ _ ps _ _ _ c.none-then-is_empty.ensures (ap (λ (d : Done). d.changed) told)
    (λ s r h.
    let l = c.in-At.ensures.place s r h in
    let all = parts (value l.there.arg) in
    told ∙ told_list home c.args.attr.now values r.args l.there.arg _ _ false l.there.first l.list.lists
    (none_new (new_elements home all values) (map part_view now) (missing all (lists_there ps (value l.there.arg) l.there.after l.place c.in-At.list l.list)) (length-map now part_view ∙ empty)))

pub returns-else-is_empty : goal.returns-else-is_empty
returns-else-is_empty c =
    let home = c.args.env.home.now in
    let attr = c.args.attr.now in
    let values = c.args.values.now in
    let ps : List RowPart = map part_view c.args.parts.now in
    let end : ℕ = c.elements_end-end.result in
    let now : List Part = c.write_missing-in-At.new.written.items in
    let some : 1 ≤ length now = grind (arith, tests, c.if-is_empty.false, c.is_empty.ensures, c.write_missing-in-At.new.written.ok.0) in
    let missing = λ (lists : List (List Segment)) (are : AreLists ps (Some c.in-At.list) lists).
    c.in_ok-write_missing-in-At.ensures lists are ∙ ap (λ (qs : List Part). map part_view qs ++ segs_parts (segs_of (new_elements home lists values))) c.clear.ensures.items in
    let written = λ (s : Statement) (r : Rule) (h : IsRuleRow s r ps).
    let l = c.in-At.ensures.place s r h in
    missing (parts (value l.there.arg)) (lists_there ps (value l.there.arg) l.there.after l.place c.in-At.list l.list) in
    changed _ _ ps _ _ _ c.at-in-At.ensures (omega arith, omega (arith, c.elements_end-end.ensures.within.1, length-map c.args.parts.now part_view))
    (λ s r h.
    let l = c.in-At.ensures.place s r h in
    added_there home attr values s r ps _ l.place c.in-At.list end h l.there l.list (c.elements_end-end.ensures.elements l.list.list l.there.after l.list.read) (written s r h))
    (λ s r h.
    let l = c.in-At.ensures.place s r h in
    told_list home attr values r.args l.there.arg _ _ true l.there.first l.list.lists
    (some_new (new_elements home (parts (value l.there.arg)) values) (map part_view now) (written s r h) (omega (arith, some, length-map now part_view))))
