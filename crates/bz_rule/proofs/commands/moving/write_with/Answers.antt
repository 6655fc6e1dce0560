use Rattle.std.proofs.Common.{[], ◌∷◌, ◌++◌, List, map, take, refl, ap, ◌∙◌}
use Rattle.bz_tree.specs.declared.row.Part.{Part}
use Rattle.bz_tree.specs.Rows.{RowPart, part_view, segs_parts}
use Rattle.bz_tree.specs.Tree.{Segment, segs_of}
use Rattle.bz_attribute.specs.Effects.{argument, list_item}
use Rattle.bz_attribute.specs.Lists.{with_value}
use Rattle.bz_attribute.specs.ListWalk.{edit_first_part}
use Rattle.bz_attribute.specs.Rules.{value}
use Rattle.bz_attribute.proofs.Slices.{three_written}
use Rattle.bz_rule.specs.Move.{put_in}
use Rattle.bz_rule.specs.private.ListPlaces.{parts_at}
use Rattle.bz_rule.proofs.Adding.{attribute_written, put_local, put_new, put_there}
use Rattle.bz_rule.proofs.MovedRules.{put_nowhere}
use Rattle.bz_rule.proofs.WrittenParts.{on_ok_by}
use Rattle.bz_rule.proofs.commands.moving.write_with.Goals as goal

abbrev added : List Segment → Segment → List Segment
added ss a = with_value (edit_first_part (λ there. there ++ ss) (value a)) a ∷ []

pub returns-in-NoList : goal.returns-in-NoList
returns-in-NoList c = on_ok_by _ c.extend_from_slice.result c.extend_from_slice.ensures.items (λ items ss s r are row.
    ap (map part_view) (items ∙ ap (λ (ps : List Part). ps ++ c.args.left.now) c.clear.ensures.items) ∙ put_nowhere c.args.attr.now ss s r (map part_view c.args.left.now) row (c.in-NoList.ensures.place s r row))

pub returns-in_ok-close_attribute-in-Absent : goal.returns-in_ok-close_attribute-in-Absent
returns-in_ok-close_attribute-in-Absent c = on_ok_by _ c.extend_from_slice-in-Absent-2.result c.extend_from_slice-in-Absent-2.ensures.items (λ items ss s r are row.
    let attr = c.args.attr.now in
    let place = c.new_place-place.result in
    let new = argument attr (list_item ss ∷ []) ∷ [] in
    let none = c.in-Absent.ensures.place s r row in
    let opened : List RowPart = map part_view c.open_attribute.new.written.items in
    three_written c.args.left.now c.extend_from_slice-in-Absent.new.list.items c.close_attribute.new.written.items c.extend_from_slice-in-Absent-2.new.list.items place.from place.to (segs_parts (segs_of new))
    (c.in_ok-extend_from_slice-in-Absent.ensures.items ∙ ap (λ (ps : List Part). ps ++ take place.from c.args.left.now) c.clear.ensures.items)
    (attribute_written attr ss (map part_view c.extend_from_slice-in-Absent.new.list.items) opened (map part_view c.push_places.new.written.items) (map part_view c.close_attribute.new.written.items)
    c.in_ok-open_attribute-in-Absent.ensures (c.in_ok-push_places-in-Absent.ensures ∙ ap (λ (qs : List RowPart). opened ++ qs) are) c.in_ok-close_attribute-in-Absent.ensures)
    items
    ∙ put_new attr (put_in attr ss) s r (map part_view c.args.left.now) (segs_parts (segs_of new)) place (put_local attr (added ss) new) none (c.new_place-place.ensures.place attr s r row none) refl)

pub returns-in_ok-push_places-in-At : goal.returns-in_ok-push_places-in-At
returns-in_ok-push_places-in-At c = on_ok_by _ c.extend_from_slice-in-At-2.result c.extend_from_slice-in-At-2.ensures.items (λ items ss s r are row.
    let l = c.in-At.ensures.place s r row in
    let end = c.elements_end-end.result in
    let new = parts_at (map part_view c.args.parts.now) c.args.elements.now in
    three_written c.args.left.now c.extend_from_slice-in-At.new.list.items c.push_places-in-At.new.written.items c.extend_from_slice-in-At-2.new.list.items end end new
    (c.in_ok-extend_from_slice-in-At.ensures.items ∙ ap (λ (ps : List Part). ps ++ take end c.args.left.now) c.clear.ensures.items) c.in_ok-push_places-in-At.ensures items
    ∙ put_there c.args.attr.now (added ss) (put_in c.args.attr.now ss) ss s r (map part_view c.args.left.now) _ l.place c.in-At.list end row l.there l.list
    (c.elements_end-end.ensures.elements l.list.list l.there.after l.list.read) refl (λ there. rw there refl) are)
