use Rattle.std.proofs.Common.{ℕ, List, Option, None, true, ◌∙◌, ap, map, subst, sym}
use Rattle.std.proofs.lemmas.Bool.{not-true, not-false}
use Rattle.std.proofs.lemmas.List.{length-map}
use Rattle.bz_tree.specs.Rows.{RowPart, part_view}
use Rattle.bz_attribute.specs.Effects.{edit_first, filtered}
use Rattle.bz_attribute.specs.Reports.{done}
use Rattle.bz_attribute.specs.RowEdits.{IsRowEdit, replaced_at}
use Rattle.bz_attribute.specs.Rules.{is_named}
use Rattle.bz_attribute.specs.declared.place.Place.{Place}
use Rattle.bz_rule.specs.private.ListPlaces.{HaveArrivals}
use Rattle.bz_rule.specs.private.StringEdits.{become_all, literal_of, means}
use Rattle.bz_rule.proofs.MovedRules.{gone_from, has_moved, not_moved, told_gone}
use Rattle.bz_rule.proofs.PlaceEdits.{named_row}
use Rattle.bz_rule.proofs.commands.moving.move_meant.Goals as goal

pub returns-then-not-gone : goal.returns-then-not-gone
returns-then-not-gone c moved plain same =
    let home = c.args.edit.env.home.now in
    let p = means c.args.edit in
    let ps : List RowPart = map part_view c.args.parts.now in
    let one : List RowPart = map part_view c.edit_in.new.new.items in
    let named = named_row p (literal_of c.args.edit) c.args.change.old.now c.argument_place-old.result ps one c.in_ok-gone.gone c.in_ok-gone.ensures c.argument_place-old.ensures.place in
    let gone : IsRowEdit (gone_from c.args.change.old.now (means c.args.edit)) (told_gone c.args.change.old.now (means c.args.edit)) (map part_view c.args.parts.now) (map part_view c.edit_in.new.new.items) c.in_ok-gone.gone =
    subst (λ (literal : Option (List ℕ)). IsRowEdit (edit_first (is_named c.args.change.old.now) (filtered (become_all p literal))) (told_gone c.args.change.old.now p) ps one c.in_ok-gone.gone) plain named in
    not_moved home c.args.change.old.now c.args.change.new.now moved p ps one c.in_ok-gone.gone same gone (not-true c.in_ok-gone.gone.done.changed c.if-not-gone.true)

pub returns : goal.returns
returns c moved plain same =
    let home = c.args.edit.env.home.now in
    let p = means c.args.edit in
    let ps : List RowPart = map part_view c.args.parts.now in
    let one : List RowPart = map part_view c.edit_in.new.new.items in
    let named = named_row p (literal_of c.args.edit) c.args.change.old.now c.argument_place-old.result ps one c.in_ok-gone.gone c.in_ok-gone.ensures c.argument_place-old.ensures.place in
    let gone : IsRowEdit (gone_from c.args.change.old.now (means c.args.edit)) (told_gone c.args.change.old.now (means c.args.edit)) (map part_view c.args.parts.now) (map part_view c.edit_in.new.new.items) c.in_ok-gone.gone =
    subst (λ (literal : Option (List ℕ)). IsRowEdit (edit_first (is_named c.args.change.old.now) (filtered (become_all p literal))) (told_gone c.args.change.old.now p) ps one c.in_ok-gone.gone) plain named in
    has_moved home c.args.change.old.now c.args.change.new.now moved p c.args.lists ps one (map part_view c.deref-3.result.now) (map part_view c.write_with.new.written.items) c.deref-2.result.now c.in_ok-gone.gone c.at.result same gone
    (not-false c.in_ok-gone.gone.done.changed c.if-not-gone.false)
    (ap (map part_view) c.deref-3.ensures.value ∙ c.in_ok-left.ensures ∙ (λ i. replaced_at c.in_ok-gone.gone.place (map part_view (c.deref.ensures.value i)) ps))
    c.requires.found.0 c.requires.found.1 (subst (λ (places : List Place). HaveArrivals home p c.args.lists ps places) (sym c.deref-2.ensures.value) c.in_ok-arriving.ensures.arrivals) c.in_ok-write_with.ensures
    (c.at.ensures ∙ ap (λ (n : ℕ). record { done = done None true; place = record { from = 0; to = n } }) (sym (length-map c.args.parts.now part_view)))
