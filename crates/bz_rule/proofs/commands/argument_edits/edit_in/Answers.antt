use Rattle.std.proofs.Common.{◌≡◌, ◌∙◌, length, map, take, arith, rules, ap, sym, length-take-le}
use Rattle.std.proofs.lemmas.List.{length-map}
use Rattle.bz_tree.specs.Rows.{part_view}
use Rattle.bz_attribute.specs.declared.done.Done.{Done}
use Rattle.bz_attribute.proofs.Slices.{front_seen}
use Rattle.bz_rule.specs.private.ArgumentEdits.{changes_by, edit_by}
use Rattle.bz_rule.proofs.EachArgument.{none_edited, one_edited}
use Rattle.bz_rule.proofs.PlaceEdits.{edit_of, placed}
use Rattle.bz_rule.proofs.commands.argument_edits.edit_in.Goals as goal

pub loop-at-init : goal.loop-at-init
loop-at-init c = record {
  within = omega (arith, c.requires.0, length-take-le c.args.place.to c.args.parts.now c.requires.1);
  up_to = search rules;
  left = λ args are. none_edited (edit_by c.args.edit) (changes_by c.args.edit) args _ c.args.place.from are;
}

pub loop-at-preserved : goal.loop-at-preserved
loop-at-preserved c = record {
  within = c.in_ok-at.ensures.within.1;
  up_to = c.in_ok-at.ensures.up_to;
  left = λ args are.
      one_edited (edit_by c.args.edit) (changes_by c.args.edit) args _ c.args.place.from c.loop-at.at c.in_ok-at.at _ _ _ _ (c.loop-at.invariant.left args are) (omega (arith, c.loop-at-test.true, length-map (take c.args.place.to c.args.parts.now) part_view)) c.in_ok-at.ensures.edited;
}

pub returns-in-None : goal.returns-in-None
returns-in-None c =
    let size : length (take c.args.place.to c.args.parts.now) ≡ c.args.place.to = length-take-le c.args.place.to c.args.parts.now c.requires.1 in
    placed (edit_by c.args.edit) (changes_by c.args.edit) c.args.place (map part_view c.args.parts.now) (map part_view c.loop-at.new.items) _ c.loop-at.at c.loop-at.written _ c.requires.0 (omega (arith, c.requires.1, length-map c.args.parts.now part_view))
    (front_seen c.args.parts.now c.args.place.to) (omega (arith, c.loop-at-test.false, c.loop-at.invariant.within, size)) c.loop-at.invariant.up_to
    (c.none.ensures ∙ ap (λ (d : Done). record { done = d; place = record { from = 0; to = 0 } }) c.quiet.ensures ∙ sym (ap edit_of c.in-None.is)) c.loop-at.invariant.left

pub returns-in-Some : goal.returns-in-Some
returns-in-Some c =
    let size : length (take c.args.place.to c.args.parts.now) ≡ c.args.place.to = length-take-le c.args.place.to c.args.parts.now c.requires.1 in
    placed (edit_by c.args.edit) (changes_by c.args.edit) c.args.place (map part_view c.args.parts.now) (map part_view c.loop-at.new.items) _ c.loop-at.at c.loop-at.written _ c.requires.0 (omega (arith, c.requires.1, length-map c.args.parts.now part_view))
    (front_seen c.args.parts.now c.args.place.to) (omega (arith, c.loop-at-test.false, c.loop-at.invariant.within, size)) c.loop-at.invariant.up_to
    (c.at.ensures ∙ sym (ap edit_of c.in-Some.is)) c.loop-at.invariant.left
