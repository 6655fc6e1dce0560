use Rattle.std.proofs.Common.{◌≤◌, List, map, subst, sym, ◌∙◌, arith}
use Rattle.std.proofs.lemmas.List.{length-map}
use Rattle.bz_tree.specs.Rows.{RowPart, part_view}
use Rattle.bz_attribute.specs.declared.place.Place.{Place}
use Rattle.bz_rule.specs.private.StringEdits.{HasMadeWay, literal_of, means, place_in, written_to}
use Rattle.bz_rule.proofs.ElementEdits.{all_edited, element_put, element_stays, none_edited, one_edited, place_early, strings_only}
use Rattle.bz_rule.proofs.WrittenParts.{is_made, later, none_more, some_more, up_to_made}
use Rattle.bz_rule.proofs.commands.element_edits.edit_value.Goals as goal

pub loop-element-init : goal.loop-element-init
loop-element-init c = record {
  within = c.in-Some.ensures.within.1;
  up_to = later c.args.written.now c.args.value c.in-Some.list c.requires.1 (omega (arith, c.in-Some.ensures.within.0));
  left = λ nodes after read. none_edited (means c.args.edit) (literal_of c.args.edit) nodes after (map part_view c.args.parts.now) c.args.value c.in-Some.list c.args.written.now (map part_view c.args.out.now.items) _ c.requires.1 read (c.in-Some.ensures.some nodes after read);
}

pub loop-element-preserved-in_ok-push_literal : goal.loop-element-preserved-in_ok-push_literal
loop-element-preserved-in_ok-push_literal c =
    let p = means c.args.edit in
    let literal = literal_of c.args.edit in
    let ps : List RowPart = map part_view c.args.parts.now in
    let out : List RowPart = map part_view c.loop-element.out.items in
    let one : List RowPart = map part_view c.make_way.new.out.items in
    let e = c.in-Some-next_of_value.element in
    let is = c.in-Some-next_of_value.ensures in
    let order : e.from ≤ e.to = omega (arith, is.within.1.0, is.within.1.1.0) in
    let yes = sym c.means.ensures ∙ c.if-means.true in
    let made : HasMadeWay (written_to c.loop-element.written out ps (place_in literal e.from e.token e.to).from) ps one (place_in literal e.from e.token e.to) c.make_way.new.written =
    subst (λ (place : Place). HasMadeWay (written_to c.loop-element.written out ps place.from) ps one place c.make_way.new.written) c.place_in.ensures c.in_ok-make_way.ensures in
    record {
      within = is.within.1.1.1;
      up_to = later c.make_way.new.written (place_in literal e.from e.token e.to).to e.to (up_to_made made) (place_early literal e.from e.token e.to is.within.1.1.0);
      left = λ nodes after read.
          let f = c.loop-element.invariant.left nodes after read in
          let n = is.some f.left after f.read in
          one_edited p literal nodes after ps c.loop-element.at e.from e.token e.to _ _ _ _ _ _ _ f n (some_more _ _ _ (is_made made) yes)
          (element_put p literal f.left after ps c.loop-element.at e.from e.token e.to _ c.loop-element.written c.make_way.new.written out one _ c.loop-element.invariant.up_to is.within.0 order (omega (arith, is.within.1.1.1, length-map c.args.parts.now part_view))
          (λ new some. strings_only c.args.edit.env.home.now c.args.edit.meant new some) n yes made c.in_ok-push_literal.ensures);
    }

pub loop-element-preserved : goal.loop-element-preserved
loop-element-preserved c =
    let p = means c.args.edit in
    let literal = literal_of c.args.edit in
    let ps = map part_view c.args.parts.now in
    let e = c.in-Some-next_of_value.element in
    let is = c.in-Some-next_of_value.ensures in
    let order : e.from ≤ e.to = omega (arith, is.within.1.0, is.within.1.1.0) in
    let no = sym c.means.ensures ∙ c.if-means.false in
    record {
      within = is.within.1.1.1;
      up_to = later c.loop-element.written c.loop-element.at e.to c.loop-element.invariant.up_to (omega (arith, is.within.0, order));
      left = λ nodes after read.
          let f = c.loop-element.invariant.left nodes after read in
          let n = is.some f.left after f.read in
          one_edited p literal nodes after ps c.loop-element.at e.from e.token e.to _ _ _ _ _ _ _ f n (none_more _ _ no)
          (element_stays p literal f.left after ps c.loop-element.at e.from e.token e.to _ c.loop-element.written (map part_view c.loop-element.out.items) c.loop-element.invariant.up_to is.within.0 order n no);
    }

pub returns-clause-edited : goal.returns-clause-edited
returns-clause-edited c nodes after read =
    let f = c.loop-element.invariant.left nodes after read in
    all_edited (means c.args.edit) (literal_of c.args.edit) nodes after (map part_view c.args.parts.now) c.loop-element.at _ _ _ _ f (c.in_default-next_of_value.ensures.none f.left after f.read)
