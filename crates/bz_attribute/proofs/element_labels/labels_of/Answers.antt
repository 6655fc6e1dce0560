use Rattle.std.proofs.Common.{◌≡◌, ◌||◌, ℕ, List, Option, None, Some, subst, ap, map, option_map, refl, rules, sym, ◌∙◌}
use Rattle.bz_tree.specs.Rows.{part_view}
use Rattle.bz_tree.specs.Tree.{Segment}
use Rattle.bz_label.specs.LabelSetViews.{has}
use Rattle.bz_attribute.specs.Elements.{AreLists}
use Rattle.bz_label.specs.private.ByteSteps.{left}
use Rattle.bz_attribute.specs.private.ElementSets.{choice, is_among}
use Rattle.bz_attribute.proofs.LabelsFound.{gained, lists_labelled, no_lists, not_gained, one_labelled}
use Rattle.bz_attribute.proofs.element_labels.labels_of.Goals as goal

pub loop-element-preserved-in_ok-insert : goal.loop-element-preserved-in_ok-insert
loop-element-preserved-in_ok-insert c =
    let home = c.args.home.now in
    record {
      within = search rules;
      home = c.in_ok-insert.ensures.home ∙ c.loop-element.invariant.home;
      same =
          one_labelled home (choice c.args.words) (map part_view c.args.parts.now) c.in-Some.from c.loop-element.at c.in-Some-next_of_value.element.from c.in-Some-next_of_value.element.token c.in-Some-next_of_value.element.to _ (Some (left c.in-Some-kept_value.value)) c.loop-element.set c.insert.new.self
          c.loop-element.invariant.same c.in-Some-next_of_value.ensures.some c.in-Some-kept_value.ensures.value
          (gained home (left c.in-Some-kept_value.value) _ c.loop-element.set c.insert.new.self refl c.loop-element.invariant.home c.in_ok-insert.ensures.ok);
    }

pub loop-element-preserved : goal.loop-element-preserved
loop-element-preserved c =
    let home = c.args.home.now in
    let none : c.kept_value.result ≡ None = search rules in
    record {
      within = search rules;
      home = c.loop-element.invariant.home;
      same =
          one_labelled home (choice c.args.words) (map part_view c.args.parts.now) c.in-Some.from c.loop-element.at c.in-Some-next_of_value.element.from c.in-Some-next_of_value.element.token c.in-Some-next_of_value.element.to _ None c.loop-element.set c.loop-element.set
          c.loop-element.invariant.same c.in-Some-next_of_value.ensures.some (sym (ap (option_map left) none) ∙ c.kept_value.ensures.value)
          (not_gained home None c.loop-element.set c.loop-element.set refl refl);
    }

pub returns-clause-all : goal.returns-clause-all
returns-clause-all c lists are =
    lists_labelled c.args.home.now (choice c.args.words) (map part_view c.args.parts.now) c.in-Some.from c.loop-element.set
    (λ rest after read text.
    let h = c.loop-element.invariant.same rest after read in
    ap (λ (ss : List Segment). is_among c.args.home.now (choice c.args.words) ss text || has c.loop-element.set text) (sym (c.in_default-next_of_value.ensures.none h.left after h.read)) ∙ h.same text)
    lists (subst (λ (o : Option ℕ). AreLists (map part_view c.args.parts.now) o lists) c.in-Some.is are)

pub returns-in_default-clause-all : goal.returns-in_default-clause-all
returns-in_default-clause-all c lists are =
    no_lists c.args.home.now (choice c.args.words) c.new-set.result lists (subst (λ (o : Option ℕ). AreLists (map part_view c.args.parts.now) o lists) c.in_default.is are) c.new-set.ensures.empty
