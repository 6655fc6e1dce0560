use Rattle.std.proofs.Common.{arith, ℕ, ◌≤◌, List, ◌++◌, Bool, length, map, ap, sym, ◌∙◌, append-nil}
use Rattle.std.proofs.lemmas.List.Elements.{All-push, All-same}
use Rattle.bz_tree.specs.Rows.{part_view}
use Rattle.bz_attribute.specs.declared.place.Place.{Place}
use Rattle.bz_rule.specs.private.StringEdits.{means}
use Rattle.bz_rule.proofs.Arriving.{all_arrived, one_arrived, one_place}
use Rattle.bz_rule.proofs.commands.arrivals.arrivals.Goals as goal

abbrev Within : ℕ → Place → Type 0
Within n place = (place.from ≤ place.to) × (place.to ≤ n)

pub loop-element-preserved : goal.loop-element-preserved
loop-element-preserved c =
    let home = c.args.edit.env.home.now in
    let places : List Place = c.loop-element.places.items in
    record {
      within = c.in-Some.ensures.within.1.1.1;
      places = c.loop-element.invariant.places;
      home = c.in_ok-arrives.ensures.home ∙ c.loop-element.invariant.home;
      arriving =
          one_arrived home (means c.args.edit) c.args.lists (map part_view c.args.parts.now) c.loop-element.at c.in-Some.element.from c.in-Some.element.token c.in-Some.element.to _ c.loop-element.there c.arrives.new.there places places c.in_ok-arrives.field-0
          c.loop-element.invariant.arriving c.in-Some.ensures.some c.in_ok-arrives.ensures.arrives
          c.loop-element.invariant.home c.in_ok-arrives.ensures.there
          (sym (append-nil places) ∙ ap (λ (b : Bool). places ++ one_place b (record { from = c.in-Some.element.from; to = c.in-Some.element.to })) (sym c.if-branch.false));
    }

pub loop-element-preserved-in_ok-push : goal.loop-element-preserved-in_ok-push
loop-element-preserved-in_ok-push c =
    let home = c.args.edit.env.home.now in
    let places : List Place = c.loop-element.places.items in
    record {
      within = c.in-Some.ensures.within.1.1.1;
      places = All-same (Within (length c.args.parts.now)) c.push.new.list.items _ c.in_ok-push.ensures.items
          (All-push (Within (length c.args.parts.now)) places (record { from = c.in-Some.element.from; to = c.in-Some.element.to }) c.loop-element.invariant.places (omega (arith, c.in-Some.ensures.within.1.0, c.in-Some.ensures.within.1.1.0), c.in-Some.ensures.within.1.1.1));
      home = c.in_ok-arrives.ensures.home ∙ c.loop-element.invariant.home;
      arriving =
          one_arrived home (means c.args.edit) c.args.lists (map part_view c.args.parts.now) c.loop-element.at c.in-Some.element.from c.in-Some.element.token c.in-Some.element.to _ c.loop-element.there c.arrives.new.there places c.push.new.list.items c.in_ok-arrives.field-0
          c.loop-element.invariant.arriving c.in-Some.ensures.some c.in_ok-arrives.ensures.arrives
          c.loop-element.invariant.home c.in_ok-arrives.ensures.there
          (c.in_ok-push.ensures.items ∙ ap (λ (b : Bool). places ++ one_place b (record { from = c.in-Some.element.from; to = c.in-Some.element.to })) (sym c.if-branch.true));
    }

pub returns-clause-arrivals : goal.returns-clause-arrivals
returns-clause-arrivals c = all_arrived c.args.edit.env.home.now (means c.args.edit) c.args.lists (map part_view c.args.parts.now) c.loop-element.at c.loop-element.there c.loop-element.places.items c.loop-element.invariant.arriving c.in_default.ensures.none
