use Rattle.std.proofs.Common.{◌<◌, map, rules, arith, sym, ◌∙◌}
use Rattle.bz_tree.specs.Rows.{part_view}
use Rattle.bz_rule.specs.private.StringEdits.{means}
use Rattle.bz_rule.proofs.EmptiedLists.{all_gone, none_gone, one_gone, one_stays}
use Rattle.bz_rule.proofs.commands.element_edits.loses_all.Goals as goal

pub loop-element-init : goal.loop-element-init
loop-element-init c = record {
  order = search rules;
  within = search rules;
  left = λ nodes after read. none_gone (means c.args.edit) nodes after (map part_view c.args.parts.now) c.in-Some.first (c.in-Some.ensures.list nodes after read);
}

pub returns-then-not-means : goal.returns-then-not-means
returns-then-not-means c nodes after read =
    rw (sym c.new.ensures, c.in-None.is) (
    let g = c.loop-element.invariant.left nodes after read in
    sym (one_stays (means c.args.edit) nodes after (map part_view c.args.parts.now) _ c.loop-element.at _ _ _ g (c.in-Some-next_element.ensures.some (record g.list { elements = g.others }) after g.read) (sym c.means.ensures ∙ c.if-not-means.true)))

pub loop-element-preserved : goal.loop-element-preserved
loop-element-preserved c =
    let e = c.in-Some-next_element.ensures in
    let later : c.in-Some.first < c.in-Some-next_element.element.to = omega (arith, c.loop-element.invariant.order, e.within.0, e.within.1.0) in
    record {
      order = omega (arith, later);
      within = e.within.1.1;
      left = λ nodes after read.
          let g = c.loop-element.invariant.left nodes after read in
          one_gone (means c.args.edit) nodes after (map part_view c.args.parts.now) _ c.loop-element.at _ _ _ g (e.some (record g.list { elements = g.others }) after g.read) (sym c.means.ensures ∙ c.if-not-means.false) later;
    }

pub returns : goal.returns
returns c nodes after read =
    rw (sym c.new.ensures, c.in-None.is) (
    let g = c.loop-element.invariant.left nodes after read in
    all_gone (means c.args.edit) nodes after (map part_view c.args.parts.now) c.in-Some.first c.loop-element.at g (c.in_default-next_element.ensures.none (record g.list { elements = g.others }) after g.read))
