use Rattle.std.proofs.Common.{◌≡◌, ℕ, List, [], ◌<◌, get_or, length, map, take, sym, ◌∙◌, arith}
use Rattle.std.proofs.lemmas.List.{get_or_default}
use Rattle.bz_tree.specs.Rows.{RowPart, part_view}
use Rattle.bz_rule.specs.AddByValue.{is_fresh}
use Rattle.bz_rule.proofs.Adding.{adding_begins, adding_ends, adding_more, adding_none}
use Rattle.bz_rule.proofs.commands.add.write_few_missing.Goals as goal
use Rattle.bz_rule.proofs.commands.add.write_few_missing.Goals.{then-is_fresh+in_ok-push_element, else-is_fresh}

pub loop-index-init : goal.loop-index-init
loop-index-init c = λ lists are. adding_begins c.args.env.home.now lists c.args.values.now (map part_view c.args.written.now.items)

pub loop-index-preserved : goal.loop-index-preserved
loop-index-preserved c = λ lists are.
    let home = c.args.env.home.now in
    let values = c.args.values.now in
    let i : ℕ = c.loop-index.index in
    let now : List RowPart = map part_view c.loop-index.written.items in
    let h : c.loop-index.index < length c.args.values.now = omega (arith, c.loop-index-test.true) in
    let read : c.as_str-word.result.now ≡ get_or c.args.values.now c.loop-index.index [] = c.as_str-word.ensures ∙ c.index-values-index.is ∙ get_or_default values i _ [] h in
    let so_far = c.loop-index.invariant lists are in
    let told : is_fresh home lists (take i values) c.as_str-word.result.now ≡ c.is_fresh.result = sym (c.is_fresh.ensures lists are) in
    elim c.if-is_fresh.branch [
      | then-is_fresh+in_ok-push_element w ↦
          adding_more home lists values i c.as_str-word.result.now _ now _ so_far h read (told ∙ w.if-is_fresh.true) ((λ j. map part_view (w.written-is j).items) ∙ w.in_ok-push_element.ensures)
      | else-is_fresh w ↦ adding_none home lists values i c.as_str-word.result.now _ now _ so_far h read (told ∙ w.if-is_fresh.false) (λ j. map part_view (w.written-is j).items)
    ]

pub returns : goal.returns
returns c = λ lists are.
    adding_ends c.args.env.home.now lists c.args.values.now c.loop-index.index _ (map part_view c.loop-index.written.items) (c.loop-index.invariant lists are) (omega (arith, c.loop-index-test.false))
