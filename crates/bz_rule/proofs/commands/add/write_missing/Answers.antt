use Rattle.std.proofs.Common.{◌≡◌, ℕ, List, [], ◌∷◌, ◌++◌, ◌<◌, get_or, length, map, ap, sym, ◌∙◌, arith}
use Rattle.std.proofs.lemmas.List.{get_or_default}
use Rattle.bz_tree.specs.Rows.{RowPart, part_view, segs_parts}
use Rattle.bz_tree.specs.Tree.{segs_of}
use Rattle.bz_attribute.specs.Effects.{string}
use Rattle.bz_rule.proofs.Adding.{adding_begins, adding_ends, adding_more, adding_none}
use Rattle.bz_rule.proofs.Known.{known_first, knows_fresh, knows_more}
use Rattle.bz_rule.proofs.commands.add.write_missing.Goals as goal
use Rattle.bz_rule.proofs.commands.add.write_missing.Goals.{then-branch+in_ok-push_element, else-branch}

pub loop-word-preserved : goal.loop-word-preserved
loop-word-preserved c = λ lists are.
    let home = c.args.env.home.now in
    let values = c.args.values.now in
    let i : ℕ = c.loop-word.word-index in
    let now : List RowPart = map part_view c.loop-word.written.items in
    let h : c.loop-word.word-index < length c.args.values.now = omega (arith, c.loop-word-test.true) in
    let item : c.word-item.result ≡ get_or c.args.values.now c.loop-word.word-index [] = c.word-item.is ∙ get_or_default values i _ [] h in
    let read = c.as_bytes.ensures.value ∙ c.as_str.ensures ∙ item in
    let so_far = c.loop-word.invariant lists are in
    let told = sym (knows_fresh home lists values i c.as_bytes.result.now c.loop-word.labels h read so_far.1) ∙ sym c.in_ok-insert.ensures.new in
    let knows = knows_more home lists values i c.as_bytes.result.now c.loop-word.labels c.insert.new.self h read so_far.1 c.in_ok-insert.ensures.ok c.in_ok-insert.ensures.home in
    elim c.if-branch.branch [
      | then-branch+in_ok-push_element w ↦ (
        adding_more home lists values i c.as_bytes.result.now _ now _ so_far.0 h read (told ∙ w.if-branch.true)
            ((λ j. map part_view (w.written-is j).items) ∙ w.in_ok-push_element.ensures ∙ ap (λ (name : List ℕ). now ++ segs_parts (segs_of (string name ∷ []))) (w.as_str-then-branch.ensures ∙ item ∙ sym read)),
        knows,
      )
      | else-branch w ↦ (adding_none home lists values i c.as_bytes.result.now _ now _ so_far.0 h read (told ∙ w.if-branch.false) (λ j. map part_view (w.written-is j).items), knows)
    ]

pub returns : goal.returns
returns c = λ lists are.
    adding_ends c.args.env.home.now lists c.args.values.now c.loop-word.word-index _ (map part_view c.loop-word.written.items) (c.loop-word.invariant lists are).0 (omega (arith, c.loop-word-test.false))

pub loop-word-init : goal.loop-word-init
loop-word-init c = λ lists are.
    let home = c.args.env.home.now in
    let values = c.args.values.now in (
      adding_begins home lists values (map part_view c.args.written.now.items),
      known_first home lists values c.in_ok-words.words.words.now c.in_ok-labels.labels c.in_ok-words.ensures c.in_ok-labels.ensures.home (c.in_ok-labels.ensures.all lists are),
    )
