use Rattle.std.proofs.Common.{◌&&◌, ap, map, sym, ◌∙◌}
use Rattle.bz_tree.specs.Rows.{part_view}
use Rattle.bz_attribute.specs.private.Parts.{ends_value}
use Rattle.bz_attribute.proofs.OnlyLists.{only_told}
use Rattle.bz_attribute.proofs.Slices.{rest_seen}
use Rattle.bz_attribute.proofs.value.is_one_list.Goals as goal

pub returns-then-begins_list-clause-told : goal.returns-then-begins_list-clause-told
returns-then-begins_list-clause-told c = λ nodes after are.
    let left = c.ends_value.ensures ∙ ap ends_value (rest_seen c.args.parts.now c.item_end.result) in
    (λ i. (sym c.if-begins_list.true ∙ c.begins_list.ensures) i && left i) ∙ only_told nodes after (map part_view c.args.parts.now) c.item_end.result are c.item_end.ensures.end
