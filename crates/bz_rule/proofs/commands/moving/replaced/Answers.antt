use Rattle.std.proofs.Common.{List, ◌++◌, map, take, ap, ◌∙◌}
use Rattle.std.proofs.lemmas.List.{map-append}
use Rattle.bz_tree.specs.declared.row.Part.{Part}
use Rattle.bz_tree.specs.Rows.{part_view}
use Rattle.bz_attribute.proofs.Slices.{three_written}
use Rattle.bz_rule.proofs.commands.moving.replaced.Goals as goal

pub returns : goal.returns
returns c =
    three_written c.args.parts.now c.extend_from_slice.new.list.items c.extend_from_slice-2.new.list.items c.extend_from_slice-3.new.list.items c.args.place.from c.args.place.to (map part_view c.args.new.now)
    (c.in_ok-extend_from_slice.ensures.items ∙ ap (λ (ps : List Part). ps ++ take c.args.place.from c.args.parts.now) c.new-left.ensures.items)
    (ap (map part_view) c.in_ok-extend_from_slice-2.ensures.items ∙ map-append part_view c.extend_from_slice.new.list.items c.args.new.now) c.in_ok-extend_from_slice-3.ensures.items
