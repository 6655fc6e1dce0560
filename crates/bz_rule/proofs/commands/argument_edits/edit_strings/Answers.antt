use Rattle.std.proofs.Common.{map}
use Rattle.bz_tree.specs.Rows.{part_view}
use Rattle.bz_rule.specs.private.ArgumentEdits.{edited, is_changed}
use Rattle.bz_rule.specs.private.StringEdits.{literal_of, means}
use Rattle.bz_rule.proofs.PlaceEdits.{every_row, named_row}
use Rattle.bz_rule.proofs.WrittenParts.{ok_as}
use Rattle.bz_rule.proofs.commands.argument_edits.edit_strings.Goals as goal

pub returns-in-Every : goal.returns-in-Every
returns-in-Every c =
    rw c.in-Every.is
    (ok_as (λ e h. every_row (edited (means c.args.edit) (literal_of c.args.edit)) (is_changed (means c.args.edit)) c.all_arguments.result (map part_view c.args.parts.now) (map part_view c.edit_in.new.new.items) e h c.all_arguments.ensures.place) c.edit_in.result c.edit_in.ensures)

pub returns-in-Named : goal.returns-in-Named
returns-in-Named c =
    rw c.in-Named.is
    (ok_as (λ e h. named_row (means c.args.edit) (literal_of c.args.edit) _ c.argument_place.result (map part_view c.args.parts.now) (map part_view c.edit_in-in-Named.new.new.items) e h (rw c.as_str.ensures at c.argument_place.ensures.place)) c.edit_in-in-Named.result c.edit_in-in-Named.ensures)
