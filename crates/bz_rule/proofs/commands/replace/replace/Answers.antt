use Rattle.std.proofs.Common.{map}
use Rattle.bz_tree.specs.Rows.{part_view}
use Rattle.bz_rule.proofs.Meanings.{rows_replaced}
use Rattle.bz_rule.proofs.WrittenParts.{ok_as}
use Rattle.bz_rule.proofs.commands.replace.replace.Goals as goal

pub returns : goal.returns
returns c =
    ok_as (λ e h. rows_replaced c.args.env.home.now c.args.attributes.now c.args.change.old.now c.args.change.new.now (map part_view c.args.parts.now) (map part_view c.edit_strings.new.new.items) e h) c.edit_strings.result c.edit_strings.ensures
