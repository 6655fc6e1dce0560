use Rattle.std.proofs.Common.{map}
use Rattle.bz_tree.specs.Rows.{part_view}
use Rattle.bz_tree.specs.private.PartSteps.{content}
use Rattle.bz_tree.proofs.Rows.FromParts.{statement_of_parts}
use Rattle.bz_tree.proofs.row.from_parts.stmt_of_parts.Goals as goal

pub returns : goal.returns
returns c s parts =
    statement_of_parts s (map part_view c.args.parts.now) (content c.in_ok-content.content) _ c.args.class c.args.start c.args.end parts c.in_ok-content.ensures c.last_beside.ensures
