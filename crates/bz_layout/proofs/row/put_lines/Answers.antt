use Rattle.std.proofs.Common.{arith, map}
use Rattle.std.proofs.lemmas.Grind.{common_steps}
use Rattle.std.proofs.lemmas.Result.{on_ok_weaker}
use Rattle.bz_tree.specs.Rows.{part_view}
use Rattle.bz_layout.specs.private.RowLayout.{laid}
use Rattle.bz_layout.proofs.Texts.{line_row}
use Rattle.bz_layout.proofs.row.put_lines.Goals as goal

pub returns-clause-text : goal.returns-clause-text
returns-clause-text c =
    on_ok_weaker c.put.result
    (line_row _ _ _ (map part_view c.args.parts.now) _ _ (laid c.run.new.self c.run.new.out.items) c.in_ok-put_leading.ensures.put c.in_ok-marks.ensures
    (c.in_ok-walk.ensures.laid c.put_leading.new.out.items) c.in_ok-run.ensures.ok)
    c.put.ensures.put

pub returns-in_err-run-clause-begun : goal.returns-in_err-run-clause-begun
returns-in_err-run-clause-begun c = grind (arith, common_steps)

pub returns-clause-begun : goal.returns-clause-begun
returns-clause-begun c = grind (arith, common_steps)
