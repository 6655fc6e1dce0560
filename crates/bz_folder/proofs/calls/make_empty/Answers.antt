use Rattle.std.proofs.Common.{ap, is_ok}
use Rattle.bz_folder.proofs.Steps.{makes_again, makes_nothing}
use Rattle.bz_folder.proofs.calls.make_empty.Goals as goal

pub returns-in_err-remove-in-Err : goal.returns-in_err-remove-in-Err
returns-in_err-remove-in-Err g c = (
  _,
  g.met.D.Folder.did_more _ _ _ _ _ c.make.ensures c.remove.ensures,
  makes_nothing c.args.path.now c.make.result c.remove.result c.from_residual.result _ c.from_residual.ensures.1 (ap is_ok c.in-Err.is),
)

pub returns-in_ok-remove-in-Err : goal.returns-in_ok-remove-in-Err
returns-in_ok-remove-in-Err g c = (
  _,
  g.met.D.Folder.did_more _ _ _ _ _ c.make.ensures (g.met.D.Folder.did_more _ _ _ _ _ c.remove.ensures c.make-in-Err.ensures),
  makes_again c.args.path.now c.make.result c.remove.result c.make-in-Err.result,
)
