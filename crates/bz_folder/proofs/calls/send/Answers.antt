use Rattle.bz_folder.proofs.Steps.{sends, sends_nothing}
use Rattle.bz_folder.proofs.calls.send.Goals as goal

pub returns-in_err-prepare : goal.returns-in_err-prepare
returns-in_err-prepare g c =
    let r = c.prepare.ensures in
    (r.0, r.1, sends_nothing c.args.state c.args.path.now c.args.bytes.now r.0 c.prepare.result c.from_residual.result _ _ c.in_err-prepare.was c.from_residual.ensures.1 r.2)

pub returns : goal.returns
returns g c =
    let r = c.prepare.ensures in
    (_, g.met.D.Folder.did_more _ _ _ r.0 _ r.1 c.write.ensures, sends c.args.state c.args.path.now c.args.bytes.now r.0 c.prepare.result c.write.result _ c.in_ok-prepare.was r.2)
