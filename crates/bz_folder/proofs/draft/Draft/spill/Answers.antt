use Rattle.bz_folder.proofs.Steps.{spilled, broken}
use Rattle.bz_folder.proofs.draft.Draft.spill.Goals as goal

pub returns-in-Ok-clause-sent : goal.returns-in-Ok-clause-sent
returns-in-Ok-clause-sent g c =
    let s = c.send.ensures in
    rw (← c.self.view_is) (spilled g.D.Folder.did _ c.send.new.folder c.self.inside.failures c.deref.result.now c.bytes.result.now c.clear.new.self c.deref.ensures c.bytes.ensures s.0 c.send.result s.1 s.2 _ c.in-Ok.is c.clear.ensures)

pub returns-in-Err-clause-sent : goal.returns-in-Err-clause-sent
returns-in-Err-clause-sent g c =
    let s = c.send.ensures in
    rw (← c.self.view_is) (broken g.D.Folder.did _ c.send.new.folder _ c.deref.result.now c.bytes.result.now c.self.inside.waiting c.deref.ensures c.bytes.ensures s.0 c.send.result s.1 s.2 _ c.in-Err.is)
