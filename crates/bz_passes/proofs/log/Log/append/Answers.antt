use Rattle.bz_passes.proofs.Woven.{are_appended, woven_appended}
use Rattle.bz_passes.proofs.log.Log.append.Goals as goal

pub invariant_of-self-in-Ok : goal.invariant_of-self-in-Ok
invariant_of-self-in-Ok c =
    let appended = c.in-Ok.ensures in
    are_appended _ _ _ _ _ _ _ _ _ appended.kinds appended.lines appended.messages c.self.invariant c.other.invariant

pub returns-in-Ok : goal.returns-in-Ok
returns-in-Ok c =
    let appended = c.in-Ok.ensures in
    woven_appended _ _ _ _ _ _ _ _ _ _ _ appended.kinds appended.lines appended.messages c.self.invariant c.other.invariant c.self.view_is c.other.view_is
