use Rattle.std.proofs.Common.{refl}
use Rattle.bz_engine.proofs.sealed.edit_if_made.Goals as goal

pub returns-clause-some : goal.returns-clause-some
returns-clause-some c = (c.in-Some.stmt, c.in-Some.is, c.in_ok-scripted.ensures.scripted c.in-Some.stmt refl)
