use Rattle.bz_laws.proofs.Commands.{after_aside, done_aside}
use Rattle.bz_laws.proofs.aside.others_do_not_count.Goals as goal

pub returns-clause-after : goal.returns-clause-after
returns-clause-after c = after_aside

pub returns-clause-done : goal.returns-clause-done
returns-clause-done c = done_aside
