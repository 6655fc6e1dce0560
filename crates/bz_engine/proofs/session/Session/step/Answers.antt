use Rattle.std.proofs.Common.{refl}
use Rattle.bz_engine.proofs.States.{going_not_ended, going_not_stopped, ended_not_stopped, state_is}
use Rattle.bz_engine.proofs.session.Session.step.Goals as goal

pub returns-in-Stopped-clause-same : goal.returns-in-Stopped-clause-same
returns-in-Stopped-clause-same g c = record { home = refl; passes = refl; options = refl }

pub returns-in-Stopped-clause-stopped : goal.returns-in-Stopped-clause-stopped
returns-in-Stopped-clause-stopped g c before = (refl, refl, refl)

pub returns-in-Stopped-clause-ended : goal.returns-in-Stopped-clause-ended
returns-in-Stopped-clause-ended g c end before = ended_not_stopped _ end before (state_is _ _ _ c.self.view_is c.in-Stopped.is)

pub returns-in-Stopped-clause-steps : goal.returns-in-Stopped-clause-steps
returns-in-Stopped-clause-steps g c going = going_not_stopped _ going (state_is _ _ _ c.self.view_is c.in-Stopped.is)

pub returns-in-Stopped-clause-stops : goal.returns-in-Stopped-clause-stops
returns-in-Stopped-clause-stops g c = state_is _ _ _ c.self.view_is c.in-Stopped.is

pub returns-in-Ended-clause-same : goal.returns-in-Ended-clause-same
returns-in-Ended-clause-same g c = record { home = refl; passes = refl; options = refl }

pub returns-in-Ended-clause-stopped : goal.returns-in-Ended-clause-stopped
returns-in-Ended-clause-stopped g c before = ended_not_stopped _ _ (state_is _ _ _ c.self.view_is c.in-Ended.is) before

pub returns-in-Ended-clause-ended : goal.returns-in-Ended-clause-ended
returns-in-Ended-clause-ended g c end before = (refl, refl, refl, refl)

pub returns-in-Ended-clause-steps : goal.returns-in-Ended-clause-steps
returns-in-Ended-clause-steps g c going = going_not_ended _ _ going (state_is _ _ _ c.self.view_is c.in-Ended.is)

pub returns-in-Ended-clause-stops : goal.returns-in-Ended-clause-stops
returns-in-Ended-clause-stops g c = tt

pub returns-clause-ended : goal.returns-clause-ended
returns-clause-ended g c end before = going_not_ended _ end (state_is _ _ _ c.self.view_is c.in-Going.is) before

pub returns-clause-stopped : goal.returns-clause-stopped
returns-clause-stopped g c before = going_not_stopped _ (state_is _ _ _ c.self.view_is c.in-Going.is) before

pub returns-clause-steps : goal.returns-clause-steps
returns-clause-steps g c going = c.advance.ensures.steps

pub advance-requires : goal.advance-requires
advance-requires g c = record { going = state_is _ _ _ c.self.view_is c.in-Going.is }
