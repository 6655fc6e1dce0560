use Rattle.bz_laws.proofs.RunAgain.{twice}
use Rattle.bz_laws.proofs.repeatable.the_same_script_twice.Goals as goal

pub returns : goal.returns
returns c = twice c.a_second_time_finds_nothing.ensures
