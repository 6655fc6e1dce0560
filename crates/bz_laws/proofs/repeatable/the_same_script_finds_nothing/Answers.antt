use Rattle.bz_laws.proofs.ScriptAgain.{script_finds_nothing}
use Rattle.bz_laws.proofs.repeatable.the_same_script_finds_nothing.Goals as goal

pub returns : goal.returns
returns c = script_finds_nothing c.a_second_time_finds_nothing.ensures
