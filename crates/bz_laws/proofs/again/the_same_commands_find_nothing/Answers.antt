use Rattle.bz_laws.proofs.CommandsAgain.{all_find_nothing, all_stay}
use Rattle.bz_laws.proofs.again.the_same_commands_find_nothing.Goals as goal

pub returns-clause-settled : goal.returns-clause-settled
returns-clause-settled c = all_find_nothing c.a_second_time_finds_nothing.ensures

pub returns-clause-again : goal.returns-clause-again
returns-clause-again c = all_stay
