use Rattle.bz_engine.proofs.argument.execute_on_list.Goals as goal

pub returns-in-Some : goal.returns-in-Some
returns-in-Some c = rw c.in-Some.ensures c.execute_add.ensures

pub returns-in-Some-removed_by : goal.returns-in-Some-removed_by
returns-in-Some-removed_by c = rw c.in-Some-removed_by.ensures.command c.execute_remove.ensures

pub returns-in-Some-values_set_by : goal.returns-in-Some-values_set_by
returns-in-Some-values_set_by c = rw c.in-Some-values_set_by.ensures c.execute_set.ensures

pub returns-in-Some-replaced_by : goal.returns-in-Some-replaced_by
returns-in-Some-replaced_by c = rw c.in-Some-replaced_by.ensures c.execute_replace.ensures
