use Rattle.bz_attribute.specs.Rules.{value}
use Rattle.bz_rule.proofs.commands.list_place.list_place.Goals as goal

pub returns-in-None-clause-place : goal.returns-in-None-clause-place
returns-in-None-clause-place c s r h =
    let v = c.in-Some.ensures.some s r h in
    record { place = c.in-Some.value; there = v; none = (c.in-None.ensures.none (value v.arg) v.after v.read).none }

pub returns-in-Some-first_list-clause-place : goal.returns-in-Some-first_list-clause-place
returns-in-Some-first_list-clause-place c s r h =
    let v = c.in-Some.ensures.some s r h in
    record { place = c.in-Some.value; there = v; list = c.in-Some-first_list.ensures.some (value v.arg) v.after v.read }
