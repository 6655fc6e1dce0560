use Rattle.std.proofs.Common.{ap, sym}
use Rattle.bz_tree.specs.private.Productions.{operator_role}
use Rattle.bz_tree.proofs.grammar.role.longer_role.Goals as goal

pub returns-in-text : goal.returns-in-text
returns-in-text c = ap operator_role (sym c.in-text.is)

pub returns-in-text-3 : goal.returns-in-text-3
returns-in-text-3 c = ap operator_role (sym c.in-text-3.is-text-13)

pub returns-in-text-3-2 : goal.returns-in-text-3-2
returns-in-text-3-2 c = ap operator_role (sym c.in-text-3.is-text-14)

pub returns-in-text-3-3 : goal.returns-in-text-3-3
returns-in-text-3-3 c = ap operator_role (sym c.in-text-3.is-text-15)

pub returns-in-text-3-4 : goal.returns-in-text-3-4
returns-in-text-3-4 c = ap operator_role (sym c.in-text-3.is-text-16)

pub returns-in-text-3-5 : goal.returns-in-text-3-5
returns-in-text-3-5 c = ap operator_role (sym c.in-text-3.is-text-17)

pub returns-in-text-3-6 : goal.returns-in-text-3-6
returns-in-text-3-6 c = ap operator_role (sym c.in-text-3.is-text-18)

pub returns-in-text-3-7 : goal.returns-in-text-3-7
returns-in-text-3-7 c = ap operator_role (sym c.in-text-3.is-text-19)

pub returns-in-text-2 : goal.returns-in-text-2
returns-in-text-2 c = ap operator_role (sym c.in-text-2.is-text-2)

pub returns-in-text-2-2 : goal.returns-in-text-2-2
returns-in-text-2-2 c = ap operator_role (sym c.in-text-2.is-text-3)

pub returns-in-text-2-3 : goal.returns-in-text-2-3
returns-in-text-2-3 c = ap operator_role (sym c.in-text-2.is-text-4)

pub returns-in-text-2-4 : goal.returns-in-text-2-4
returns-in-text-2-4 c = ap operator_role (sym c.in-text-2.is-text-5)

pub returns-in-text-2-5 : goal.returns-in-text-2-5
returns-in-text-2-5 c = ap operator_role (sym c.in-text-2.is-text-6)

pub returns-in-text-2-6 : goal.returns-in-text-2-6
returns-in-text-2-6 c = ap operator_role (sym c.in-text-2.is-text-7)

pub returns-in-text-2-7 : goal.returns-in-text-2-7
returns-in-text-2-7 c = ap operator_role (sym c.in-text-2.is-text-8)

pub returns-in-text-2-8 : goal.returns-in-text-2-8
returns-in-text-2-8 c = ap operator_role (sym c.in-text-2.is-text-9)

pub returns-in-text-2-9 : goal.returns-in-text-2-9
returns-in-text-2-9 c = ap operator_role (sym c.in-text-2.is-text-10)

pub returns-in-text-2-10 : goal.returns-in-text-2-10
returns-in-text-2-10 c = ap operator_role (sym c.in-text-2.is-text-11)

pub returns-in-text-2-11 : goal.returns-in-text-2-11
returns-in-text-2-11 c = ap operator_role (sym c.in-text-2.is-text-12)
