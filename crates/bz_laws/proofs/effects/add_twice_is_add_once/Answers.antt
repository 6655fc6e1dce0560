use Rattle.bz_rule.specs.Add.{add}
use Rattle.bz_laws.proofs.Found.{add_twice}
use Rattle.bz_laws.proofs.EditedTwice.{slot_twice}
use Rattle.bz_laws.proofs.effects.add_twice_is_add_once.Goals as goal

pub returns : goal.returns
returns c = λ home attr values slot. slot_twice (add home attr values) (add_twice home attr values) slot
