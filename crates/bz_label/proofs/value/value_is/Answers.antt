use Rattle.std.proofs.Common.{rules}
use Rattle.bz_label.proofs.Literals.{is_value-iff}
use Rattle.bz_label.proofs.value.value_is.Goals as goal

pub returns-then-matches : goal.returns-then-matches
returns-then-matches c = search (rules, is_value-iff)
