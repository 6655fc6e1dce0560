use Rattle.std.proofs.Common.{◌≡◌, true}
use Rattle.bz_rule.proofs.SealedStatements.{shown_alike}
use Rattle.bz_rule.proofs.laws.sealed_rules_are_shown_alike.Goals as goal

pub returns : goal.returns
returns c = λ like. shown_alike (λ run t. like run t ≡ true)
