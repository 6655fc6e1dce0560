use Rattle.std.proofs.Common.{◌≡◌, true}
use Rattle.bz_rule.proofs.NotSeen.{not_seen}
use Rattle.bz_rule.proofs.laws.sealed_arguments_are_not_seen.Goals as goal

pub returns : goal.returns
returns c = λ like. not_seen (λ run t. like run t ≡ true)
