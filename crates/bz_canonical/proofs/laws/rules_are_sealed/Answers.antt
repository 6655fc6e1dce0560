use Rattle.std.proofs.Common.{List, Bool, subst, sym, true, ◌≡◌}
use Rattle.bz_rule.specs.Sealed.{IsSealed, is_asked_for}
use Rattle.bz_canonical.specs.SealedRules.{are_alike, count_sealed, sealed_rule}
use Rattle.bz_canonical.specs.Spans.{statement_of}
use Rattle.bz_canonical.proofs.SoughtRules.{rule_sought}
use Rattle.bz_canonical.proofs.laws.rules_are_sealed.Goals as goal

pub returns : goal.returns
returns c = λ names values home depth r stands chunk written spans is alone shown shown_is.
    subst (λ (all : List Bool). IsSealed (λ run t. are_alike run t ≡ true) (is_asked_for names values home) (count_sealed all) (statement_of r) (statement_of (sealed_rule all r))) (sym shown_is) (rule_sought names values home depth r stands chunk written spans alone is)
