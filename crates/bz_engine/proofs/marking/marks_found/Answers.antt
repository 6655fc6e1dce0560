use Rattle.std.proofs.Common.{ℕ, List, Bor, subst}
use Rattle.std.specs.Prelude.{Option, IfSome, option_map}
use Rattle.bz_canonical.specs.Canonical.{HasName, IsNameless}
use Rattle.bz_engine.proofs.marking.marks_found.Goals as goal

pub returns-in-Some : goal.returns-in-Some
returns-in-Some c = λ marked depth s is. c.marks_name.ensures marked s (subst (λ (o : Option (Bor (List ℕ))). HasName (option_map (λ name. name.now) o) s) c.in-Some.is is.named)

pub returns-in-Some-kind : goal.returns-in-Some-kind
returns-in-Some-kind c = λ marked depth s is.
    let nameless = subst (λ (o : Option (Bor (List ℕ))). IfSome (option_map (λ kind. kind.now) o) (λ k. IsNameless k s.nodes)) c.in-Some-kind.is is.nameless in
    c.marks_rules.ensures marked s nameless.rule nameless.rule_is
