use Rattle.std.proofs.Common.{◌≡◌, ◌↔◌, ℕ, List, true, false, Option, None, Some, ap, sym, subst}
use Rattle.std.proofs.lemmas.Slice.Eq.{bytes_eq-Decides}
use Rattle.bz_token.specs.Common.{map_or}
use Rattle.bz_label.specs.Labels.{Name}
use Rattle.bz_attribute.specs.Marks.{marks_rule}
use Rattle.bz_attribute.specs.Rules.{Rule, is_text, name_in}
use Rattle.bz_laws.proofs.targets.marks_are_of_rules.Goals as goal

text_is : (text : List ℕ) (o : Option (List ℕ)) → (is_text text o ≡ true) ↔ (o ≡ Some text)
text_is text None = (λ h. absurd cc, λ h. absurd cc)
text_is text (Some other) =
    (λ h. ap (λ (t : List ℕ). Some t) (sym ((bytes_eq-Decides text other).0 h)), λ h. let same : other ≡ text = cc in (bytes_eq-Decides text other).1 (sym same))

pub returns-clause-name : goal.returns-clause-name
returns-clause-name c name s r is =
    subst (λ (o : Option Rule). (map_or false (marks_rule (Name name) s.start) o ≡ true) ↔ (name_in r.args ≡ Some name)) (sym is) (text_is name (name_in r.args))
