use Rattle.std.proofs.Common.{false, sym, ◌∙◌, ap}
use Rattle.bz_token.specs.Common.{map_or}
use Rattle.bz_attribute.specs.Marks.{marks}
use Rattle.bz_engine.proofs.RowKeys.{named, unnamed}
use Rattle.bz_engine.proofs.rules.RulesLanguage.key.Goals as goal

pub returns-in-None : goal.returns-in-None
returns-in-None c = λ target met. unnamed c.in-Some.stmt c.in-None.ensures target (sym (ap (map_or false (marks target)) c.in-Some.is) ∙ met)

pub returns-in-Some-name : goal.returns-in-Some-name
returns-in-Some-name c = λ target met. named c.in-Some.stmt c.in-Some-name.name c.in-Some-name.ensures target (sym (ap (map_or false (marks target)) c.in-Some.is) ∙ met)
