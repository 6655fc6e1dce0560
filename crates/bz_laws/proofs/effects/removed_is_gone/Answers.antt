use Rattle.bz_label.specs.declared.arguments.Chosen.TheVariants.{Values}
use Rattle.bz_attribute.specs.Rules.{is_named}
use Rattle.bz_attribute.specs.Effects.{filtered, unchosen}
use Rattle.bz_rule.specs.Remove.{goes_with_all}
use Rattle.bz_rule.proofs.Kept.{none_left}
use Rattle.bz_rule.proofs.Lawfulness.Remove.{filtered_left}
use Rattle.bz_laws.proofs.Gone.{edited_at}
use Rattle.bz_laws.proofs.effects.removed_is_gone.Goals as goal

pub returns-clause-attribute : goal.returns-clause-attribute
returns-clause-attribute c = λ home attr args. none_left (is_named attr) args

pub returns-clause-all : goal.returns-clause-all
returns-clause-all c = λ home args. none_left goes_with_all args

pub returns-clause-edited : goal.returns-clause-edited
returns-clause-edited c = λ home values a h. filtered_left home (Values values) a h

pub returns-clause-rest : goal.returns-clause-rest
returns-clause-rest c = λ home attr values front rest a h named. edited_at attr (filtered (unchosen home (Values values))) front rest a h named
