use Rattle.bz_label.specs.declared.arguments.Setting.TheVariants.{ToValues}
use Rattle.bz_rule.specs.declared.command.Action.TheVariants.{Set}
use Rattle.bz_rule.specs.Commands.{args_after, args_done}
use Rattle.bz_laws.proofs.EditedTwice.{slot_again}
use Rattle.bz_laws.proofs.SetAgain.{set_again, set_kind_again}
use Rattle.bz_laws.proofs.effects.set_twice_changes_nothing.Goals as goal

pub returns-clause-values : goal.returns-clause-values
returns-clause-values c = λ home attr values slot. slot_again (args_after (Set (ToValues attr values)) home) (args_done (Set (ToValues attr values)) home) (λ args. set_again attr values args) slot

pub returns-clause-kind : goal.returns-clause-kind
returns-clause-kind c = λ home kind slot. set_kind_again kind slot
