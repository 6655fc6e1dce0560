-- For private clauses alone: what a word of a group was read as.
use Rattle.std.specs.Prelude.{Option, None, Some}
use Rattle.bz_rule.specs.Commands.{Command}
use Rattle.bz_script.specs.Groups.{Label}
use Rattle.bz_script.specs.declared.group.Word.{Word}
use Rattle.bz_script.specs.declared.group.Word.TheVariants as word

abbrev pub command_of : Word → Option Command
command_of (word.Command command) = Some command
command_of (word.Label label) = None

abbrev pub label_of : Word → Option Label
label_of (word.Command command) = None
label_of (word.Label label) = Some label
