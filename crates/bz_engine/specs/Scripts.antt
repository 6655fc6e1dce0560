-- What each script has.
use Rattle.std.specs.Prelude.{IsTrue, List}
use Rattle.std.specs.List.{list_all}
use Rattle.bz_label.specs.Labels.{Target}
use Rattle.bz_rule.specs.Commands.{Command, is_command}
use Rattle.bz_passes.specs.Passes.{Pass}

-- each command of each pass is one that can be read
abbrev pub AreCommands : List (Pass Target Command) → Type 0
AreCommands passes = IsTrue (list_all (λ p. list_all is_command p.commands) passes)
