use Rattle.std.proofs.Common.{◌≡◌, drop}
use Rattle.std.specs.List.{list_all}
use Rattle.std.specs.Str.{is_utf8}
use Rattle.bz_rule.specs.Commands.{is_command, command_passes}
use Rattle.bz_laws.proofs.script.are_commands.Given as goal

-- the commands that are left decide
abbrev pub invariant-loop-command : goal.invariant-loop-command
invariant-loop-command l =
    (list_all is_command (drop l.command-index l.commands) ≡ list_all is_command l.commands)
    × (list_all (command_passes is_utf8) (drop l.command-index l.commands) ≡ list_all (command_passes is_utf8) l.commands)
