use Rattle.std.proofs.Common.{◌≡◌, drop}
use Rattle.std.specs.List.{list_all}
use Rattle.bz_rule.specs.Commands.{is_command}
use Rattle.bz_engine.proofs.rule_passes.are_commands.Given as goal

-- the commands that are left decide
abbrev pub invariant-loop-command : goal.invariant-loop-command
invariant-loop-command l = list_all is_command (drop l.command-index l.commands) ≡ list_all is_command l.commands
