use Rattle.std.proofs.Common.{◌≡◌, drop}
use Rattle.bz_engine.specs.private.Sealed.{by_each, with_command}
use Rattle.bz_engine.proofs.names.add_commands.Given as goal

-- the names so far, with those of the commands that are left
abbrev pub invariant-loop-command : goal.invariant-loop-command
invariant-loop-command l = by_each with_command l.names.items (drop l.command-index l.commands) ≡ by_each with_command l.fn.names.items l.commands
