use Rattle.std.proofs.Common.{◌≡◌, drop}
use Rattle.std.specs.List.{list_all}
use Rattle.bz_engine.specs.private.Sealed.{leaves_name}
use Rattle.bz_engine.proofs.names.all_leave_names.Given as goal

-- the commands that are left decide
abbrev pub invariant-loop-command : goal.invariant-loop-command
invariant-loop-command l = list_all leaves_name (drop l.command-index l.commands) ≡ list_all leaves_name l.commands
