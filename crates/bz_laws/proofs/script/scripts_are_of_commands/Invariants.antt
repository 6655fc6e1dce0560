use Rattle.std.proofs.Common.{◌≡◌, drop}
use Rattle.std.specs.List.{list_all}
use Rattle.std.specs.Str.{is_utf8}
use Rattle.bz_rule.specs.Commands.{is_command, command_passes}
use Rattle.bz_laws.proofs.script.scripts_are_of_commands.Given as goal

-- the passes that are left decide
abbrev pub invariant-loop-pass : goal.invariant-loop-pass
invariant-loop-pass l =
    (list_all (λ p. list_all is_command p.commands) (drop l.pass-index l.passes) ≡ list_all (λ p. list_all is_command p.commands) l.passes)
    × (list_all (λ p. list_all (command_passes is_utf8) p.commands) (drop l.pass-index l.passes) ≡ list_all (λ p. list_all (command_passes is_utf8) p.commands) l.passes)
