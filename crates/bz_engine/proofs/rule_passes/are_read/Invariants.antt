use Rattle.std.proofs.Common.{◌≡◌, drop}
use Rattle.std.specs.List.{list_all}
use Rattle.bz_rule.specs.Commands.{is_command}
use Rattle.bz_engine.proofs.rule_passes.are_read.Given as goal

-- the passes that are left decide
abbrev pub invariant-loop-pass : goal.invariant-loop-pass
invariant-loop-pass l = list_all (λ p. list_all is_command p.commands) (drop l.pass-index l.passes) ≡ list_all (λ p. list_all is_command p.commands) l.passes
