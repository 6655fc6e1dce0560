use Rattle.std.proofs.Common.{◌≡◌, drop}
use Rattle.bz_engine.specs.private.Named.{all_named}
use Rattle.bz_engine.proofs.rule_passes.all_named.Given as goal

-- the passes that are left decide
abbrev pub invariant-loop-pass : goal.invariant-loop-pass
invariant-loop-pass l = all_named (drop l.pass-index l.passes) ≡ all_named l.passes
