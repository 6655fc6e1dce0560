use Rattle.std.proofs.Common.{◌≡◌, drop}
use Rattle.bz_engine.specs.Outcome.{is_query}
use Rattle.bz_engine.proofs.rule_passes.is_query.Given as goal

-- the passes that are left decide
abbrev pub invariant-loop-pass : goal.invariant-loop-pass
invariant-loop-pass l = is_query (drop l.pass-index l.passes) ≡ is_query l.passes
