use Rattle.std.proofs.Common.{◌≡◌, drop}
use Rattle.bz_engine.specs.private.Sealed.{leave_names}
use Rattle.bz_engine.proofs.names.leave_names.Given as goal

-- the passes that are left decide
abbrev pub invariant-loop-pass : goal.invariant-loop-pass
invariant-loop-pass l = leave_names (drop l.pass-index l.passes) ≡ leave_names l.passes
