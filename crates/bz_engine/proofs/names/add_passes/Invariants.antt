use Rattle.std.proofs.Common.{◌≡◌, drop}
use Rattle.bz_engine.specs.private.Sealed.{by_each, with_pass}
use Rattle.bz_engine.proofs.names.add_passes.Given as goal

-- the names so far, with those of the passes that are left
abbrev pub invariant-loop-pass : goal.invariant-loop-pass
invariant-loop-pass l = by_each with_pass l.names.items (drop l.pass-index l.passes) ≡ by_each with_pass l.fn.names.items l.passes
