use Rattle.std.proofs.Common.{◌≡◌, drop, map}
use Rattle.bz_engine.specs.private.Sealed.{by_each, with_name}
use Rattle.bz_engine.proofs.names.add_names.Given as goal

-- the names so far, with those that are left
abbrev pub invariant-loop-name : goal.invariant-loop-name
invariant-loop-name l =
    by_each with_name l.names.items (map (λ name. name.now) (drop l.name-index l.more))
    ≡ by_each with_name l.fn.names.items (map (λ name. name.now) l.more)
