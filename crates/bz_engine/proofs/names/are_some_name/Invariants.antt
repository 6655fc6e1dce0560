use Rattle.std.proofs.Common.{◌≡◌, codes, drop, map}
use Rattle.bz_token.specs.Common.{is_one_of}
use Rattle.bz_engine.proofs.names.are_some_name.Given as goal

-- the names that are left decide
abbrev pub invariant-loop-name : goal.invariant-loop-name
invariant-loop-name l = is_one_of (map (λ name. name.now) (drop l.name-index l.names)) (codes "name") ≡ is_one_of (map (λ name. name.now) l.names) (codes "name")
