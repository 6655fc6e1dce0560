use Rattle.std.proofs.Common.{◌≡◌, ◌++◌, ◌∷◌, [], map, take}
use Rattle.bz_engine.proofs.names.closings_of.Given as goal

abbrev pub invariant-loop-end : goal.invariant-loop-end
invariant-loop-end l = l.closings.items ≡ map (λ end. end ++ 34 ∷ []) (take l.end-index l.ends)
