use Rattle.std.proofs.Common.{◌≡◌, ◌∷◌, ◌-◌, ◌++◌}
use Rattle.bz_layout.specs.Pieces.{indent}
use Rattle.bz_canonical.proofs.otherwise.put_line.Given as goal

abbrev pub invariant-loop : goal.invariant-loop
invariant-loop l = l.written.items ++ indent (l.level - l.counter) ≡ l.fn.written.items ++ (10 ∷ indent l.level)
