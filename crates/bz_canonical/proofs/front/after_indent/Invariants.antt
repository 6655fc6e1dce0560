use Rattle.std.proofs.Common.{◌≡◌, ◌+◌, ◌++◌, ℕ, List}
use Rattle.bz_layout.specs.Pieces.{indent}
use Rattle.bz_canonical.proofs.front.after_indent.Given as goal

abbrev pub invariant-loop-i : goal.invariant-loop-i
invariant-loop-i l = (m : ℕ) (tail : List ℕ) → l.rest ≡ indent m ++ tail → l.text ≡ indent (l.i + m) ++ tail
