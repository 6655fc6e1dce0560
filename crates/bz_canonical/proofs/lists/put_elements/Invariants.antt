use Rattle.std.proofs.Common.{◌≡◌, ◌++◌, ℕ, List, true}
use Rattle.bz_canonical.specs.private.Elements.{ArePassed}
use Rattle.bz_canonical.proofs.lists.put_elements.Given as goal

abbrev pub invariant-loop : goal.invariant-loop
invariant-loop l = (w : List ℕ) × (l.written.items ≡ l.fn.written.items ++ w) × ArePassed l.lines l.inside l.rest w true l.broken
