use Rattle.std.proofs.Common.{◌≡◌, ◌++◌, ℕ, List}
use Rattle.bz_canonical.specs.private.Edited.{AreEdited}
use Rattle.bz_canonical.proofs.edited.put_elements_edited.Given as goal

abbrev pub invariant-loop : goal.invariant-loop
invariant-loop l = (front : List ℕ) → l.fn.begun.from.now ≡ front ++ l.fn.begun.rest.now → AreEdited l.home l.edit l.lines (l.fn.written.items ++ front) l.fn.begun.rest.now l.written.items l.passed
