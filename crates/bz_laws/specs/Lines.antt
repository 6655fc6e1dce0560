-- The lines on which a statement was read (this project's own rule).
use Rattle.std.specs.Prelude.{◌≡◌, ℕ, None, Some}
use Rattle.bz_tree.specs.Tree.{Statement}
use Rattle.bz_label.specs.Labels.{Line}
use Rattle.bz_passes.specs.Passes.{Slot}
use Rattle.bz_attribute.specs.Marks.{marks}

-- It is on the same lines, and a target that is a line marks both or neither.
pub record IsOnItsLines (s t : Statement) : Type 0 where
  pub start : t.start ≡ s.start
  pub end : t.end ≡ s.end
  pub marked : (line : ℕ) → marks (Line line) t ≡ marks (Line line) s

-- what is left of a statement, if anything is
abbrev pub KeepsLines : Statement → Slot Statement → Type 0
KeepsLines s None = Unit {0}
KeepsLines s (Some t) = IsOnItsLines s t
