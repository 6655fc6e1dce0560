-- Changes of arguments that a command does not look at.
use Rattle.std.specs.Prelude.{◌≡◌, ℕ, List, true, Some, None, codes}
use Rattle.bz_tree.specs.Tree.{Segment}
use Rattle.bz_rule.specs.Commands.{Command, mentions}
use Rattle.bz_attribute.specs.Rules.{name_of, is_named}

-- g leaves each argument its name, and all of an argument `name`.
pub record KeepsNames (g : Segment → Segment) : Type 0 where
  pub names : (a : Segment) → name_of (g a).nodes ≡ name_of a.nodes
  pub name : (a : Segment) → is_named (codes "name") a ≡ true → g a ≡ a

-- g changes named arguments alone, and none that the command mentions; it leaves each its name, and all of an argument `name`.
pub record IsAside (command : Command) (g : Segment → Segment) : Type 0 where
  pub names : (a : Segment) → name_of (g a).nodes ≡ name_of a.nodes
  pub unnamed : (a : Segment) → name_of a.nodes ≡ None → g a ≡ a
  pub name : (a : Segment) → is_named (codes "name") a ≡ true → g a ≡ a
  pub mentioned : (a : Segment) (attr : List ℕ) → name_of a.nodes ≡ Some attr → mentions command attr ≡ true → g a ≡ a
