-- Statements that can stand in a file.
use Rattle.std.specs.Prelude.{ℕ, ◌⊎◌}
use Rattle.bz_tree.specs.Tree.{Statement}
use Rattle.bz_layout_laws.specs.EachText.{HasUtf8}
use Rattle.bz_layout_laws.specs.KeptBlock.{IsKeptBlock}
use Rattle.bz_layout_laws.specs.WellFormed.{IsWellFormed}

-- The statement is well-formed or a block, kept from a file, and its tokens and comments are UTF-8.
pub record IsSound (depth : ℕ) (s : Statement) : Type 0 where
  pub form : IsWellFormed depth s ⊎ IsKeptBlock depth s
  pub utf8 : HasUtf8 s
