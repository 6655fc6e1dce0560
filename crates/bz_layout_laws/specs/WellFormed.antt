-- Statements that are no blocks, as parsing gives them. These are the statements whose text is read back as they are.
use Rattle.std.specs.Prelude.{ℕ, ◌≤◌}
use Rattle.bz_tree.specs.Grammar.{IsStatement}
use Rattle.bz_tree.specs.Tree.{Statement, items_of}
use Rattle.bz_layout_laws.specs.Legible.{depth_of}
use Rattle.bz_layout_laws.specs.Parsed.{IsParsed}
use Rattle.bz_layout_laws.specs.TextsOfKinds.{HasTexts}

-- Tokens and comments are texts of their kinds, kinds and class are those that parsing gives, the nodes are in the grammar,
-- and at most so many brackets are open at once.
pub record IsWellFormed (depth : ℕ) (s : Statement) : Type 0 where
  pub texts : HasTexts s
  pub parsed : IsParsed s
  pub grammar : IsStatement (items_of s.nodes)
  pub depth_fits : depth_of s ≤ depth
