-- Blocks as they are kept from a chunk of some file, with whatever comments above.
use Rattle.std.specs.Prelude.{◌≡◌, ℕ, List, [], ◌∷◌}
use Rattle.bz_token.specs.Chunks.{chunks}
use Rattle.bz_tree.specs.Tree.{Statement}
use Rattle.bz_layout_laws.specs.BlockIn.{IsBlockIn}
use Rattle.bz_layout_laws.specs.Legible.{AreComments}
use Rattle.bz_layout_laws.specs.Lineless.{lineless}

-- A block was found in a chunk; the statement is that block, but for its comments and its lines.
pub record IsKeptBlock (depth : ℕ) (s : Statement) : Type 0 where
  pub first : ℕ
  pub bytes : List ℕ
  pub found : Statement
  pub alone : chunks bytes ≡ bytes ∷ []
  pub read : IsBlockIn first depth bytes found
  pub comments : AreComments s.before
  pub is : lineless s ≡ lineless (record found { before = s.before })
