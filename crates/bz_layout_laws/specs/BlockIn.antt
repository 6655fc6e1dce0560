-- Chunks that are blocks.
use Rattle.std.specs.Prelude.{◌≡◌, ℕ, List, true, false}
use Rattle.bz_token.specs.Places.{Placed}
use Rattle.bz_token.specs.Reading.{AreTokensOf}
use Rattle.bz_tree.specs.Chunk.{IsReadAs}
use Rattle.bz_tree.specs.Statement.{first_token}
use Rattle.bz_tree.specs.Tree.{Statement}
use Rattle.bz_token.specs.Common.{map_or}
use Rattle.bz_tree.specs.Blocks.{is_block_word}

-- The bytes of a chunk are read as this statement, and their first token is a word that begins a block.
pub record IsBlockIn (first depth : ℕ) (bytes : List ℕ) (s : Statement) : Type 0 where
  pub tokens : List Placed
  pub are : AreTokensOf first depth bytes tokens
  pub reads : IsReadAs first bytes tokens s
  pub begins : map_or false is_block_word (first_token tokens) ≡ true
