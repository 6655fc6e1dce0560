-- Statements whose text is read back wherever it stands in a file.
use Rattle.std.specs.Prelude.{◌≡◌, ℕ, List, [], ◌∷◌, ◌++◌, true, false, ◌<◌}
use Rattle.bz_layout.specs.Gaps.{gap_text}
use Rattle.bz_token.specs.declared.cutter.block.Opener.TheVariants.{If}
use Rattle.bz_token.specs.Blocks.{goes_on}
use Rattle.bz_token.specs.Chunks.{chunks}
use Rattle.bz_token.specs.Cuts.{IsChunk}
use Rattle.bz_tree.specs.Chunk.{IsStatementIn}
use Rattle.bz_tree.specs.Tree.{Statement}
use Rattle.bz_layout.specs.Layout.{layout_text}
use Rattle.bz_layout_laws.specs.FileText.{takes_line, own_text, own_chunks}
use Rattle.bz_layout_laws.specs.Spelled.{spelled_statement}
use Rattle.bz_layout_laws.specs.Lineless.{lineless}

-- No block goes on with the text. It is a chunk where the file ends; with the empty lines that it takes, if comment lines or a block,
-- unless a block goes on with what follows; else whatever follows. And it is read as the statement.
pub record IsReadBack (depth : ℕ) (s : Statement) : Type 0 where
  pub begins : (rest : List ℕ) → goes_on If (layout_text s ++ rest) ≡ false
  pub ends : chunks (layout_text s) ≡ layout_text s ∷ []
  pub alone : takes_line s.class ≡ false → IsChunk (layout_text s)
  pub gap : takes_line s.class ≡ true → (lines : ℕ) (rest : List ℕ) → 0 < lines → goes_on If rest ≡ false
      → chunks (layout_text s ++ (gap_text lines ++ rest)) ≡ own_chunks s lines ++ chunks rest
  pub read : (first lines : ℕ)
      → (t : Statement) × IsStatementIn first depth (own_text s.class (layout_text s) lines) t × (lineless t ≡ lineless (spelled_statement s))
