-- The text of a well-formed statement is one chunk and is parsed again, however its groups stand.
use Rattle.std.proofs.Common.{◌≡◌, ℕ, false}
use Rattle.bz_token.specs.Cuts.{IsChunk}
use Rattle.bz_tree.specs.Chunk.{IsStatementIn}
use Rattle.bz_tree.specs.Tree.{Statement, items_of}
use Rattle.bz_layout.specs.Layout.{is_comment}
use Rattle.bz_layout_laws.specs.FreeLayout.{Choice, Stand, spelled_by, text_by}
use Rattle.bz_layout_laws.specs.Lineless.{lineless}
use Rattle.bz_layout_laws.specs.WellFormed.{IsWellFormed}
use Rattle.bz_layout_laws.proofs.ParsedAgain.{parsed_by}
use Rattle.bz_layout_laws.proofs.WellFormed.{formed_legible, formed_no_block}
use Rattle.bz_layout_laws.proofs.WholeChunk.{chunked_by}

pub free_chunked : (depth : ℕ) (s : Statement) (c : Choice) → IsWellFormed depth s → Stand c (items_of s.nodes) → is_comment s.class ≡ false → IsChunk (text_by c s)
free_chunked depth s c formed stands class = chunked_by c s (formed_legible depth s formed) class (formed_no_block depth s formed)

pub free_again : (first depth : ℕ) (s : Statement) (c : Choice) → IsWellFormed depth s → Stand c (items_of s.nodes) → (t : Statement) × IsStatementIn first depth (text_by c s) t × (lineless t ≡ lineless (spelled_by c s))
free_again first depth s c formed stands = parsed_by first depth c s (formed_legible depth s formed) formed.parsed formed.depth_fits stands (formed_no_block depth s formed) formed.grammar
