-- The chunks of a file (this project's own rule): a blank line; or comment lines with the blank line after
-- them, or the end of the file; or comment lines, if any, with a statement line and, where that begins a
-- block, the block's lines.
-- Begin with `chunks`.
use Rattle.std.specs.Prelude.{Option, Some, None, ℕ, List, [], ◌∷◌, map, Bool, true, false, not, ◌&&◌}
use Rattle.std.specs.List.{concat, list_any}
use Rattle.bz_token.specs.declared.cutter.scan.LineKind.{LineKind}
use Rattle.bz_token.specs.declared.cutter.scan.LineKind.TheVariants.{CommentLine, Statement}
use Rattle.bz_token.specs.declared.cutter.block.Opener.{Opener}
use Rattle.bz_token.specs.Groups.{grouped}
use Rattle.bz_token.specs.LogicalLines.{Line, lines}
use Rattle.bz_token.specs.Blocks.{opener, goes_on}

-- the kind of comment lines
abbrev pub is_comment_line : LineKind → Bool
is_comment_line CommentLine = true
is_comment_line _ = false

-- the lines of a chunk from the first that is no comment
abbrev pub after_comments : List Line → List Line
after_comments [] = []
after_comments (l ∷ ls) = elim (is_comment_line l.kind) [ true ↦ after_comments ls | false ↦ l ∷ ls ]

-- the word of a block that a statement line begins with
abbrev pub block_word : LineKind → List ℕ → Option Opener
block_word Statement text = opener text
block_word _ text = None

-- whether lines that begin with such a word go on with a text: it goes on with the block, and no string broke
-- off before (that is a fault, which ends the chunk)
abbrev pub takes_on : Option Opener → List Line → List ℕ → Bool
takes_on None block text = false
takes_on (Some word) block text = not (list_any (λ l. l.broken) block) && goes_on word text

-- comment lines alone take any line, a statement the lines of its block and no other, a blank line none
abbrev pub is_followed : List Line → List ℕ → Bool
is_followed [] text = true
is_followed (l ∷ ls) text = takes_on (block_word l.kind l.text) (l ∷ ls) text

-- whether the next line joins the chunk
abbrev pub chunk_goes_on : List Line → Line → Bool
chunk_goes_on chunk next = is_followed (after_comments chunk) next.text

-- the text of lines, one after another
abbrev pub text_of : List Line → List ℕ
text_of ls = concat (map (λ l. l.text) ls)

-- the chunks of a file, in order
abbrev pub chunks : List ℕ → List (List ℕ)
chunks bytes = map text_of (grouped chunk_goes_on (lines bytes))
