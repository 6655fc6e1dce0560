-- Blocks: a statement that begins with `def`, `for` or `if` is kept as it was written (this project's own
-- rule).
-- Begin with `IsBlockOf`.
use Rattle.std.specs.Prelude.{codes, ℕ, ◌+◌, ◌-◌, List, [], ◌∷◌, ◌++◌, map, find, Bool, true, false, not, if◌then◌else◌, ◌≡◌, ◌==◌, ◌&&◌, ◌||◌, nat_lt, Option, Some, None, is_some}
use Rattle.std.specs.List.{slice_split, take_while}
use Rattle.bz_token.specs.declared.token.Kind.{Kind}
use Rattle.bz_token.specs.declared.token.Kind.TheVariants.{Keyword, Kept}
use Rattle.bz_token.specs.Blocks.{opener_of}
use Rattle.bz_token.specs.Places.{Placed, line_at, column_at}
use Rattle.bz_tree.specs.declared.tree.kinds.Mark.{Mark}
use Rattle.bz_tree.specs.declared.tree.kinds.Mark.TheVariants.{Open, Close}
use Rattle.bz_tree.specs.Tree.{leaf, is_operator_item, Statement}
use Rattle.bz_tree.specs.Kinds.{mark_of}
use Rattle.bz_tree.specs.Brackets.{leaf_of, end_line, is_line, without_lines}
use Rattle.bz_tree.specs.Statement.{class_of, is_aside, bare_tokens, first_token, last_seen}
use Rattle.bz_token.specs.Common.{is_filled, last_of, map_or}

-- A token of this kind and text begins a block; `opener_of` of bz_token has the words. (bz_token tells a block
-- by its bytes, `opener`, to find the end of its chunk. What begins none in tokens begins none in bytes, by a
-- law of bz_layout_laws; the converse is not proved.)
abbrev pub is_block_word_at : Kind → List ℕ → Bool
is_block_word_at Keyword text = is_some (opener_of text)
is_block_word_at _ text = false

-- the same of a token with its place
abbrev pub is_block_word : Placed → Bool
is_block_word t = is_block_word_at t.kind t.text

-- the operator `:`
abbrev pub is_colon : Placed → Bool
is_colon t = is_operator_item (codes ":") (leaf_of t)

-- the last of these tokens is `:`
abbrev pub ends_open : List Placed → Bool
ends_open tokens = map_or false is_colon (last_of tokens)

-- The logical lines: what stands between newlines, without comments. A line without tokens is an empty list.
-- (`lines` of bz_token are those of a file's bytes, each with its newline.)
abbrev pub logical_lines : List Placed → List (List Placed)
logical_lines tokens = map bare_tokens (slice_split (λ t. is_line (mark_of t)) tokens)

-- The columns of the levels of indentation around a line are a stack, the innermost first. This is the stack after
-- a line whose first token stands in `column`: where the line before ends with `:` (true), the column is deeper than
-- the innermost, and is put on the stack; else it is one of the stack, which is popped down to it. None: the line is
-- indented wrongly.
abbrev pub indented : Bool → ℕ → List ℕ → Option (List ℕ)
indented true column [] = Some (column ∷ [])
indented true column (c ∷ columns) = if nat_lt c column then Some (column ∷ c ∷ columns) else None
indented false column [] = None
indented false column (c ∷ columns) =
    if c == column then Some (c ∷ columns) else indented false column columns

-- The line of the first logical line that is indented wrongly. `opens`: the line before ends with `:`. Blank
-- lines and comment lines do not count.
abbrev pub bad_line : List ℕ → Bool → List (List Placed) → Option ℕ
bad_line columns opens [] = None
bad_line columns opens ([] ∷ lines) = bad_line columns opens lines
bad_line columns opens ((t ∷ ts) ∷ lines) =
    elim (indented opens t.col columns) [
      | None ↦ Some t.line
      | Some inner ↦ bad_line inner (ends_open (t ∷ ts)) lines
    ]

-- the line of the first logical line of a block, whose header stands in column 1, that is indented wrongly
abbrev pub block_indent : List Placed → Option ℕ
block_indent tokens = bad_line (1 ∷ []) false (logical_lines tokens)

-- how many brackets are open after a token of this mark (`open_after_token` of bz_token says which; in tokens that
-- were read they match, so that a count is enough)
abbrev pub depth_after : Mark → ℕ → ℕ
depth_after (Open shape) depth = depth + 1
depth_after (Close shape) depth = depth - 1
depth_after _ depth = depth

-- `:` stands among these tokens outside brackets; `depth` brackets are open before them
abbrev pub has_colon : ℕ → List Placed → Bool
has_colon depth [] = false
has_colon depth (t ∷ ts) = (depth == 0 && is_colon t) || has_colon (depth_after (mark_of t) depth) ts

-- `:` stands outside brackets in the header, the first logical line with a token
abbrev pub has_header_colon : List Placed → Bool
has_header_colon tokens = map_or false (has_colon 0) (find is_filled (logical_lines tokens))

-- What is asked of a block's tokens in place of a grammar: `:` stands outside brackets in its header, and its last
-- line does not end with `:`.
abbrev pub is_block : List Placed → Bool
is_block tokens = has_header_colon tokens && not (ends_open (bare_tokens tokens))

-- the comments above the first token
abbrev pub above : List Placed → List (List ℕ)
above tokens = map (λ t. t.text) (without_lines (take_while (λ t. is_aside t.kind) tokens))

-- After these bytes, which begin on line `first`, a token begins at its place.
pub record IsAt (first : ℕ) (before : List ℕ) (t : Placed) : Type 0 where
  pub line : line_at first before ≡ t.line
  pub col : column_at before ≡ t.col

-- The bytes from a token's place to the end of a later one (`header`: of a block the first token, with which
-- its header begins).
pub record IsKeptText (first : ℕ) (bytes : List ℕ) (header last : Placed) (kept : List ℕ) : Type 0 where
  pub before : List ℕ
  pub front : List ℕ
  pub after : List ℕ
  pub kept_is : kept ≡ front ++ last.text
  pub bytes_are : bytes ≡ before ++ (kept ++ after)
  pub begins : IsAt first before header
  pub ends : IsAt first (before ++ front) last

-- a block as a statement: one node, the text that is kept (`header` is its first token, and `end` the line on
-- which it ends)
abbrev pub kept_statement : List (List ℕ) → List ℕ → Placed → ℕ → Statement
kept_statement before kept header end = record {
  before = before;
  nodes = leaf Kept kept ∷ [];
  suffix = None;
  class = class_of (leaf Kept kept ∷ []);
  start = header.line;
  end = end;
}

-- The block that the tokens are: its text from its first token, comments not counted (`header`), to the end
-- of its last, comments counted.
pub record IsBlockOf (first : ℕ) (bytes : List ℕ) (tokens : List Placed) (s : Statement) : Type 0 where
  pub header : Placed
  pub last : Placed
  pub kept : List ℕ
  pub is_header : first_token tokens ≡ Some header
  pub is_last : last_seen tokens ≡ Some last
  pub is_kept : IsKeptText first bytes header last kept
  pub is_block : is_block tokens ≡ true
  pub is : s ≡ kept_statement (above tokens) kept header (end_line last)
