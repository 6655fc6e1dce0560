-- What a chunk is read as, by its tokens: the row of its statement, nothing, or its fault.
use Rattle.std.specs.Prelude.{ℕ, List, Bool, ◌&&◌, is_some, Option, Result, IfOk, IfErr, IfSome, IfNone}
use Rattle.bz_token.specs.Places.{Placed}
use Rattle.bz_token.specs.Reading.{AreTokensOf}
use Rattle.bz_tree.specs.declared.fault.ParseFault.{ParseFault}
use Rattle.bz_tree.specs.declared.row.Row.{Row}
use Rattle.bz_tree.specs.Tree.{Statement}
use Rattle.bz_tree.specs.Statement.{first_seen, first_token}
use Rattle.bz_tree.specs.private.RowSteps.{row_run, row_start, is_upright}
use Rattle.bz_tree.specs.Chunk.{IsStatementIn, IsBlank, IsFaultIn}
use Rattle.bz_tree.specs.Rows.{IsRowOf}

-- The walk over these tokens, of which a reader need not know, has a row of them: some are no newlines, the first stands in
-- column 1 and is no word of a block, and no step of the walk leaves them to the tree.
abbrev pub has_row : List Placed → Bool
has_row tokens = is_some (first_seen tokens) && (is_upright (first_token tokens) && is_some (row_run row_start tokens))

pub record IsReadByTokens (first : ℕ) (text : List ℕ) (tokens : List Placed) (result : Result (Option Row) ParseFault) : Type 0 where
  pub statement : IfOk result (λ o. IfSome o (λ row. (depth : ℕ) → AreTokensOf first depth text tokens
      → (s : Statement) × IsStatementIn first depth text s × IsRowOf s row))
  pub blank : IfOk result (λ o. IfNone o ((depth : ℕ) → AreTokensOf first depth text tokens → IsBlank first depth text))
  pub fault : IfErr result (λ fault. (depth : ℕ) → AreTokensOf first depth text tokens → IsFaultIn first depth text fault)
