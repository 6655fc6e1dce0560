-- What reading a chunk answers, as its statement's row, nothing, or a fault.
use Rattle.std.proofs.Common.{ℕ, List}
use Rattle.std.specs.Prelude.{Option, None, Some, Result, Ok, Err, IfOk, IfErr, IfSome, IfNone}
use Rattle.bz_token.specs.Places.{Placed}
use Rattle.bz_token.specs.Reading.{AreTokensOf}
use Rattle.bz_tree.specs.declared.row.Row.{Row}
use Rattle.bz_tree.specs.declared.fault.ParseFault.{ParseFault}
use Rattle.bz_tree.specs.Chunk.{IsStatementIn, IsBlank, IsFaultIn}
use Rattle.bz_tree.specs.Rows.{IsRowOf}
use Rattle.bz_tree.specs.Tree.{Statement}
use Rattle.bz_layout_laws.proofs.ChunkLaws.{chunk_class}
use Rattle.bz_engine.specs.private.ChunkRead.{IsReadAs}
use Rattle.bz_engine.specs.private.Rows.{IsStatementRow}

-- a statement and its row
abbrev HasRow : ℕ → ℕ → List ℕ → Row → Type 0
HasRow line depth text row = (s : Statement) × IsStatementIn line depth text s × IsRowOf s row

statement_row : (line depth : ℕ) (text : List ℕ) (row : Row) → HasRow line depth text row → IsStatementRow line depth text row
statement_row line depth text row read = record {
  statement = read.0;
  read = read.1;
  of_row = record { class = chunk_class line text read.1.tokens read.0 read.1.reads.chunk; parts = read.2 };
}

pub read_by_text : (line depth : ℕ) (text : List ℕ) (r : Result (Option Row) ParseFault)
    → IfOk r (λ o. IfSome o (HasRow line depth text)) → IfOk r (λ o. IfNone o (IsBlank line depth text)) → IfErr r (IsFaultIn line depth text)
    → IsReadAs depth line text r
read_by_text line depth text (Ok (Some row)) read blank fault = statement_row line depth text row read
read_by_text line depth text (Ok None) read blank fault = blank
read_by_text line depth text (Err f) read blank fault = fault

pub read_by_tokens : (line depth : ℕ) (text : List ℕ) (tokens : List Placed) (r : Result (Option Row) ParseFault) → AreTokensOf line depth text tokens
    → IfOk r (λ o. IfSome o (λ row. (d : ℕ) → AreTokensOf line d text tokens → HasRow line d text row))
    → IfOk r (λ o. IfNone o ((d : ℕ) → AreTokensOf line d text tokens → IsBlank line d text))
    → IfErr r (λ f. (d : ℕ) → AreTokensOf line d text tokens → IsFaultIn line d text f)
    → IsReadAs depth line text r
read_by_tokens line depth text tokens (Ok (Some row)) are read blank fault = statement_row line depth text row (read depth are)
read_by_tokens line depth text tokens (Ok None) are read blank fault = blank depth are
read_by_tokens line depth text tokens (Err f) are read blank fault = fault depth are
