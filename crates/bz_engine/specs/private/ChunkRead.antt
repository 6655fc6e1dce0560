-- What reading a chunk answers, for private clauses.
use Rattle.std.specs.Prelude.{ℕ, List, Option, None, Some, Result, Ok, Err}
use Rattle.bz_tree.specs.declared.row.Row.{Row}
use Rattle.bz_tree.specs.declared.fault.ParseFault.{ParseFault}
use Rattle.bz_tree.specs.Chunk.{IsBlank, IsFaultIn}
use Rattle.bz_engine.specs.private.Rows.{IsStatementRow}

abbrev pub IsReadAs : ℕ → ℕ → List ℕ → Result (Option Row) ParseFault → Type 0
IsReadAs max_depth line chunk (Ok (Some row)) = IsStatementRow line max_depth chunk row
IsReadAs max_depth line chunk (Ok None) = IsBlank line max_depth chunk
IsReadAs max_depth line chunk (Err fault) = IsFaultIn line max_depth chunk fault
