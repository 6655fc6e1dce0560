-- The statements of chunks that have no fault: each chunk is read by itself with its first line.
use Rattle.std.specs.Prelude.{◌≡◌, ℕ, List, [], ◌∷◌, Option}
use Rattle.std.specs.Prelude.Option.{Some, None}
use Rattle.bz_token.specs.Places.{line_at}
use Rattle.bz_tree.specs.Chunk.{IsStatementIn, IsBlank}
use Rattle.bz_tree.specs.Tree.{Statement}

-- a chunk is a statement, or nothing where it is blank
abbrev pub IsFound : ℕ → ℕ → List ℕ → Option Statement → Type 0
IsFound line depth chunk None = IsBlank line depth chunk
IsFound line depth chunk (Some s) = IsStatementIn line depth chunk s

-- what is found in a chunk, and then what its successors are read as
abbrev pub AreFound : Option Statement → (List Statement → Type 0) → List Statement → Type 0
AreFound None After statements = After statements
AreFound (Some s) After statements = (more : List Statement) × (statements ≡ s ∷ more) × After more

-- The chunks, of which the first begins at this line, are read as these statements, and none of them has a fault.
abbrev pub AreStatementsIn : ℕ → ℕ → List (List ℕ) → List Statement → Type 0
AreStatementsIn line depth [] statements = statements ≡ []
AreStatementsIn line depth (c ∷ cs) statements =
    (found : Option Statement) × IsFound line depth c found × AreFound found (AreStatementsIn (line_at line c) depth cs) statements
