-- What a chunk's bytes are read as, one of three (this project's own rule): a statement, nothing, or a fault of their own.
use Rattle.bz_memory.specs.NoMemory.{no_memory}
use Rattle.std.specs.Prelude.{◌≢◌, ℕ, ◌⊎◌, List}
use Rattle.bz_tree.specs.Tree.{Statement}
use Rattle.bz_tree.specs.Chunk.{IsStatementIn, IsBlank, IsFaultIn}
use Rattle.bz_tree.specs.declared.fault.ParseFault.{ParseFault}
use Rattle.bz_tree.specs.declared.fault.ParseFault.TheVariants.{OutOfMemory}

-- A chunk of these bytes, whose lines count from `first` and in which at most `depth` brackets may be open at once, has an answer.
abbrev pub HasAnswer : ℕ → ℕ → List ℕ → Type 0
HasAnswer first depth bytes =
    ((s : Statement) × IsStatementIn first depth bytes s)
    ⊎ (IsBlank first depth bytes ⊎ ((fault : ParseFault) × (fault ≢ OutOfMemory no_memory) × IsFaultIn first depth bytes fault))
