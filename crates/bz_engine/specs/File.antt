-- The statements of a file: those of its chunks in order, up to the first chunk with a fault (this project's
-- own rule).
-- Begin with `IsFile`.
use Rattle.bz_memory.specs.NoMemory.{no_memory}
use Rattle.std.specs.Prelude.{◌≡◌, ◌≢◌, ℕ, List, [], ◌∷◌, take, Option, None, Some, Result, Ok, Err}
use Rattle.std.specs.Str.{IsUtf8, IsValidUpTo}
use Rattle.bz_token.specs.Places.{line_at, column_at}
use Rattle.bz_token.specs.Chunks.{chunks}
use Rattle.bz_tree.specs.Tree.{Statement}
use Rattle.bz_tree.specs.Chunk.{IsStatementIn, IsBlank, IsFaultIn}
use Rattle.bz_tree.specs.declared.fault.ParseFault.TheVariants.{OutOfMemory}
use Rattle.bz_engine.specs.declared.report.SyntaxFault.{SyntaxFault}
use Rattle.bz_engine.specs.declared.report.SyntaxFault.TheVariants.{NotUtf8, Parse}

-- the fault of bytes of which the first n are UTF-8 and no more are: it is at the place of the next byte,
-- where the bytes begin on this line
abbrev pub not_utf8 : ℕ → ℕ → List ℕ → SyntaxFault
not_utf8 first n bytes = NotUtf8 (line_at first (take n bytes)) (column_at (take n bytes))

-- The answer for a chunk, which is read by itself: a statement, nothing where it is blank, or its first fault.
-- That a chunk is not UTF-8 comes before all its other faults, wherever they stand; these have the order of
-- `IsFaultIn`.
-- At most `depth` brackets may be open at once, and its lines count from `first` (as in `Chunk`, which takes
-- these two the other way round). That memory was refused is no answer, and the fault of no file. Two faults say
-- it: the last line leaves out `Parse (OutOfMemory ..)`, and no text has `Parse (Lex (OutOfMemory ..))`, since
-- `fault_at` of bz_token never gives it. (`SyntaxFault` is an enum of `src/report.rt`.)
abbrev pub IsAnswerOf : ℕ → ℕ → List ℕ → Result (Option Statement) SyntaxFault → Type 0
IsAnswerOf depth first chunk (Ok (Some s)) = IsUtf8 chunk × IsStatementIn first depth chunk s
IsAnswerOf depth first chunk (Ok None) = IsUtf8 chunk × IsBlank first depth chunk
IsAnswerOf depth first chunk (Err (NotUtf8 l c)) =
    (IsUtf8 chunk → ⊥) × ((n : ℕ) × IsValidUpTo chunk n × (NotUtf8 l c ≡ not_utf8 first n chunk))
IsAnswerOf depth first chunk (Err (Parse fault)) =
    IsUtf8 chunk × IsFaultIn first depth chunk fault × (fault ≢ OutOfMemory no_memory)

-- A chunk with such an answer and the chunks after it have these statements and this fault together; `After`
-- says what the chunks after it have by themselves (an argument, since `AreStatementsOf` below, which uses this, says
-- it). A fault ends the list.
abbrev pub Follows : Result (Option Statement) SyntaxFault → (List Statement → Option SyntaxFault → Type 0)
    → List Statement → Option SyntaxFault → Type 0
Follows (Err f) After statements fault = (statements ≡ []) × (fault ≡ Some f)
Follows (Ok None) After statements fault = After statements fault
Follows (Ok (Some s)) After statements fault =
    (more : List Statement) × (statements ≡ s ∷ more) × After more fault

-- The chunks, of which the first begins at this line, have these statements before their first fault, if
-- there is one.
abbrev pub AreStatementsOf : ℕ → ℕ → List (List ℕ) → List Statement → Option SyntaxFault → Type 0
AreStatementsOf depth first [] statements fault = (statements ≡ []) × (fault ≡ None)
AreStatementsOf depth first (c ∷ cs) statements fault =
    (answer : Result (Option Statement) SyntaxFault) × IsAnswerOf depth first c answer
    × Follows answer (AreStatementsOf depth (line_at first c) cs) statements fault

-- The file has these statements before its first fault, or before its end if it has none. Lines count from 1.
abbrev pub IsFile : ℕ → List ℕ → List Statement → Option SyntaxFault → Type 0
IsFile depth bytes statements fault = AreStatementsOf depth 1 (chunks bytes) statements fault
