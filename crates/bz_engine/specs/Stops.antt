-- Where a run stops, and what it has done then (this project's own rule).
-- Begin with `HasEndedAt` and `HasStopped`.
use Rattle.std.specs.Prelude.{◌≡◌, ◌≢◌, ◌⊎◌, ℕ, ◌≤◌, true, false, List, [], ◌∷◌, ◌++◌, length, Some, Ok, Err, ⊤}
use Rattle.std.specs.List.{concat, AllByRecursion}
use Rattle.bz_token.specs.Chunks.{chunks}
use Rattle.bz_token.specs.Places.{line_at}
use Rattle.bz_tree.specs.Tree.{Statement}
use Rattle.bz_devices.specs.Device.{ends}
use Rattle.bz_devices.specs.Ahead.{Ahead, IsNextChunk, IsTooLong, IsUndecided}
use Rattle.bz_engine.specs.declared.options.Options.{Options}
use Rattle.bz_engine.specs.declared.report.End.{End}
use Rattle.bz_engine.specs.declared.report.End.TheVariants.{Whole, Syntax, FirstFailure}
use Rattle.bz_engine.specs.declared.run_fault.RunFault.{RunFault}
use Rattle.bz_engine.specs.declared.run_fault.RunFault.TheVariants.{OutOfMemory, ReadFailed, WriteFailed, InputTooLong, StatementTooLong, Stopped}
use Rattle.bz_engine.specs.EveryFile.{ForEveryFile}
use Rattle.bz_engine.specs.File.{IsAnswerOf}
use Rattle.bz_engine.specs.NeededReads.{AreDone}
use Rattle.bz_engine.specs.Outcome.{Run, IsFrontOf, some_failure, text_after}

-- In every file that begins with the pieces, this chunk comes next after the chunks `cs`: so its end is
-- certain. It has at most `max_statement` bytes. (`IsNextChunk` says both by the bytes ahead alone, and
-- limits how many are left after the chunk.)
pub record ComesNext (max_statement : ℕ) (pieces cs : List (List ℕ)) (chunk : List ℕ) : Type 0 where
  pub size : length chunk ≤ max_statement
  pub after : ForEveryFile pieces (λ file. (others : List (List ℕ)) × (chunks file ≡ cs ++ chunk ∷ others))

-- What ends a run when the chunks `cs` are done and a chunk may have `max_statement` bytes, for each end (`End`, in
-- `src/report.rt`): the file has no other chunk (`Whole`), or the next one has this fault, or an execution
-- fails on the statement of the next one, and failures end the run. `RunEnds` (`Outcome`) names the same ends
-- by the statements of one file. This adds which chunk ends the run, that it is no longer than it may be, and
-- that all this holds whatever stands after what was read.
abbrev pub EndsAfter : Run → ℕ → List (List ℕ) → List (List ℕ) → End → Type 0
EndsAfter run max_statement pieces cs Whole = ForEveryFile pieces (λ file. chunks file ≡ cs)
EndsAfter run max_statement pieces cs (Syntax fault) = (chunk : List ℕ) × ComesNext max_statement pieces cs chunk
    × IsAnswerOf run.max_depth (line_at 1 (concat cs)) chunk (Err fault)
EndsAfter run max_statement pieces cs FirstFailure = (run.keep_going ≡ false)
    × (chunk : List ℕ) × ComesNext max_statement pieces cs chunk
    × (s : Statement) × IsAnswerOf run.max_depth (line_at 1 (concat cs)) chunk (Ok (Some s))
    × (some_failure run.home run.passes (s ∷ []) ≡ true)

-- None of these chunks has more than `max_statement` bytes.
abbrev pub AllFit : ℕ → List (List ℕ) → Type 0
AllFit max_statement cs = AllByRecursion (λ chunk. length chunk ≤ max_statement) cs

-- A run came to this end after reads that gave these pieces. The chunks `front`, none of them too long, are
-- done and do not end the run. They have these statements, and the bytes `left` of the pieces stand after them. The
-- end follows from them and from the chunk that ends the run, if one does (`last`): no other counts.
pub record HasEndedAt (run : Run) (max_statement : ℕ) (pieces : List (List ℕ)) (end : End) : Type 0 where
  pub front : List (List ℕ)
  pub statements : List Statement
  pub left : List ℕ
  pub done : AreDone run pieces front statements left
  pub fit : AllFit max_statement front
  pub last : EndsAfter run max_statement pieces front end

-- Another read is needed: no read met the end of the input, and the bytes ahead leave the next chunk open. This
-- is told by the bytes ahead alone; `IsOneNeeded` names the chunks before them too, and all reads that were made.
pub record NeedsRead (max_statement : ℕ) (ahead : Ahead) : Type 0 where
  pub going : ahead.ended ≡ false
  pub undecided : IsUndecided max_statement ahead.bytes

-- The fault (`RunFault`, in `src/run_fault.rt`) tells the truth of a run in which the next chunk begins on
-- the line `line`, and these bytes are ahead. Memory may fail at any time. A read fails only if it was
-- needed, a write only if the next chunk was found. `Stopped` is for sessions: no run answers it.
abbrev pub Tells : Options → ℕ → Ahead → RunFault → Type 0
Tells options line ahead (OutOfMemory _) = ⊤
Tells options line ahead ReadFailed = NeedsRead options.max_statement ahead
Tells options line ahead WriteFailed = (n : ℕ) × IsNextChunk options.max_statement ahead n
-- The input is too long: all the reads that may be made were made, and another is needed.
Tells options _ ahead InputTooLong = (ahead.reads ≡ options.max_reads) × NeedsRead options.max_statement ahead
-- The next chunk, which begins at the line that is told, has more bytes than it may.
Tells options line ahead (StatementTooLong at) = (at ≡ line) × IsTooLong options.max_statement ahead
Tells options line ahead Stopped = ⊥

-- The next chunk after the chunks `front`, which have these statements, adds a text that begins with `text`.
-- With that chunk the statements are `following`, and the bytes `left` stand after it.
pub record BeginsNext (run : Run) (pieces front : List (List ℕ))
    (statements : List Statement) (text : List ℕ) : Type 0 where
  pub chunk : List ℕ
  pub left : List ℕ
  pub following : List Statement
  pub done : AreDone run pieces (front ++ chunk ∷ []) following left
  pub added : List ℕ
  pub adds : text_after run.home run.passes following ≡ text_after run.home run.passes statements ++ added
  pub begins : IsFrontOf text added

-- A fault stopped the run after reads that gave these pieces, when it had written this text: that of the
-- chunks that are done (`front`), and, where a write failed, a front of what the next one adds (`cut`). The
-- chunks that are done have these statements, and the bytes `left` of the pieces stand after them.
pub record IsStopped (run : Run) (options : Options) (pieces : List (List ℕ)) (text : List ℕ)
    (fault : RunFault) : Type 0 where
  pub front : List (List ℕ)
  pub statements : List Statement
  pub left : List ℕ
  pub done : AreDone run pieces front statements left
  pub cut : List ℕ
  pub text_is : text ≡ text_after run.home run.passes statements ++ cut
  pub begins : (cut ≡ []) ⊎ BeginsNext run pieces front statements cut
  pub unwritten : fault ≢ WriteFailed → cut ≡ []
  pub tells : Tells options (line_at 1 (concat front))
      (record { bytes = left; reads = length pieces; ended = ends pieces }) fault

-- A fault stopped the run so (`IsStopped`), and none of the chunks that are done is too long. (bz_laws says
-- `IsStopped` alone, of sessions.)
abbrev pub HasStopped : Run → Options → List (List ℕ) → List ℕ → RunFault → Type 0
HasStopped run options pieces text fault =
    (stopped : IsStopped run options pieces text fault) × AllFit options.max_statement stopped.front
