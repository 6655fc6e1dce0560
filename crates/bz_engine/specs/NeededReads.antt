-- The reads of a run: each was needed (this project's own rule).
-- Begin with `AreReads`.
use Rattle.std.specs.Prelude.{◌≡◌, ℕ, ◌+◌, ◌≤◌, List, [], ◌∷◌, ◌++◌, length, None, ⊤}
use Rattle.std.specs.List.{concat}
use Rattle.bz_token.specs.Chunks.{chunks}
use Rattle.bz_tree.specs.Tree.{Statement}
use Rattle.bz_label.specs.Labels.{Package}
use Rattle.bz_devices.specs.Device.{ends, MayFollow, NoneEnds}
use Rattle.bz_devices.specs.Ahead.{IsUndecided}
use Rattle.bz_engine.specs.declared.options.Options.{Options}
use Rattle.bz_engine.specs.File.{AreStatementsOf}
use Rattle.bz_engine.specs.Outcome.{Script, Run, run_with, MayGoOn}

-- After reads that gave these pieces the chunks `front` are done, and the bytes `left` of the pieces stand after
-- them (`bytes_are`, which follows from `chunks_are` and is plainer). Each file that begins with the pieces
-- begins with these chunks, and goes on with those of the bytes `left` and `rest` together, where `rest` is
-- what follows the pieces: nothing, where the end was met. (`ForEveryFile` does not name that rest, and
-- `BeginsWith` speaks of one file.) The first chunk begins on line 1. The chunks have these statements and no
-- fault, and do not end the run.
pub record AreDone (run : Run) (pieces front : List (List ℕ)) (statements : List Statement)
    (left : List ℕ) : Type 0 where
  pub bytes_are : concat pieces ≡ concat front ++ left
  pub chunks_are : (rest : List ℕ) → MayFollow (ends pieces) rest
      → chunks (concat pieces ++ rest) ≡ front ++ chunks (left ++ rest)
  pub read : AreStatementsOf run.max_depth 1 front statements None
  pub none_fails : MayGoOn run statements

-- After reads that gave these pieces another was needed: none of them met the end of the input (`going`), and
-- the bytes `left`, which stand after the chunks that are done (`front`), leave the next chunk open.
pub record IsOneNeeded (run : Run) (max_statement : ℕ) (pieces : List (List ℕ)) (left : List ℕ) : Type 0 where
  pub going : NoneEnds pieces
  pub front : List (List ℕ)
  pub statements : List Statement
  pub done : AreDone run pieces front statements left
  pub undecided : IsUndecided max_statement left

-- Each of these reads, made after those that gave `before`, was needed and gave at most 8,192 bytes, the most
-- that one read gives. Its bytes (`piece`) and those that were left of the reads before it (`left`) are
-- together at most 8,192 more than the longest chunk may have. (`AreNeeded` of bz_devices, in no stop, says of
-- the reads for one chunk that they were needed.)
abbrev pub AreNeededAfter : Run → ℕ → List (List ℕ) → List (List ℕ) → Type 0
AreNeededAfter run max_statement before [] = ⊤
AreNeededAfter run max_statement before (piece ∷ pieces) = (left : List ℕ) × IsOneNeeded run max_statement before left
    × (length piece ≤ 8192) × (length (left ++ piece) ≤ max_statement + 8192)
    × AreNeededAfter run max_statement (before ++ piece ∷ []) pieces

-- The reads of the run with these options gave these pieces: they are no more than it may make, and each was
-- needed and no larger than it may be. (So they are at most one more than there are bytes, by the law
-- `reads_are_few`: each read before the last gave a byte.)
pub record AreReads (home : Package) (passes : Script) (options : Options)
    (pieces : List (List ℕ)) : Type 0 where
  pub within : length pieces ≤ options.max_reads
  pub needed : AreNeededAfter (run_with home passes options) options.max_statement [] pieces
