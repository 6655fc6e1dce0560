-- What the script on the next chunk answers, for private clauses.
use Rattle.std.specs.Prelude.{◌≡◌, ℕ, ◌+◌, ◌*◌, ◌≤◌, Bool, IfNone, IfSome, IsTrue, IsFalse, List, [], length, take, Option, None, Some}
use Rattle.std.specs.Str.{IsUtf8}
use Rattle.bz_token.specs.Places.{line_at}
use Rattle.bz_tree.specs.Tree.{Statement}
use Rattle.bz_devices.specs.Ahead.{Ahead, IsNextChunk, IsFewAfter}
use Rattle.bz_passes.specs.Exchange.{Fits}
use Rattle.bz_engine.specs.Outcome.{Run}
use Rattle.bz_engine.specs.Progress.{Progress}
use Rattle.bz_engine.specs.SessionValue.{SessionValue, run_in}
use Rattle.bz_engine.specs.declared.canonical.Found.{Found}
use Rattle.bz_engine.specs.declared.edit.Scripted.{Scripted}
use Rattle.bz_engine.specs.private.Edits.{DoesNothing, EditsChunk, IsEditedOf, IsLaidOut, IsScripted}
use Rattle.bz_engine.specs.private.Found.{IsFoundOn}
use Rattle.bz_engine.specs.declared.next_chunk.NextChunk.{NextChunk}

-- The chunk stands ahead, it is not too long, and this is what the script made of it.
pub record IsFirstEdited (run : Run) (max_statement : ℕ) (ahead : Ahead) (old new : Progress) (before after : List ℕ) (next : NextChunk) : Type 0 where
  pub chunk : IsNextChunk max_statement ahead next.len
  pub lines : new.line ≤ old.line + next.len
  pub edited : EditsChunk run (take next.len ahead.bytes) old new before after next.edited

-- The script on the statement of a chunk that was found: it is done, or nothing is.
pub record EditsFound (run : Run) (found : Found) (old new : Progress) (before after : List ℕ) (done : Bool) : Type 0 where
  pub fits : Fits new.kept run.passes
  pub line : new.line ≡ old.line
  pub edited : IsTrue done → (s : Statement) → IsFoundOn run.max_depth old.line found s → IsLaidOut run s old new before after
  pub nothing : IsFalse done → DoesNothing old new before after

-- The script on the statement of a chunk that was found, of which some arguments may be sealed: this is what it made of it, or nothing is done.
pub record ScriptsFound (run : Run) (found : Found) (old new : Progress) (before after : List ℕ) (answer : Option Scripted) : Type 0 where
  pub fits : Fits new.kept run.passes
  pub line : new.line ≡ old.line
  pub scripted : IfSome answer (λ scripted. (s : Statement) → IsFoundOn run.max_depth old.line found s → IsScripted run s old new before after scripted)
  pub nothing : IfNone answer (DoesNothing old new before after)

-- This is what the script made of a chunk that was found.
pub record IsKnownEdited (run : Run) (found : Found) (old new : Progress) (before after : List ℕ) (next : NextChunk) : Type 0 where
  pub utf8 : IsUtf8 found.chunk.chunk.now
  pub mid : Progress
  pub scripted : Scripted
  pub same_line : mid.line ≡ old.line
  pub is : (s : Statement) → IsFoundOn run.max_depth old.line found s → IsScripted run s old mid before after scripted
  pub passed : new ≡ record mid { line = line_at mid.line found.chunk.chunk.now }
  pub len_is : next.len ≡ length found.chunk.chunk.now
  pub edited_is : IsEditedOf new.kept scripted next.edited

-- the first chunk ahead of a session is done
abbrev pub IsNextEdited : SessionValue → SessionValue → List ℕ → List ℕ → NextChunk → Type 0
IsNextEdited old new before after next = IsFirstEdited (run_in old) old.options.max_statement new.ahead old.progress new.progress before after next

-- The next chunk of a session is done; or the input has ended, and nothing is.
abbrev pub IsNext : SessionValue → SessionValue → List ℕ → List ℕ → Option NextChunk → Type 0
IsNext old new before after (Some next) = IsNextEdited old new before after next
IsNext old new before after None = (new.progress ≡ old.progress) × (new.ahead.bytes ≡ []) × IsTrue new.ahead.ended

-- A session that can take a chunk, though more is ahead than between two chunks.
pub record CanTake (v : SessionValue) : Type 0 where
  pub fits : Fits v.progress.kept v.passes
  pub few : IsFewAfter v.ahead
  pub lines : v.progress.line + length v.ahead.bytes ≤ 1 + 8192 * v.ahead.reads
