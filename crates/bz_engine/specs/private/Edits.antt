-- What the script on one chunk answers, for private clauses.
use Rattle.std.specs.Prelude.{◌≡◌, ℕ, ◌+◌, ◌≤◌, true, false, IfNone, IfSome, if◌then◌else◌, List, [], ◌∷◌, ◌++◌, length, Option, Some, Ok, Err, option_to_list, take}
use Rattle.std.specs.List.{flat_map}
use Rattle.bz_tree.specs.Tree.{Statement}
use Rattle.bz_engine.specs.declared.edit.ScriptRun.{ScriptRun}
use Rattle.bz_engine.specs.declared.edit.Edited.{Edited}
use Rattle.bz_engine.specs.declared.edit.Edited.TheVariants.{Done, Faulty, Failed}
use Rattle.bz_engine.specs.declared.edit.Scripted.{Scripted}
use Rattle.bz_engine.specs.declared.edit.Scripted.TheVariants as scripted
use Rattle.bz_engine.specs.declared.report.SyntaxFault.{SyntaxFault}
use Rattle.bz_engine.specs.File.{IsAnswerOf}
use Rattle.bz_passes.specs.Passes.{Slot}
use Rattle.bz_passes.specs.Entries.{failure_text}
use Rattle.bz_passes.specs.Exchange.{Fits, IsLeftBy, Kept, log_alone, slot_after}
use Rattle.bz_passes.specs.declared.entry.Entry.{Entry}
use Rattle.bz_engine.specs.Language.{meaning}
use Rattle.bz_engine.specs.Failing.{changes, fails_on}
use Rattle.bz_engine.specs.Outcome.{Run, is_query, text_after, failures, some_failure}
use Rattle.bz_engine.specs.Progress.{Progress, IsKeptOf, last_class, text_following}

abbrev pub run_of : ScriptRun → Run
run_of script = record { home = script.home.now; passes = script.passes.now; keep_going = script.keep_going; max_depth = script.max_depth }

-- The chunk is done: what is kept is that of the chunks with it, and its text stands after the text that was there.
pub record IsDone (run : Run) (cs : List (List ℕ)) (statements : List Statement) (chunk : List ℕ) (old new : Progress) (text_before text_following : List ℕ) : Type 0 where
  pub more : List Statement
  pub kept : IsKeptOf run (cs ++ chunk ∷ []) (statements ++ more) new
  pub shown : List ℕ
  pub appended : text_following ≡ text_before ++ shown
  pub text : text_after run.home run.passes (statements ++ more) ≡ text_after run.home run.passes statements ++ shown
  pub none_fails : run.keep_going ≡ false → old.failed ≡ false → new.failed ≡ false

-- The chunk has a fault, and nothing was done.
pub record IsFaulty (max_depth : ℕ) (chunk : List ℕ) (fault : SyntaxFault) (old new : Progress) (text_before text_following : List ℕ) : Type 0 where
  pub fault_is : IsAnswerOf max_depth old.line chunk (Err fault)
  pub same : new ≡ old
  pub nothing : text_following ≡ text_before

-- An execution fails on the chunk's statement, and failures end the run.
pub record IsFailed (run : Run) (chunk : List ℕ) (message : Option (List ℕ)) (old new : Progress) (text_before text_following : List ℕ) : Type 0 where
  pub ends : run.keep_going ≡ false
  pub statement : Statement
  pub read : IsAnswerOf run.max_depth old.line chunk (Ok (Some statement))
  pub fails : old.failed ≡ false → some_failure run.home run.passes (statement ∷ []) ≡ true
  pub message_is : old.failed ≡ false → option_to_list message ≡ take 1 (failures run.home run.passes (statement ∷ []))
  pub changed : new.changed ≡ old.changed
  pub nothing : text_following ≡ text_before

abbrev pub IsEdited : Run → List (List ℕ) → List Statement → List ℕ → Progress → Progress → List ℕ → List ℕ → Edited → Type 0
IsEdited run cs statements chunk old new before after Done = IsDone run cs statements chunk old new before after
IsEdited run cs statements chunk old new before after (Faulty fault) = IsFaulty run.max_depth chunk fault old new before after
IsEdited run cs statements chunk old new before after (Failed message) = IsFailed run chunk message old new before after

-- a chunk is edited so, whatever chunks were done before
abbrev pub EditsChunk : Run → List ℕ → Progress → Progress → List ℕ → List ℕ → Edited → Type 0
EditsChunk run chunk old new before after edited =
    (cs : List (List ℕ)) (statements : List Statement) → IsKeptOf run cs statements old → IsEdited run cs statements chunk old new before after edited

-- nothing was done
abbrev pub DoesNothing : Progress → Progress → List ℕ → List ℕ → Type 0
DoesNothing old new before after = (new ≡ old) × (after ≡ before)

-- The script on a chunk that may be known as a whole: this is what it made of it, or nothing is done.
pub record EditsWhole (run : Run) (chunk : List ℕ) (old new : Progress) (before after : List ℕ) (answer : Option Edited) : Type 0 where
  pub fits : Fits new.kept run.passes
  pub lines : new.line ≤ old.line + length chunk
  pub edited : IfSome answer (EditsChunk run chunk old new before after)
  pub nothing : IfNone answer (DoesNothing old new before after)

-- The script on one statement: it is done,
pub record IsLaidOut (run : Run) (s : Statement) (old new : Progress) (before after : List ℕ) : Type 0 where
  pub left : (slots : List (Slot Statement)) → IsLeftBy (meaning run.home) (changes run.home) (fails_on run.home) run.passes slots old.kept old.changed old.failed
      → IsLeftBy (meaning run.home) (changes run.home) (fails_on run.home) run.passes (slots ++ Some s ∷ []) new.kept new.changed new.failed
  pub last : new.last ≡ last_class old.last (slot_after (meaning run.home) run.passes (Some s) ∷ [])
  pub line : new.line ≡ old.line
  pub text : after ≡ before ++ (if is_query run.passes then [] else text_following old.last (slot_after (meaning run.home) run.passes (Some s) ∷ []))
  pub none_fails : run.keep_going ≡ false → old.failed ≡ false → new.failed ≡ false

-- the message of the first failure that was told, by pass and command
abbrev pub first_failed : List (Kept Entry) → List (List ℕ)
first_failed kept = take 1 (flat_map failure_text (log_alone kept))

-- or the run ends at it.
pub record IsEnded (run : Run) (s : Statement) (old new : Progress) (before after : List ℕ) : Type 0 where
  pub ends : run.keep_going ≡ false
  pub fails : old.failed ≡ false → some_failure run.home run.passes (s ∷ []) ≡ true
  pub message_is : old.failed ≡ false → (slots : List (Slot Statement))
      → IsLeftBy (meaning run.home) (changes run.home) (fails_on run.home) run.passes slots old.kept old.changed old.failed
      → first_failed new.kept ≡ take 1 (failures run.home run.passes (s ∷ []))
  pub changed : new.changed ≡ old.changed
  pub line : new.line ≡ old.line
  pub nothing : after ≡ before

abbrev pub IsScripted : Run → Statement → Progress → Progress → List ℕ → List ℕ → Scripted → Type 0
IsScripted run s old new before after scripted.Done = IsLaidOut run s old new before after
IsScripted run s old new before after scripted.Failed = IsEnded run s old new before after

-- a failure ends the run, where this is kept
abbrev pub IsFailedBy : List (Kept Entry) → Edited → Type 0
IsFailedBy kept edited = (message : Option (List ℕ)) × ((edited ≡ Failed message) × (option_to_list message ≡ first_failed kept))

-- what the script made of the statement's chunk, where this is kept
abbrev pub IsEditedOf : List (Kept Entry) → Scripted → Edited → Type 0
IsEditedOf kept scripted.Done edited = edited ≡ Done
IsEditedOf kept scripted.Failed edited = IsFailedBy kept edited
