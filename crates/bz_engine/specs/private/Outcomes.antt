-- For proofs alone: an outcome by where the run ends.
use Rattle.std.specs.Prelude.{◌≡◌, ◌⊎◌, ◌↔◌, ℕ, true, false, List, [], ◌∷◌, ◌++◌, Option}
use Rattle.bz_tree.specs.Tree.{Statement}
use Rattle.bz_engine.specs.declared.report.SyntaxFault.{SyntaxFault}
use Rattle.bz_passes.specs.Passes.{Changes}
use Rattle.bz_engine.specs.File.{IsFile}
use Rattle.bz_engine.specs.Language.{meaning}
use Rattle.bz_engine.specs.Outcome.{BeginsWith, MayGoOn, Run, Told, slots_of, some_failure, text_after, told_of, told_of_failure}

-- All executions take place, up to the first fault of the file: failures do not end the run, or there is none.
pub record IsWholeRun (run : Run) (file text : List ℕ) (told : Told) : Type 0 where
  pub statements : List Statement
  pub fault : Option SyntaxFault
  pub read : IsFile run.max_depth file statements fault
  pub none_fails : MayGoOn run statements
  pub text_is : text ≡ text_after run.home run.passes statements
  pub changed : (told.changed ≡ true) ↔ Changes (meaning run.home) run.passes (slots_of statements)
  pub told_is : told ≡ told_of run.home run.passes statements fault told.changed

-- The run ends at the first statement on which an execution fails: what stands before it is edited and written.
pub record EndsAtFailure (run : Run) (file text : List ℕ) (told : Told) : Type 0 where
  pub ends : run.keep_going ≡ false
  pub before : List Statement
  pub statement : Statement
  pub read : BeginsWith run.max_depth file (before ++ statement ∷ [])
  pub none_fails : some_failure run.home run.passes before ≡ false
  pub fails : some_failure run.home run.passes (statement ∷ []) ≡ true
  pub text_is : text ≡ text_after run.home run.passes before
  pub changed : (told.changed ≡ true) ↔ Changes (meaning run.home) run.passes (slots_of before)
  pub told_is : told ≡ told_of_failure run.home run.passes statement told.changed

abbrev pub EitherEnd : Run → List ℕ → List ℕ → Told → Type 0
EitherEnd run file text told = IsWholeRun run file text told ⊎ EndsAtFailure run file text told
