-- What a report's status says of the file.
use Rattle.std.specs.Prelude.{◌≡◌, ℕ, false, List, None}
use Rattle.bz_tree.specs.Tree.{Statement}
use Rattle.bz_label.specs.Labels.{Package}
use Rattle.bz_passes.specs.Exchange.{some_missing}
use Rattle.bz_passes.specs.Passes.{Changes}
use Rattle.bz_engine.specs.File.{IsFile}
use Rattle.bz_engine.specs.Language.{meaning}
use Rattle.bz_engine.specs.Outcome.{Run, Script, slots_of, some_failure, text_after}

-- The file has these statements and no fault, and all were edited: no command failed on one, each target that has to mark something did, and the
-- text is that of all statements as the script left them.
pub record IsDoneWhole (run : Run) (file text : List ℕ) (statements : List Statement) : Type 0 where
  pub read : IsFile run.max_depth file statements None
  pub none_fails : some_failure run.home run.passes statements ≡ false
  pub found : some_missing (meaning run.home) run.passes (slots_of statements) ≡ false
  pub text_is : text ≡ text_after run.home run.passes statements

-- some command left something else in a slot than it found
abbrev pub SomeChange : Package → Script → List Statement → Type 0
SomeChange home passes statements = Changes (meaning home) passes (slots_of statements)
