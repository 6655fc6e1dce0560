-- What a command makes of the lines of an argument, for private clauses.
use Rattle.std.specs.Prelude.{◌≡◌, ℕ, List, [], ◌++◌, Bool, false, true, None}
use Rattle.bz_tree.specs.Tree.{Segment}
use Rattle.bz_label.specs.Labels.{Package}
use Rattle.bz_canonical.specs.Canonical.{AloneLines, AreReadAlone, Between, argument_lines}
use Rattle.bz_canonical.specs.declared.edited.EditedList.{EditedList}
use Rattle.bz_canonical.specs.declared.edited.EditedList.TheVariants.{Unchanged, Written}
use Rattle.bz_rule.specs.Commands.{Command, args_after, args_done}
use Rattle.bz_engine.specs.declared.argument.EditedArgument.{EditedArgument}
use Rattle.bz_engine.specs.declared.argument.EditedArgument.TheVariants.{Unchanged as Stays, Lines}
use Rattle.bz_engine.specs.private.Found.{told_line}
use Rattle.bz_token.specs.Common.{is_empty}

-- The command changes these arguments into those that have these lines: into some, unless they may go.
pub record ChangesArgs (command : Command) (home : Package) (may_go : Bool) (args : List Segment) (lines : List ℕ) : Type 0 where
  pub told : args_done command home args ≡ told_line true None
  pub goes : is_empty (args_after command home args) ≡ true → may_go ≡ true
  pub lines_are : lines ≡ argument_lines (args_after command home args)

-- It adds an argument to those of which none has its name.
abbrev pub AddsArgument : Command → Package → List ℕ → Type 0
AddsArgument command home lines = ChangesArgs command home false [] lines

-- what the command makes of the arguments at a place that are read of its lines alone
abbrev pub EditsLines : ℕ → Command → Package → Between → EditedArgument → Type 0
EditsLines depth command home place Stays = (args : List Segment) → is_empty place.lines ≡ is_empty args → AreReadAlone depth place.lines args → args_done command home args ≡ told_line false None
EditsLines depth command home place (Lines new) = (args : List Segment) → is_empty place.lines ≡ is_empty args → AreReadAlone depth place.lines args → ChangesArgs command home place.may_go args new.now

-- what the command makes of a list that is read of these lines alone; what is written stands after what was in the buffer
abbrev pub EditsList : Command → AloneLines → List ℕ → List ℕ → EditedList → Type 0
EditsList command alone before after Unchanged = (args : List Segment) → AreReadAlone alone.depth alone.lines args → args_done command alone.home args ≡ told_line false None
EditsList command alone before after Written = (written : List ℕ) × (after ≡ before ++ written) × ((args : List Segment) → AreReadAlone alone.depth alone.lines args → ChangesArgs command alone.home (is_empty written) args written)

-- what the command makes of the argument at a place; what is written stands between what is before and after it there
abbrev pub EditsPlace : ℕ → Command → Package → Between → List ℕ → List ℕ → EditedList → Type 0
EditsPlace depth command home place old new Unchanged = (args : List Segment) → AreReadAlone depth place.lines args → args_done command home args ≡ told_line false None
EditsPlace depth command home place old new Written =
    (written : List ℕ) × (new ≡ old ++ (place.before ++ (written ++ place.after))) × ((args : List Segment) → AreReadAlone depth place.lines args → ChangesArgs command home place.may_go args written)
