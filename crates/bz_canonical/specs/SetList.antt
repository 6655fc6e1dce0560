-- What `set` makes of an argument that has these lines, where its value is one list of strings (this project's own rule).
-- Begin with `SetsInLines`.
use Rattle.std.specs.Prelude.{◌≡◌, ℕ, List, ◌++◌, true, false}
use Rattle.bz_tree.specs.Tree.{Segment}
use Rattle.bz_attribute.specs.Rules.{first_named}
use Rattle.bz_rule.specs.Set.{set}
use Rattle.bz_rule.specs.Reports.{sets}
use Rattle.bz_rule.specs.declared.forms.AttributeValues.{AttributeValues}
use Rattle.bz_canonical.specs.Canonical.{AreReadAlone, argument_lines}
use Rattle.bz_canonical.specs.declared.edited.EditedList.{EditedList}
use Rattle.bz_canonical.specs.declared.edited.EditedList.TheVariants.{Unchanged, Written}

-- the first argument of the name has another value: the arguments, with the new one, have these lines
pub record IsSet (new : AttributeValues) (args : List Segment) (lines : List ℕ) : Type 0 where
  pub sets_is : sets new.attr.now new.values.now (first_named new.attr.now args) ≡ true
  pub lines_are : lines ≡ argument_lines (set new.attr.now new.values.now args)

-- of the arguments that are read of these lines alone; what is written stands after what was in the buffer before
abbrev pub SetsInLines : ℕ → List ℕ → AttributeValues → List ℕ → List ℕ → EditedList → Type 0
SetsInLines depth lines new before after Unchanged = (args : List Segment) → AreReadAlone depth lines args → sets new.attr.now new.values.now (first_named new.attr.now args) ≡ false
SetsInLines depth lines new before after Written = (written : List ℕ) × (after ≡ before ++ written) × ((args : List Segment) → AreReadAlone depth lines args → IsSet new args written)
