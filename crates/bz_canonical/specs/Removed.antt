-- What `remove` of values makes of an argument that has these lines (this project's own rule).
-- Begin with `RemovesFromLines`.
use Rattle.std.specs.Prelude.{◌≡◌, ℕ, List, ◌++◌, true, false}
use Rattle.bz_tree.specs.Tree.{Segment}
use Rattle.bz_label.specs.Labels.{Package}
use Rattle.bz_label.specs.declared.arguments.Attributes.TheVariants.{Named}
use Rattle.bz_rule.specs.Remove.{remove}
use Rattle.bz_rule.specs.Reports.{removes}
use Rattle.bz_canonical.specs.Canonical.{AloneLines, AreReadAlone, argument_lines}
use Rattle.bz_rule.specs.declared.forms.AttributeValues.{AttributeValues}
use Rattle.bz_canonical.specs.declared.edited.EditedList.{EditedList}
use Rattle.bz_canonical.specs.declared.edited.EditedList.TheVariants.{Unchanged, Written}

-- an element equals a value: the arguments, without those that do, have these lines, or none
pub record IsRemoved (home : Package) (old : AttributeValues) (args : List Segment) (lines : List ℕ) : Type 0 where
  pub removed : removes home (Named old.attr.now) old.values.now args ≡ true
  pub lines_are : lines ≡ argument_lines (remove home (Named old.attr.now) old.values.now args)

-- of the arguments that are read of these lines alone; what is written stands after what was in the buffer before
abbrev pub RemovesFromLines : AloneLines → AttributeValues → List ℕ → List ℕ → EditedList → Type 0
RemovesFromLines alone old before after Unchanged = (args : List Segment) → AreReadAlone alone.depth alone.lines args → removes alone.home (Named old.attr.now) old.values.now args ≡ false
RemovesFromLines alone old before after Written = (written : List ℕ) × (after ≡ before ++ written) × ((args : List Segment) → AreReadAlone alone.depth alone.lines args → IsRemoved alone.home old args written)
