-- What `replace` of a value makes of an argument that has these lines (this project's own rule).
-- Begin with `ReplacesInLines`.
use Rattle.std.specs.Prelude.{◌≡◌, ℕ, List, ◌++◌, true, false}
use Rattle.bz_tree.specs.Tree.{Segment}
use Rattle.bz_label.specs.Labels.{Package}
use Rattle.bz_label.specs.declared.arguments.Attributes.TheVariants.{Named}
use Rattle.bz_rule.specs.Replace.{replace}
use Rattle.bz_rule.specs.Reports.{replaces}
use Rattle.bz_canonical.specs.Canonical.{AloneLines, AreReadAlone, argument_lines}
use Rattle.bz_canonical.specs.declared.edited.EditedList.{EditedList}
use Rattle.bz_canonical.specs.declared.edited.EditedList.TheVariants.{Unchanged, Written}
use Rattle.bz_rule.specs.declared.forms.ReplacedValue.{ReplacedValue}

-- an element is replaced: the arguments, with those that are, have these lines
pub record IsReplaced (home : Package) (value : ReplacedValue) (args : List Segment) (lines : List ℕ) : Type 0 where
  pub replaced : replaces home (Named value.attr.now) value.old.now value.new.now args ≡ true
  pub lines_are : lines ≡ argument_lines (replace home (Named value.attr.now) value.old.now value.new.now args)

-- of the arguments that are read of these lines alone; what is written stands after what was in the buffer before
abbrev pub ReplacesInLines : AloneLines → ReplacedValue → List ℕ → List ℕ → EditedList → Type 0
ReplacesInLines alone value before after Unchanged = (args : List Segment) → AreReadAlone alone.depth alone.lines args → replaces alone.home (Named value.attr.now) value.old.now value.new.now args ≡ false
ReplacesInLines alone value before after Written = (written : List ℕ) × (after ≡ before ++ written) × ((args : List Segment) → AreReadAlone alone.depth alone.lines args → IsReplaced alone.home value args written)
