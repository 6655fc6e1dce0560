-- Whether values are in an argument that has these lines, and what `add` of them makes of the lines (this project's own rule).
-- Begin with `AddsToLines`.
use Rattle.std.specs.Prelude.{◌≡◌, ℕ, List, ◌++◌, Bool, true, false, None}
use Rattle.bz_token.specs.Common.{map_or}
use Rattle.bz_tree.specs.Tree.{Segment}
use Rattle.bz_label.specs.Labels.{Package}
use Rattle.bz_rule.specs.Add.{add}
use Rattle.bz_rule.specs.Reports.{adds}
use Rattle.bz_label.specs.declared.arguments.Chosen.TheVariants.{Values}
use Rattle.bz_attribute.specs.Effects.{no_list_note}
use Rattle.bz_attribute.specs.Reports.{chooses}
use Rattle.bz_attribute.specs.Rules.{first_named}
use Rattle.bz_canonical.specs.Canonical.{AloneLines, AreReadAlone, argument_lines}
use Rattle.bz_rule.specs.declared.forms.AttributeValues.{AttributeValues}
use Rattle.bz_canonical.specs.declared.edited.EditedList.{EditedList}
use Rattle.bz_canonical.specs.declared.edited.EditedList.TheVariants.{Unchanged, Written}

-- the first argument of the name has a list, and of each value an element of it equals it
pub record ArePresent (home : Package) (sought : AttributeValues) (args : List Segment) : Type 0 where
  pub list : no_list_note sought.attr.now (first_named sought.attr.now args) ≡ None
  pub present : adds home sought.values.now (first_named sought.attr.now args) ≡ false

-- It has a list, and of some value none does: the arguments, with such values, have these lines.
pub record AreNew (home : Package) (new : AttributeValues) (args : List Segment) (lines : List ℕ) : Type 0 where
  pub list : no_list_note new.attr.now (first_named new.attr.now args) ≡ None
  pub new_is : adds home new.values.now (first_named new.attr.now args) ≡ true
  pub lines_are : lines ≡ argument_lines (add home new.attr.now new.values.now args)

-- of the arguments that are read of these lines alone; what is written stands after what was in the buffer before
abbrev pub AddsToLines : AloneLines → AttributeValues → List ℕ → List ℕ → EditedList → Type 0
AddsToLines alone new before after Unchanged = (args : List Segment) → AreReadAlone alone.depth alone.lines args → ArePresent alone.home new args
AddsToLines alone new before after Written = (written : List ℕ) × (after ≡ before ++ written) × ((args : List Segment) → AreReadAlone alone.depth alone.lines args → AreNew alone.home new args written)

-- whether a list of the first argument of the name, of those that are read of these lines alone, has an element that equals a value
abbrev pub AreInLines : AloneLines → AttributeValues → Bool → Type 0
AreInLines alone sought there = (args : List Segment) → AreReadAlone alone.depth alone.lines args → map_or false (chooses alone.home (Values sought.values.now)) (first_named sought.attr.now args) ≡ there
