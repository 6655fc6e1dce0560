-- What `remove` does (buildozer README, edit commands).
-- Begin with `remove`.
use Rattle.std.specs.Prelude.{ℕ, List, [], ◌∷◌, Bool, ◌&&◌, not, if◌then◌else◌, filter, codes}
use Rattle.std.specs.List.{flat_map}
use Rattle.bz_tree.specs.Tree.{Segment}
use Rattle.bz_label.specs.Labels.{Package}
use Rattle.bz_label.specs.declared.arguments.Attributes.{Attributes}
use Rattle.bz_label.specs.declared.arguments.Attributes.TheVariants.{Every, Named}
use Rattle.bz_label.specs.declared.arguments.Chosen.TheVariants.{Values}
use Rattle.bz_attribute.specs.Rules.{is_named}
use Rattle.bz_attribute.specs.Lists.{is_attribute}
use Rattle.bz_attribute.specs.Effects.{edit_first, unchosen, filtered}

-- an argument that goes with `remove *`: a keyword argument, but not `name`
abbrev pub goes_with_all : Segment → Bool
goes_with_all a = is_attribute a && not (is_named (codes "name") a)

-- `remove *`, `remove <attr>` (each argument of the name goes), `remove * <v>..`, `remove <attr> <v>..` (in the first
-- argument of the name)
abbrev pub remove : Package → Attributes → List (List ℕ) → List Segment → List Segment
remove home Every [] args = filter (λ a. not (goes_with_all a)) args
remove home (Named attr) [] args = filter (λ a. not (is_named attr a)) args
remove home Every values args =
    flat_map (λ a. if is_attribute a then filtered (unchosen home (Values values)) a else a ∷ []) args
remove home (Named attr) values args =
    edit_first (is_named attr) (filtered (unchosen home (Values values))) args
