-- What `replace` does (buildozer README, edit commands).
-- Begin with `replace`.
use Rattle.std.specs.Prelude.{ℕ, List, [], ◌∷◌, Bool, ◌&&◌, not, if◌then◌else◌, map}
use Rattle.bz_tree.specs.Tree.{Segment}
use Rattle.bz_label.specs.Labels.{Package}
use Rattle.bz_label.specs.declared.arguments.Attributes.{Attributes}
use Rattle.bz_label.specs.declared.arguments.Attributes.TheVariants.{Every, Named}
use Rattle.bz_attribute.specs.Rules.{is_named, is_text, value, string_value}
use Rattle.bz_attribute.specs.Lists.{is_attribute, with_value, edit_parts, equals}
use Rattle.bz_attribute.specs.Effects.{edit_first, string_item}

-- an element that equals `old` and is not exactly `new`
abbrev pub is_replaced : Package → List ℕ → List ℕ → Segment → Bool
is_replaced home old new s = equals home old s && not (is_text new (string_value s.nodes))

-- an element, with `new` in the place of what is replaced: its comments stay
abbrev pub replaced : Package → List ℕ → List ℕ → Segment → Segment
replaced home old new s = if is_replaced home old new s then record s { nodes = string_item new ∷ [] } else s

-- an argument with the elements of all its list parts replaced
abbrev pub replaced_in : Package → List ℕ → List ℕ → Segment → Segment
replaced_in home old new a = with_value (edit_parts (map (replaced home old new)) (value a)) a

-- `replace <attr> <old> <new>`: in the first argument of the name, and in all attributes where <attr> is `*`
abbrev pub replace : Package → Attributes → List ℕ → List ℕ → List Segment → List Segment
replace home (Named attr) old new args =
    edit_first (is_named attr) (λ a. replaced_in home old new a ∷ []) args
replace home Every old new args = map (λ a. if is_attribute a then replaced_in home old new a else a) args
