-- What `add` does (buildozer README, edit commands; which values are left out is this project's own rule).
-- Begin with `add`.
use Rattle.std.specs.Prelude.{ℕ, List, if◌then◌else◌, Option, is_some, map}
use Rattle.bz_tree.specs.Tree.{Segment}
use Rattle.bz_label.specs.Labels.{Package}
use Rattle.bz_attribute.specs.Rules.{first_named}
use Rattle.bz_attribute.specs.Effects.{string, no_list_note}
use Rattle.bz_attribute.specs.declared.done.Note.{Note}
use Rattle.bz_rule.specs.Move.{arrivals, elements_of, put_in}

-- why `add` does nothing: the attribute has no list part
abbrev pub add_note : List ℕ → List Segment → Option Note
add_note attr args = no_list_note attr (first_named attr args)

-- `add <attr> <v>..`: the values become new elements, but for those that an element of a list part, or a value
-- before them, equals.
abbrev pub add : Package → List ℕ → List (List ℕ) → List Segment → List Segment
add home attr values args = if is_some (add_note attr args) then args
    else put_in attr (arrivals home (elements_of (first_named attr args)) (map string values)) args
