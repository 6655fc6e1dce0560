-- What commands report beside their notes: whether each changes something, where it notes nothing, and all that
-- `print` and `set kind` report. `done_of` of `Commands` has the rows.
-- Begin with `adds`, `removes`, `moves`, `replaces`, `sets`, `sets_kind_of` and `prints`.
use Rattle.std.specs.Prelude.{ℕ, List, [], ◌∷◌, Bool, true, false, ◌&&◌, not, Option, Some, None, bytes_eq}
use Rattle.std.specs.List.{list_any}
use Rattle.bz_token.specs.Common.{is_empty, map_or}
use Rattle.bz_tree.specs.Tree.{Segment, Statement}
use Rattle.bz_label.specs.Labels.{Package}
use Rattle.bz_label.specs.declared.arguments.Attributes.{Attributes}
use Rattle.bz_label.specs.declared.arguments.Attributes.TheVariants.{Every, Named}
use Rattle.bz_label.specs.declared.arguments.Chosen.{Chosen}
use Rattle.bz_label.specs.declared.arguments.Chosen.TheVariants.{Values}
use Rattle.bz_label.specs.declared.arguments.Commented.{Commented}
use Rattle.bz_label.specs.declared.arguments.Commented.TheVariants.{Rule as OfRule}
use Rattle.bz_attribute.specs.Rules.{Rule, rule_of, kind_text, first_named, value}
use Rattle.bz_attribute.specs.Lists.{is_attribute, parts}
use Rattle.bz_attribute.specs.Effects.{has}
use Rattle.bz_attribute.specs.Reports.{done, chooses}
use Rattle.bz_attribute.specs.declared.done.Done.{Done}
use Rattle.bz_rule.specs.declared.commands.field.Field.{Field}
use Rattle.bz_rule.specs.AddByValue.{new_elements}
use Rattle.bz_rule.specs.Remove.{goes_with_all}
use Rattle.bz_rule.specs.Replace.{is_replaced}
use Rattle.bz_rule.specs.Set.{new_of, is_value}
use Rattle.bz_rule.specs.Print.{fields_of, line_of, missing}

-- whether `add` changes something, where it notes nothing: by the first argument of the name
abbrev pub adds : Package → List (List ℕ) → Option Segment → Bool
adds home values arg = map_or true (λ a. not (is_empty (new_elements home (parts (value a)) values))) arg

-- whether `remove` changes something
abbrev pub removes : Package → Attributes → List (List ℕ) → List Segment → Bool
removes home Every [] args = list_any goes_with_all args
removes home Every (v ∷ values) args = list_any (λ a. is_attribute a && chooses home (Values (v ∷ values)) a) args
removes home (Named attr) [] args = has attr args
removes home (Named attr) (v ∷ values) args = map_or false (chooses home (Values (v ∷ values))) (first_named attr args)

-- whether `move` changes something, where it notes nothing
abbrev pub moves : Package → List ℕ → Chosen → List Segment → Bool
moves home old chosen args = map_or false (chooses home chosen) (first_named old args)

-- whether `replace` changes something in an argument
abbrev pub replaces_in : Package → List ℕ → List ℕ → Segment → Bool
replaces_in home old new a = list_any (list_any (is_replaced home old new)) (parts (value a))

-- and in all
abbrev pub replaces : Package → Attributes → List ℕ → List ℕ → List Segment → Bool
replaces home (Named attr) old new args = map_or false (replaces_in home old new) (first_named attr args)
replaces home Every old new args = list_any (λ a. is_attribute a && replaces_in home old new a) args

-- whether `set` changes something: by the first argument of the name
abbrev pub sets : List ℕ → List (List ℕ) → Option Segment → Bool
sets attr words arg = map_or true (λ a. not (is_value (new_of attr words (Some a)) (value a))) arg

-- what `set kind` tells of a slot
abbrev pub sets_kind_of : List ℕ → Option Statement → Done
sets_kind_of kind None = done None false
sets_kind_of kind (Some s) = map_or (done None false) (λ r. done None (not (bytes_eq (kind_text r.kind) kind))) (rule_of s.nodes)

-- whether it is a comment of an argument
abbrev pub is_on_args : Commented → Bool
is_on_args OfRule = false
is_on_args _ = true

-- what `print` reports of a rule
abbrev pub printed : Package → Statement → Rule → List Field → Done
printed home s r fields = record { changed = false; line = Some (line_of home s r fields); note = missing home s r fields }

-- `print <field>..`
abbrev pub prints : Package → List Field → Option Statement → Done
prints home fields None = done None false
prints home fields (Some s) = map_or (done None false) (λ r. printed home s r (fields_of fields)) (rule_of s.nodes)
