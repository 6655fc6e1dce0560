-- What the words of a command are for: the values that it writes or looks for, and the attribute without which it does
-- nothing, or fails. Begin with `values_of`.
use Rattle.std.specs.Prelude.{ℕ, List, [], ◌∷◌, Option, None, Some}
use Rattle.bz_label.specs.declared.arguments.Attributes.TheVariants.{Named}
use Rattle.bz_label.specs.declared.arguments.Commented.TheVariants.{Attribute, Value}
use Rattle.bz_label.specs.declared.arguments.Chosen.TheVariants as moved
use Rattle.bz_label.specs.declared.arguments.Setting.TheVariants.{ToValues}
use Rattle.bz_rule.specs.declared.command.Action.TheVariants.{Add, Remove, Rename, Set, SetIfAbsent, Move, Replace, Comment}
use Rattle.bz_rule.specs.declared.forms.AttributeValues.{AttributeValues}
use Rattle.bz_rule.specs.declared.forms.Values.{Values}
use Rattle.bz_rule.specs.declared.forms.Values.TheVariants as values
use Rattle.bz_rule.specs.Commands.{Command}

-- the values that a command writes or looks for
abbrev pub values_of : Command → List (List ℕ)
values_of (Add attr values) = values
values_of (Remove attrs values) = values
values_of (Set (ToValues attr values)) = values
values_of (SetIfAbsent attr values) = values
values_of (Move old new (moved.Values values)) = values
values_of (Replace attrs old new) = old ∷ new ∷ []
values_of (Comment (Value attr value) text) = value ∷ []
values_of _ = []

-- such values as a list
abbrev pub listed : Values → List (List ℕ)
listed (values.Listed all) = all.now
listed (values.Replaced old new) = old.now ∷ new.now ∷ []
listed (values.One value) = value.now ∷ []
listed values.None = []

-- the attribute without which a command leaves a rule as it is
abbrev pub looked_at : Command → Option (List ℕ)
looked_at (Remove (Named attr) values) = Some attr
looked_at (Replace (Named attr) old new) = Some attr
looked_at _ = None

-- the attribute without which a command fails on a rule
abbrev pub needed : Command → Option (List ℕ)
needed (Comment (Attribute attr) text) = Some attr
needed (Comment (Value attr value) text) = Some attr
needed (Rename old new) = Some old
needed _ = None

-- an attribute and its words
pub record NewSetting : Type 0 where
  pub attr : List ℕ
  pub words : List (List ℕ)

-- the argument that a command adds to a rule that has none of its name
abbrev pub set_by : Command → Option NewSetting
set_by (Set (ToValues attr words)) = Some (record { attr = attr; words = words })
set_by (SetIfAbsent attr words) = Some (record { attr = attr; words = words })
set_by _ = None

abbrev pub new_of : AttributeValues → NewSetting
new_of new = record { attr = new.attr.now; words = new.values.now }
