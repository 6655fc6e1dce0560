-- The commands that look at the first argument of one attribute alone.
use Rattle.std.specs.Prelude.{ℕ, List, ◌∷◌, Option, Some, None}
use Rattle.bz_label.specs.declared.arguments.Attributes.TheVariants.{Named}
use Rattle.bz_label.specs.declared.arguments.Commented.TheVariants.{Attribute, Value}
use Rattle.bz_label.specs.declared.arguments.Setting.TheVariants.{ToValues}
use Rattle.bz_rule.specs.Commands.{Command}
use Rattle.bz_rule.specs.declared.command.Action.TheVariants.{Add, Comment, Remove, Replace, Set, SetIfAbsent}

-- the attribute of a command that looks at its first argument alone, and adds one after all where there is none
abbrev pub one_attribute : Command → Option (List ℕ)
one_attribute (Add attr values) = Some attr
one_attribute (Remove (Named attr) (value ∷ values)) = Some attr
one_attribute (Set (ToValues attr values)) = Some attr
one_attribute (SetIfAbsent attr values) = Some attr
one_attribute (Replace (Named attr) old new) = Some attr
one_attribute (Comment (Attribute attr) text) = Some attr
one_attribute (Comment (Value attr value) text) = Some attr
one_attribute _ = None
