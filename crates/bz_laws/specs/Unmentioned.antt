-- The arguments of a statement that a command, or a script, does not mention (buildozer README, edit commands: `remove *` leaves `name`).
use Rattle.std.specs.Prelude.{◌≡◌, ℕ, List, [], Bool, true, false, not, Option, None, Some, bytes_eq, codes, filter}
use Rattle.bz_tree.specs.Tree.{Segment, Statement}
use Rattle.bz_label.specs.declared.arguments.Attributes.TheVariants.{Every}
use Rattle.bz_attribute.specs.Rules.{Rule, name_of, rule_of}
use Rattle.bz_rule.specs.declared.command.Action.TheVariants.{Delete, Print, Remove}
use Rattle.bz_rule.specs.Commands.{Command, mentions}
use Rattle.std.specs.List.{list_all, list_any}
use Rattle.bz_passes.specs.Passes.{Slot}
use Rattle.bz_engine.specs.Outcome.{Script}

-- the arguments of a rule; what is no rule has none
abbrev pub arguments_in : Option Rule → List Segment
arguments_in None = []
arguments_in (Some r) = r.args

abbrev pub arguments_of : Statement → List Segment
arguments_of s = arguments_in (rule_of s.nodes)

-- The command may change arguments of this name: `remove *` those of all names but `name`, `print` none, any other those that it mentions.
abbrev pub may_change : Command → List ℕ → Bool
may_change (Remove Every []) name = not (bytes_eq (codes "name") name)
may_change (Print fields) name = false
may_change command name = mentions command name

-- no command changes an argument without a name
abbrev pub may_change_named : Command → Option (List ℕ) → Bool
may_change_named command None = false
may_change_named command (Some name) = may_change command name

-- the argument is none that the command may change
abbrev pub is_unmentioned : Command → Segment → Bool
is_unmentioned command a = not (may_change_named command (name_of a.nodes))

abbrev pub unmentioned : Command → List Segment → List Segment
unmentioned command args = filter (is_unmentioned command) args

abbrev pub is_delete : Command → Bool
is_delete Delete = true
is_delete _ = false

-- no command of the script mentions the argument
abbrev pub no_command_mentions : Script → Segment → Bool
no_command_mentions passes a = list_all (λ p. list_all (λ c. is_unmentioned c a) p.commands) passes

abbrev pub has_delete : Script → Bool
has_delete passes = list_any (λ p. list_any is_delete p.commands) passes

-- What is left of a statement has the arguments that no command mentions, in their order. Nothing is left only by a script with `delete`.
abbrev pub KeepsUnmentioned : Script → Statement → Slot Statement → Type 0
KeepsUnmentioned passes s None = has_delete passes ≡ true
KeepsUnmentioned passes s (Some t) = filter (no_command_mentions passes) (arguments_of t) ≡ filter (no_command_mentions passes) (arguments_of s)
