-- The arguments of commands: what those keep that were read (this project's own rule), which attributes they mention, and a test of their words.
use Rattle.std.specs.Prelude.{ℕ, ◌==◌, List, Bool, true, false, ◌&&◌, ◌||◌, not, length, bytes_eq}
use Rattle.std.specs.List.{list_all}
use Rattle.bz_label.specs.declared.arguments.Attributes.{Attributes}
use Rattle.bz_label.specs.declared.arguments.Attributes.TheVariants.{Every, Named}
use Rattle.bz_label.specs.declared.arguments.Setting.{Setting}
use Rattle.bz_label.specs.declared.arguments.Setting.TheVariants.{ToKind, ToValues}
use Rattle.bz_label.specs.declared.arguments.Chosen.{Chosen}
use Rattle.bz_label.specs.declared.arguments.Chosen.TheVariants.{All, Values}
use Rattle.bz_label.specs.declared.arguments.Commented.{Commented}
use Rattle.bz_label.specs.declared.arguments.Commented.TheVariants.{Rule, Attribute, Value}
use Rattle.bz_label.specs.Names.{is_identifier, is_kind}

-- a newline or a carriage return
abbrev pub breaks_line : ℕ → Bool
breaks_line b = b == 10 || b == 13

-- what a command that was read keeps
abbrev pub are_attributes : Attributes → Bool
are_attributes Every = true
are_attributes (Named attr) = is_identifier attr

abbrev pub is_setting : Setting → Bool
is_setting (ToKind kind) = is_kind kind
is_setting (ToValues attr values) = is_identifier attr && not (length values == 0)

abbrev pub is_moved : Chosen → Bool
is_moved All = true
is_moved (Values values) = not (length values == 0)

abbrev pub is_commented : Commented → Bool
is_commented Rule = true
is_commented (Attribute attr) = is_identifier attr
is_commented (Value attr value) = is_identifier attr

-- `*` mentions every name
abbrev pub attributes_mention : List ℕ → Attributes → Bool
attributes_mention name Every = true
attributes_mention name (Named attr) = bytes_eq attr name

abbrev pub setting_mentions : List ℕ → Setting → Bool
setting_mentions name (ToKind kind) = false
setting_mentions name (ToValues attr values) = bytes_eq attr name

abbrev pub comment_mentions : List ℕ → Commented → Bool
comment_mentions name Rule = false
comment_mentions name (Attribute attr) = bytes_eq attr name
comment_mentions name (Value attr value) = bytes_eq attr name

abbrev pub attributes_pass : (List ℕ → Bool) → Attributes → Bool
attributes_pass test Every = true
attributes_pass test (Named attr) = test attr

abbrev pub setting_passes : (List ℕ → Bool) → Setting → Bool
setting_passes test (ToKind kind) = test kind
setting_passes test (ToValues attr values) = test attr && list_all test values

abbrev pub moved_passes : (List ℕ → Bool) → Chosen → Bool
moved_passes test All = true
moved_passes test (Values values) = list_all test values

abbrev pub commented_passes : (List ℕ → Bool) → Commented → Bool
commented_passes test Rule = true
commented_passes test (Attribute attr) = test attr
commented_passes test (Value attr value) = test attr && test value
