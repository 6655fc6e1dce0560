-- Commands that find nothing to do a second time, and that leave each other's work (this project's own rule).
use Rattle.std.specs.Prelude.{◌≡◌, ◌≤◌, ℕ, List, [], ◌∷◌, Bool, true, false, ◌&&◌, not, Option, None, Some, bytes_eq, codes, filter, length}
use Rattle.std.specs.List.{AllByRecursion, list_all}
use Rattle.bz_tree.specs.Tree.{Segment, Statement}
use Rattle.bz_label.specs.Labels.{Package, Target, Name, Pkg, All, Kind, Line}
use Rattle.bz_label.specs.declared.arguments.Attributes.{Attributes}
use Rattle.bz_label.specs.declared.arguments.Attributes.TheVariants.{Named}
use Rattle.bz_label.specs.declared.arguments.Setting.TheVariants.{ToKind, ToValues}
use Rattle.bz_engine.specs.Failing.{fails}
use Rattle.bz_attribute.specs.Rules.{is_named}
use Rattle.bz_attribute.specs.declared.done.Done.{Done}
use Rattle.bz_rule.specs.declared.command.Action.TheVariants.{Add, Remove, Set, SetIfAbsent, Replace, Print}
use Rattle.bz_rule.specs.Commands.{Command, after, done_of}
use Rattle.bz_laws.specs.Unmentioned.{arguments_of, may_change}

-- a command that finds nothing to do once it was done
abbrev pub is_steady : Command → Bool
is_steady (Add attr values) = true
is_steady (Remove attrs values) = true
is_steady (Set setting) = true
is_steady (SetIfAbsent attr values) = true
is_steady (Replace attrs old new) = true
is_steady (Print fields) = true
is_steady _ = false

-- the attributes that a steady command may change
abbrev pub subject : Command → Option Attributes
subject (Add attr values) = Some (Named attr)
subject (Remove attrs values) = Some attrs
subject (Set (ToValues attr values)) = Some (Named attr)
subject (SetIfAbsent attr values) = Some (Named attr)
subject (Replace attrs old new) = Some attrs
subject _ = None

abbrev pub are_others : Option Attributes → Option Attributes → Bool
are_others None d = true
are_others (Some c) None = true
are_others (Some (Named a)) (Some (Named b)) = not (bytes_eq b a)
are_others (Some c) (Some d) = false

abbrev pub sets_a_kind : Command → Bool
sets_a_kind (Set (ToKind kind)) = true
sets_a_kind _ = false

-- the commands are not on the same attribute, and do not both set the kind
abbrev pub are_apart : Command → Command → Bool
are_apart c d = are_others (subject c) (subject d) && not (sets_a_kind c && sets_a_kind d)

-- it changes nothing, and does not fail
pub record IsQuiet (done : Done) : Type 0 where
  pub unchanged : done.changed ≡ false
  pub none_fails : fails done.note ≡ false

abbrev pub IsSettled : Command → Package → Option Statement → Type 0
IsSettled c home slot = IsQuiet (done_of c home slot)

abbrev pub HasOnce : List Segment → List ℕ → Type 0
HasOnce args attr = length (filter (is_named attr) args) ≤ 1

-- no two arguments are of the attribute that the command is on
abbrev pub IsOnce : Option Attributes → List Segment → Type 0
IsOnce (Some (Named attr)) args = HasOnce args attr
IsOnce _ args = Unit {0}

-- what stands in a slot after commands one after another
abbrev pub after_all : List Command → Package → Option Statement → Option Statement
after_all [] home slot = slot
after_all (c ∷ cs) home slot = after_all cs home (after c home slot)

-- none of them fails
abbrev pub AreCalm : List Command → Package → Option Statement → Type 0
AreCalm [] home slot = Unit {0}
AreCalm (c ∷ cs) home slot = (fails (done_of c home slot).note ≡ false) × AreCalm cs home (after c home slot)

-- each is apart from those after it
abbrev pub are_all_apart : List Command → Bool
are_all_apart [] = true
are_all_apart (c ∷ cs) = list_all (are_apart c) cs && are_all_apart cs

abbrev pub AreOnce : List Command → Statement → Type 0
AreOnce cs s = AllByRecursion (λ c. IsOnce (subject c) (arguments_of s)) cs

abbrev pub AreSettled : List Command → Package → Statement → Type 0
AreSettled cs home s = AllByRecursion (λ c. IsSettled c home (Some s)) cs

-- a target of which it is known that it marks the same statements after the command
abbrev pub looks_past : Target → Command → Bool
looks_past (Name name) c = not (may_change c (codes "name"))
looks_past Pkg c = not (sets_a_kind c)
looks_past All c = true
looks_past (Kind kind) c = not (sets_a_kind c)
looks_past (Line line) c = false

abbrev pub is_line : Target → Bool
is_line (Line line) = true
is_line _ = false
