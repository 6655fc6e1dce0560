-- Which scripts are repeatable, computed.
use Rattle.std.proofs.Common.{◌≡◌, List, [], ◌∷◌, true, false, refl}
use Rattle.std.specs.Prelude.{codes}
use Rattle.bz_label.specs.Labels.{Target, Name, All, Kind}
use Rattle.bz_passes.specs.Passes.{Pass}
use Rattle.bz_label.specs.declared.arguments.Attributes.TheVariants.{Every, Named}
use Rattle.bz_label.specs.declared.arguments.Setting.TheVariants.{ToKind}
use Rattle.bz_rule.specs.Commands.{Command}
use Rattle.bz_rule.specs.declared.command.Action.TheVariants.{Add, Remove, Rename, Set}
use Rattle.bz_laws.specs.Repeatable.{is_repeatable}

abbrev pass : Target → List Command → Pass Target Command
pass target commands = record { target = target; commands = commands }

abbrev add : Command
add = Add (codes "deps") (codes "x" ∷ [])

abbrev remove : Command
remove = Remove (Named (codes "deps")) (codes "x" ∷ [])

-- two rules
of_two_rules : is_repeatable (pass (Name (codes "a")) (add ∷ []) ∷ pass (Name (codes "b")) (remove ∷ []) ∷ []) ≡ true
of_two_rules = refl

-- one rule, where the one command undoes the other
of_one_rule : is_repeatable (pass (Name (codes "a")) (add ∷ []) ∷ pass (Name (codes "a")) (remove ∷ []) ∷ []) ≡ false
of_one_rule = refl

-- all attributes but the name
all_attributes : is_repeatable (pass (Name (codes "a")) (Remove Every [] ∷ []) ∷ []) ≡ true
all_attributes = refl

-- a kind that the target looks at, and one that it does not
of_the_kind : is_repeatable (pass (Kind (codes "k")) (Set (ToKind (codes "l")) ∷ []) ∷ []) ≡ false
of_the_kind = refl

of_all_kinds : is_repeatable (pass All (Set (ToKind (codes "l")) ∷ add ∷ []) ∷ []) ≡ true
of_all_kinds = refl

-- the second time the old name is not there
renamed : is_repeatable (pass All (Rename (codes "a") (codes "b") ∷ []) ∷ []) ≡ false
renamed = refl
