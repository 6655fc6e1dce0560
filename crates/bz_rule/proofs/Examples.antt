-- The definitions of what commands do compute.
use Rattle.std.specs.Prelude.{◌≡◌, List, [], ◌∷◌, ◌++◌, true, false, Some, None, codes, length, refl}
use Rattle.bz_token.specs.declared.token.Kind.TheVariants.{Identifier, Operator}
use Rattle.bz_tree.specs.declared.tree.Class.TheVariants.{Rule as RuleClass}
use Rattle.bz_tree.specs.declared.tree.GroupKind.TheVariants.{RuleCall}
use Rattle.bz_tree.specs.Tree.{Item, leaf, group, Statement, segs_of}
use Rattle.bz_attribute.specs.Effects.{argument, list_item, string, string_item}
use Rattle.bz_attribute.specs.declared.done.Note.TheVariants.{Missing, NoAttribute}
use Rattle.bz_rule.specs.Set.{NewStrings, is_list_attribute, is_value, kind_items, list_attributes, with_kind}
use Rattle.bz_rule.specs.Commands.{note_of, printed_line}
use Rattle.bz_rule.specs.declared.command.Action.TheVariants.{Comment, Print}
use Rattle.bz_rule.specs.declared.commands.field.Field.TheVariants.{Kind, ValueOf}
use Rattle.bz_label.specs.declared.arguments.Commented.TheVariants.{Attribute}

-- the attributes that are lists
all_lists : length list_attributes ≡ 17
all_lists = refl

first_list : is_list_attribute (codes "srcs") ≡ true
first_list = refl

last_list : is_list_attribute (codes "features") ≡ true
last_list = refl

no_list : is_list_attribute (codes "name") ≡ false
no_list = refl

-- a list is what words stand for, where it has as many strings with their values
abbrev two : List Item
two = list_item (string (codes "a") ∷ string (codes "b") ∷ []) ∷ []

same_words : is_value (NewStrings (codes "a" ∷ codes "b" ∷ [])) two ≡ true
same_words = refl

other_order : is_value (NewStrings (codes "b" ∷ codes "a" ∷ [])) two ≡ false
other_order = refl

fewer_words : is_value (NewStrings (codes "a" ∷ [])) two ≡ false
fewer_words = refl

-- the tokens of a kind
abbrev native : List Item
native = leaf Identifier (codes "native") ∷ leaf Operator (codes ".") ∷ leaf Identifier (codes "rule") ∷ []

dotted : kind_items (codes "native.rule") ≡ native
dotted = refl

one_name : kind_items (codes "rule") ≡ leaf Identifier (codes "rule") ∷ []
one_name = refl

-- `rule(name = "a")`
abbrev call : Item
call = group RuleCall (segs_of (argument (codes "name") (string_item (codes "a") ∷ []) ∷ [])) false []

abbrev of_kind : List Item → Statement
of_kind kind = record { before = []; nodes = kind ++ call ∷ []; suffix = None; class = RuleClass; start = 1; end = 1 }

abbrev rule : Statement
rule = of_kind (leaf Identifier (codes "rule") ∷ [])

other_kind : with_kind (codes "native.rule") rule ≡ of_kind native
other_kind = refl

same_kind : with_kind (codes "rule") rule ≡ rule
same_kind = refl

-- what commands tell of it
name_and_kind : printed_line (Print []) None (Some rule) ≡ Some (codes "a rule")
name_and_kind = refl

some_missing : printed_line (Print (ValueOf (codes "deps") ∷ Kind ∷ [])) None (Some rule) ≡ Some (codes "(missing) rule")
some_missing = refl

first_missing : note_of (Print (Kind ∷ ValueOf (codes "deps") ∷ ValueOf (codes "srcs") ∷ [])) None (Some rule) ≡ Some (Missing (codes "deps"))
first_missing = refl

none_missing : note_of (Print []) None (Some rule) ≡ None
none_missing = refl

absent : note_of (Comment (Attribute (codes "deps")) (codes "x")) None (Some rule) ≡ Some (NoAttribute (codes "deps"))
absent = refl

no_line : printed_line (Comment (Attribute (codes "deps")) (codes "x")) None (Some rule) ≡ None
no_line = refl

nothing : note_of (Print []) None None ≡ None
nothing = refl
