-- A rule, as `is_rule` says it: its kind is what stands before its call, its attributes are the keyword
-- arguments (buildozer README).
-- Begin with `rule_of`.
use Rattle.std.specs.Prelude.{ℕ, ◌-◌, List, [], ◌∷◌, length, take, Bool, false, if◌then◌else◌, Option, Some, None, codes, drop, bytes_eq, find, option_and_then, flat_map}
use Rattle.bz_token.specs.Common.{last_of}
use Rattle.bz_token.specs.declared.token.Kind.TheVariants.{Identifier, String}
use Rattle.bz_tree.specs.declared.tree.GroupKind.TheVariants.{RuleCall}
use Rattle.bz_tree.specs.Tree.{Item, leaf, group, Segment, is_operator_item, is_rule, segments}
use Rattle.bz_label.specs.Values.{value_of}

-- the text of an identifier
abbrev pub ident_of : Item → Option (List ℕ)
ident_of (leaf Identifier text) = Some text
ident_of _ = None

-- an option holds this text
abbrev pub is_text : List ℕ → Option (List ℕ) → Bool
is_text text None = false
is_text text (Some other) = bytes_eq text other

-- the name of an argument `name = value`
abbrev pub name_of : List Item → Option (List ℕ)
name_of (x ∷ y ∷ value) = if is_operator_item (codes "=") y then ident_of x else None
name_of _ = None

-- an argument has this name
abbrev pub is_named : List ℕ → Segment → Bool
is_named name s = is_text name (name_of s.nodes)

-- the value of a named argument: its nodes after the `=`
abbrev pub value : Segment → List Item
value s = drop 2 s.nodes

-- the text of what is one string token
abbrev pub only_text : List Item → Option (List ℕ)
only_text (leaf String text ∷ []) = Some text
only_text _ = None

-- the value of what is one string token with a value
abbrev pub string_value : List Item → Option (List ℕ)
string_value nodes = option_and_then value_of (only_text nodes)

-- a rule: what stands before its call, the arguments, and of the call what a `group` has: whether it is
-- `(x,)`, the comments after its last segment
pub record Rule : Type 0 where
  pub kind : List Item
  pub args : List Segment
  pub one_comma : Bool
  pub end : List (List ℕ)

-- The rule with this kind and this call. Of the calls that `is_rule` allows this takes a `RuleCall` alone: in
-- a statement that was read the call of a rule is one (bz_tree, `segment_of`).
abbrev pub with_call : List Item → Option Item → Option Rule
with_call kind (Some (group RuleCall segs one_comma end)) =
    Some (record { kind = kind; args = segments segs; one_comma = one_comma; end = end })
with_call kind _ = None

-- the rule that some nodes are: its call is their last
abbrev pub rule_of : List Item → Option Rule
rule_of nodes = if is_rule nodes then with_call (take (length nodes - 1) nodes) (last_of nodes) else None

-- the text of a token
abbrev pub written : Item → List ℕ
written (leaf kind text) = text
written (group kind segs one_comma end) = []

-- the text of a kind, without what stands between its identifiers and dots
abbrev pub kind_text : List Item → List ℕ
kind_text kind = flat_map written kind

-- the first argument of a name
abbrev pub first_named : List ℕ → List Segment → Option Segment
first_named name args = find (is_named name) args

-- the name of a rule: the value of its first attribute `name`, where that is one string with a value
abbrev pub name_in : List Segment → Option (List ℕ)
name_in args = option_and_then (λ a. string_value (value a)) (first_named (codes "name") args)
