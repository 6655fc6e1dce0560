-- What commands do to the arguments of a rule, as far as several do it: notes, the elements that a command
-- means, new nodes, and the edit of a rule's arguments (buildozer README, edit commands; the failures are
-- this project's own rule).
-- Begin with `with_args`.
use Rattle.std.specs.Prelude.{ℕ, List, [], ◌∷◌, ◌++◌, Bool, true, false, ◌&&◌, not, if◌then◌else◌, Option, Some, None, is_some, filter, codes, option_and_then}
use Rattle.std.specs.List.{list_any}
use Rattle.bz_token.specs.declared.token.Kind.TheVariants.{Identifier, Operator, String}
use Rattle.bz_tree.specs.declared.tree.GroupKind.TheVariants.{RuleCall, List as ListKind}
use Rattle.bz_token.specs.Common.{is_empty, map_or}
use Rattle.bz_tree.specs.Tree.{Item, leaf, group, Segment, Statement, segs_of}
use Rattle.bz_label.specs.Labels.{Package}
use Rattle.bz_label.specs.Values.{quoted}
use Rattle.bz_label.specs.declared.arguments.Chosen.{Chosen}
use Rattle.bz_label.specs.declared.arguments.Chosen.TheVariants.{All, Values}
use Rattle.bz_attribute.specs.Rules.{Rule, rule_of, is_named, value}
use Rattle.bz_attribute.specs.Lists.{with_value, parts, edit_parts, edit_piece, equals, only_list, pieces, sum_of}
use Rattle.bz_attribute.specs.declared.done.Note.{Note}
use Rattle.bz_attribute.specs.declared.done.Note.TheVariants.{NoAttribute, NotAList}

-- some argument has this name: `first_named` (`Rules`) finds one
abbrev pub has : List ℕ → List Segment → Bool
has attr args = list_any (is_named attr) args

-- a list whose first member that passes p is edited: f puts none, one or more in its place
abbrev pub edit_first : {X : Type 0} → (X → Bool) → (X → List X) → List X → List X
edit_first p f [] = []
edit_first p f (x ∷ xs) = if p x then f x ++ xs else x ∷ edit_first p f xs

-- a value whose first list part that passes p is edited by f
abbrev pub edit_part : (List Segment → Bool) → (List Segment → List Segment) → List Item → List Item
edit_part p f nodes = sum_of
    (edit_first (λ piece. map_or false p (only_list piece)) (λ piece. edit_piece f piece ∷ []) (pieces nodes))

-- a segment with this line as the last of the comments above it
abbrev pub with_comment : List ℕ → Segment → Segment
with_comment line s = record s { before = s.before ++ line ∷ [] }

-- the elements that a command means: all, or those that equal one of its values (`Chosen`: this enum and
-- `Attributes`, `Setting`, `Commented` of later files are those of `src/arguments.rt` of bz_label)
abbrev pub is_chosen : Package → Chosen → Segment → Bool
is_chosen home All s = true
is_chosen home (Values values) s = list_any (λ word. equals home word s) values

-- the elements that the command does not mean
abbrev pub unchosen : Package → Chosen → List Segment → List Segment
unchosen home chosen ss = filter (λ s. not (is_chosen home chosen s)) ss

-- the whole value is one list with elements, and f leaves none of them
abbrev pub loses_all : (List Segment → List Segment) → List Item → Bool
loses_all f nodes = map_or false (λ ss. not (is_empty ss) && is_empty (f ss)) (only_list nodes)

-- an argument whose elements f filters; nothing, where its whole value was one list that lost its last
-- element
abbrev pub filtered : (List Segment → List Segment) → Segment → List Segment
filtered f a = if loses_all f (value a) then [] else with_value (edit_parts f (value a)) a ∷ []

-- the literal of a new string
abbrev pub string_item : List ℕ → Item
string_item v = leaf String (quoted v)

-- a new element: a string without comments
abbrev pub string : List ℕ → Segment
string v = record { before = []; nodes = string_item v ∷ []; suffix = None }

-- the node of a new list
abbrev pub list_item : List Segment → Item
list_item ss = group ListKind (segs_of ss) false []

-- a new argument: a name and the nodes of its value
abbrev pub argument : List ℕ → List Item → Segment
argument attr nodes =
    record { before = []; nodes = leaf Identifier attr ∷ leaf Operator (codes "=") ∷ nodes; suffix = None }

-- the note (`Note`, in `src/done.rt`) where the attribute is there and has no list part
abbrev pub no_list_note : List ℕ → Option Segment → Option Note
no_list_note attr = option_and_then (λ a. if is_empty (parts (value a)) then Some (NotAList attr) else None)

-- the note where the attribute is absent
abbrev pub absent_note : List ℕ → List Segment → Option Note
absent_note attr args = if has attr args then None else Some (NoAttribute attr)

-- the nodes of a rule
abbrev pub nodes_of : Rule → List Item
nodes_of r = r.kind ++ group RuleCall (segs_of r.args) r.one_comma r.end ∷ []

-- a statement whose rule has its arguments edited by f; what is no rule stays, and so does the rest of a rule
abbrev pub with_args : (List Segment → List Segment) → Statement → Statement
with_args f s = record s {
  nodes = map_or s.nodes (λ r. nodes_of (record r { args = f r.args })) (rule_of s.nodes);
}

-- a rule stands in the slot (a `Slot` of bz_passes, which this crate does not use)
abbrev pub holds_rule : Option Statement → Bool
holds_rule slot = map_or false (λ s. is_some (rule_of s.nodes)) slot
