-- What `set` and `set_if_absent` do (buildozer README, edit commands; what a word stands for is this
-- project's own rule).
-- Begin with `set`, `set_if_absent` and `with_kind`.
use Rattle.std.specs.Prelude.{ℕ, ◌==◌, List, [], ◌∷◌, ◌++◌, Bool, false, ◌&&◌, ◌||◌, not, if◌then◌else◌, Option, None, is_some, map, codes, bytes_eq}
use Rattle.std.specs.List.{join_by, list_all, slice_split}
use Rattle.bz_token.specs.declared.token.Kind.TheVariants.{Identifier, Integer, Operator}
use Rattle.bz_tree.specs.Tree.{Item, leaf, Segment, Statement}
use Rattle.bz_attribute.specs.Rules.{rule_of, kind_text, is_named, is_text, first_named, value, string_value}
use Rattle.bz_attribute.specs.Lists.{only_list, with_value}
use Rattle.bz_attribute.specs.Effects.{has, edit_first, argument, list_item, string, string_item, nodes_of}
use Rattle.bz_token.specs.Common.{is_one_of, map_or}
use Rattle.std.specs.Char.{is_ascii_digit}
use Rattle.std.specs.Cmp.Lexicographic.{pointwise}

-- the attributes that are lists in all rules (this project's own list; 32 is a space)
abbrev pub list_attributes : List (List ℕ)
list_attributes = slice_split (λ b. b == 32) (codes "srcs hdrs textual_hdrs deps runtime_deps exports data tools outs visibility default_visibility tags copts defines includes linkopts features")

-- an attribute is one of these
abbrev pub is_list_attribute : List ℕ → Bool
is_list_attribute attr = is_one_of list_attributes attr

-- `0`, or digits that do not begin with 0: the integers of which each value has one text (`007` and `0x1` become
-- strings)
abbrev pub is_number : List ℕ → Bool
is_number [] = false
is_number (b ∷ bs) = bytes_eq (b ∷ bs) (codes "0") || list_all is_ascii_digit (b ∷ bs) && not (b == 48)

-- `True`, `False` or `None`
abbrev pub is_constant : List ℕ → Bool
is_constant word = is_one_of (codes "True" ∷ codes "False" ∷ codes "None" ∷ []) word

-- what an attribute is set to
pub data New : Type 0 where
  NewString : List ℕ → New
  -- an integer's digits
  NewNumber : List ℕ → New
  -- `True`, `False` or `None`
  NewConstant : List ℕ → New
  -- a list of strings
  NewStrings : List (List ℕ) → New

-- what one word stands for, where it is no list
abbrev pub new_word : List ℕ → New
new_word w = if is_number w then NewNumber w else (if is_constant w then NewConstant w else NewString w)

-- What the words stand for, where `was` is the argument that is there: a name is a string; one word is a list
-- where the attribute is one, by its name or by what is there; two or more words are a list.
abbrev pub new_of : List ℕ → List (List ℕ) → Option Segment → New
new_of attr (word ∷ []) was =
    if bytes_eq attr (codes "name") then NewString word
    else (if is_list_attribute attr || map_or false (λ a. is_some (only_list (value a))) was
    then NewStrings (word ∷ []) else new_word word)
new_of attr words was = NewStrings words

-- the nodes that are written for a new value
abbrev pub new_value : New → List Item
new_value (NewString word) = string_item word ∷ []
new_value (NewNumber digits) = leaf Integer digits ∷ []
new_value (NewConstant name) = leaf Identifier name ∷ []
new_value (NewStrings words) = list_item (map string words) ∷ []

-- These nodes, which are an argument's value, are this new value already: comments do not count, and strings
-- are compared by their values, in lists each with the one in its place (`pointwise`).
abbrev pub is_value : New → List Item → Bool
is_value (NewString word) nodes = is_text word (string_value nodes)
is_value (NewNumber digits) (leaf Integer text ∷ []) = bytes_eq text digits
is_value (NewConstant name) (leaf Identifier text ∷ []) = bytes_eq text name
is_value (NewStrings words) nodes =
    map_or false (pointwise (λ word s. is_text word (string_value s.nodes)) words) (only_list nodes)
is_value _ _ = false

-- an argument with the new value; one that has it already stays as it is written
abbrev pub set_in : New → Segment → Segment
set_in new a = if is_value new (value a) then a else with_value (new_value new) a

-- `set <attr> <v>..`: comments of the argument stay
abbrev pub set : List ℕ → List (List ℕ) → List Segment → List Segment
set attr words args =
    let new = new_of attr words (first_named attr args) in
    if has attr args then edit_first (is_named attr) (λ a. set_in new a ∷ []) args
    else args ++ argument attr (new_value new) ∷ []

-- `set_if_absent <attr> <v>..`: what `set` does where the attribute is absent (`first_named` is `None` there)
abbrev pub set_if_absent : List ℕ → List (List ℕ) → List Segment → List Segment
set_if_absent attr words args = if has attr args then args
    else args ++ argument attr (new_value (new_of attr words None)) ∷ []

-- the tokens of a kind: identifiers, with a dot (46) between two
abbrev pub kind_items : List ℕ → List Item
kind_items kind = join_by (λ name. leaf Identifier name ∷ []) (leaf Operator (codes ".") ∷ [])
    (slice_split (λ b. b == 46) kind)

-- `set kind <k>`: a rule of this kind stays as it is written
abbrev pub with_kind : List ℕ → Statement → Statement
with_kind k s = record s {
  nodes = map_or s.nodes (λ r. if bytes_eq (kind_text r.kind) k then s.nodes
      else nodes_of (record r { kind = kind_items k })) (rule_of s.nodes);
}
