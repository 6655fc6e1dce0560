-- Strings that are spelled otherwise: the same rule, the same names and lists.
use Rattle.std.proofs.Common.{◌≡◌, ℕ, List, [], ◌∷◌, ◌++◌, Bool, true, false, if◌then◌else◌, Some, None, option_map, is_some, drop, map, codes, refl, ap, subst, sym, ◌∙◌}
use Rattle.std.specs.List.{list_all}
use Rattle.std.proofs.lemmas.Bool.{and_parts, false≢true}
use Rattle.std.proofs.lemmas.List.{map-append}
use Rattle.bz_token.specs.declared.token.Kind.TheVariants.{Identifier, Keyword, Operator, String}
use Rattle.bz_tree.specs.declared.tree.GroupKind.TheVariants.{RuleCall, List as ListKind}
use Rattle.bz_tree.specs.Tree.{Item, leaf, group, Items, no_items, item, Segs, no_segs, seg, Segment, list_of, segments, is_operator_item}
use Rattle.bz_layout_laws.specs.Spelled.{spelled, spelled_items, spelled_segs}
use Rattle.bz_layout_laws.proofs.SpelledValues.{respelled_value}
use Rattle.bz_attribute.specs.Rules.{first_named, ident_of, is_named, is_text, kind_text, name_of, rule_of, string_value, value}
use Rattle.bz_attribute.specs.ListWalk.{elements, is_list, ends, is_part, parts_from, is_plus}
use Rattle.bz_attribute.specs.private.RuleSteps.{call_at, dotted}
use Rattle.bz_attribute.specs.Lists.{is_attribute, may_be_in_sum, parts}
use Rattle.bz_attribute.proofs.ListPieces.{parts_are}
use Rattle.bz_attribute.specs.Effects.{has}
use Rattle.bz_attribute.proofs.Calls.{ending, rule_at_end}
use Rattle.bz_laws.proofs.RuleArguments.{kind_there, there}

abbrev pub respelled : Segment → Segment
respelled a = record a { nodes = map spelled a.nodes }

items_spelled : (xs : Items) → list_of (spelled_items xs) ≡ map spelled (list_of xs)
items_spelled no_items = refl
items_spelled (item x xs) = ap (λ (ys : List Item). spelled x ∷ ys) (items_spelled xs)

segments_spelled : (ss : Segs) → segments (spelled_segs ss) ≡ map respelled (segments ss)
segments_spelled no_segs = refl
segments_spelled (seg before nodes suffix ss) = λ i. record { before = before; nodes = items_spelled nodes i; suffix = suffix } ∷ segments_spelled ss i

pub elements_spelled : (x : Item) → elements (spelled x) ≡ map respelled (elements x)
elements_spelled (leaf kind text) = refl
elements_spelled (group kind segs one_comma end) = segments_spelled segs

operator_spelled : (operator : List ℕ) (x : Item) → is_operator_item operator (spelled x) ≡ is_operator_item operator x
operator_spelled operator (leaf Operator text) = refl
operator_spelled operator (leaf _ text) = refl
operator_spelled operator (group kind segs one_comma end) = refl

ident_spelled : (x : Item) → ident_of (spelled x) ≡ ident_of x
ident_spelled (leaf Identifier text) = refl
ident_spelled (leaf _ text) = refl
ident_spelled (group kind segs one_comma end) = refl

-- the rule

dotted_spelled : (b : Bool) (kind : List Item) → dotted b (map spelled kind) ≡ dotted b kind
dotted_spelled true [] = refl
dotted_spelled false [] = refl
dotted_spelled true (leaf Identifier text ∷ xs) = dotted_spelled false xs
dotted_spelled true (leaf _ text ∷ xs) = refl
dotted_spelled true (group kind segs one_comma end ∷ xs) = refl
dotted_spelled false (x ∷ xs) = rw (operator_spelled (codes ".") x, dotted_spelled true xs) refl

dot_spelled : (x : Item) → is_operator_item (codes ".") x ≡ true → spelled x ≡ x
dot_spelled (leaf Operator text) h = refl
dot_spelled (leaf _ text) h = absurd (false≢true h)
dot_spelled (group kind segs one_comma end) h = absurd (false≢true h)

kind_stays : (b : Bool) (kind : List Item) → dotted b kind ≡ true → map spelled kind ≡ kind
kind_stays true [] h = refl
kind_stays false [] h = refl
kind_stays true (leaf Identifier text ∷ xs) h = ap (λ (ys : List Item). leaf Identifier text ∷ ys) (kind_stays false xs h)
kind_stays true (leaf _ text ∷ xs) h = absurd (false≢true h)
kind_stays true (group kind segs one_comma end ∷ xs) h = absurd (false≢true h)
kind_stays false (x ∷ xs) h =
    let a = and_parts (is_operator_item (codes ".") x) (dotted true xs) h in
    λ i. dot_spelled x a.0 i ∷ kind_stays true xs a.1 i

there_at : (kind : List Item) (x : Item) → there (call_at (map spelled kind) (spelled x)) ≡ option_map (map respelled) (there (call_at kind x))
there_at kind (leaf k text) = refl
there_at kind (group RuleCall segs one_comma end) =
    let x = group RuleCall segs one_comma end in
    rw (dotted_spelled true kind)
    (elim (dotted true kind) as (λ b. there (if b then Some (record { kind = map spelled kind; args = elements (spelled x); one_comma = one_comma; end = end }) else None)
    ≡ option_map (map respelled) (there (if b then Some (record { kind = kind; args = elements x; one_comma = one_comma; end = end }) else None)))
    [ true ↦ ap (λ (ss : List Segment). Some ss) (elements_spelled x) | false ↦ refl ])
there_at kind (group _ segs one_comma end) = refl

kind_at : (kind : List Item) (x : Item) → kind_there (call_at (map spelled kind) (spelled x)) ≡ kind_there (call_at kind x)
kind_at kind (leaf k text) = refl
kind_at kind (group RuleCall segs one_comma end) =
    let x = group RuleCall segs one_comma end in
    rw (dotted_spelled true kind)
    (elim (dotted true kind) as (λ b. dotted true kind ≡ b → kind_there (if b then Some (record { kind = map spelled kind; args = elements (spelled x); one_comma = one_comma; end = end }) else None)
    ≡ kind_there (if b then Some (record { kind = kind; args = elements x; one_comma = one_comma; end = end }) else None)) [
      | true ↦ λ e. ap (λ (ks : List Item). Some (kind_text ks)) (kind_stays true kind e)
      | false ↦ λ e. refl
    ] refl)
kind_at kind (group _ segs one_comma end) = refl

spelled_end : (kind : List Item) (x : Item) → rule_of (map spelled (kind ++ x ∷ [])) ≡ call_at (map spelled kind) (spelled x)
spelled_end kind x = ap rule_of (map-append spelled kind (x ∷ [])) ∙ rule_at_end (map spelled kind) (spelled x)

pub there_spelled : (nodes : List Item) → there (rule_of (map spelled nodes)) ≡ option_map (map respelled) (there (rule_of nodes))
there_spelled [] = refl
there_spelled (y ∷ ys) =
    let l = ending y ys in
    subst (λ ns. there (rule_of (map spelled ns)) ≡ option_map (map respelled) (there (rule_of ns))) (sym l.are)
    (ap there (spelled_end l.front l.last) ∙ there_at l.front l.last ∙ ap (λ o. option_map (map respelled) (there o)) (sym (rule_at_end l.front l.last)))

pub kind_spelled : (nodes : List Item) → kind_there (rule_of (map spelled nodes)) ≡ kind_there (rule_of nodes)
kind_spelled [] = refl
kind_spelled (y ∷ ys) =
    let l = ending y ys in
    subst (λ ns. kind_there (rule_of (map spelled ns)) ≡ kind_there (rule_of ns)) (sym l.are)
    (ap kind_there (spelled_end l.front l.last) ∙ kind_at l.front l.last ∙ ap kind_there (sym (rule_at_end l.front l.last)))

-- names

name_nodes : (nodes : List Item) → name_of (map spelled nodes) ≡ name_of nodes
name_nodes [] = refl
name_nodes (x ∷ []) = refl
name_nodes (x ∷ y ∷ xs) = rw (operator_spelled (codes "=") y, ident_spelled x) refl

pub named_spelled : (attr : List ℕ) (a : Segment) → is_named attr (respelled a) ≡ is_named attr a
named_spelled attr a = ap (is_text attr) (name_nodes a.nodes)

pub attribute_spelled : (a : Segment) → is_attribute (respelled a) ≡ is_attribute a
attribute_spelled a = ap is_some (name_nodes a.nodes)

pub has_spelled : (attr : List ℕ) (args : List Segment) → has attr (map respelled args) ≡ has attr args
has_spelled attr [] = refl
has_spelled attr (a ∷ args) = rw (named_spelled attr a, has_spelled attr args) refl

pub first_spelled : (attr : List ℕ) (args : List Segment) → first_named attr (map respelled args) ≡ option_map respelled (first_named attr args)
first_spelled attr [] = refl
first_spelled attr (a ∷ args) =
    rw (named_spelled attr a)
    (elim (is_named attr a) as (λ b. (if b then Some (respelled a) else first_named attr (map respelled args)) ≡ option_map respelled (if b then Some a else first_named attr args)) [ true ↦ refl | false ↦ first_spelled attr args ])

-- values

value_nodes : (nodes : List Item) → drop 2 (map spelled nodes) ≡ map spelled (drop 2 nodes)
value_nodes [] = refl
value_nodes (x ∷ []) = refl
value_nodes (x ∷ y ∷ xs) = refl

pub value_spelled : (a : Segment) → value (respelled a) ≡ map spelled (value a)
value_spelled a = value_nodes a.nodes

text_spelled : (x : Item) → string_value (spelled x ∷ []) ≡ string_value (x ∷ [])
text_spelled (leaf String text) = respelled_value String text
text_spelled (leaf _ text) = refl
text_spelled (group kind segs one_comma end) = refl

pub string_spelled : (nodes : List Item) → string_value (map spelled nodes) ≡ string_value nodes
string_spelled [] = refl
string_spelled (x ∷ []) = text_spelled x
string_spelled (leaf String text ∷ y ∷ xs) = refl
string_spelled (leaf _ text ∷ y ∷ xs) = refl
string_spelled (group kind segs one_comma end ∷ y ∷ xs) = refl

joint_spelled : (x : Item) → may_be_in_sum (spelled x) ≡ may_be_in_sum x
joint_spelled (leaf Keyword text) = refl
joint_spelled (leaf Operator text) = refl
joint_spelled (leaf _ text) = refl
joint_spelled (group kind segs one_comma end) = refl

joints_spelled : (xs : List Item) → list_all may_be_in_sum (map spelled xs) ≡ list_all may_be_in_sum xs
joints_spelled [] = refl
joints_spelled (x ∷ xs) = rw (joint_spelled x, joints_spelled xs) refl

pub list_spelled : (x : Item) → is_list (spelled x) ≡ is_list x
list_spelled (leaf kind text) = refl
list_spelled (group ListKind segs one_comma end) = refl
list_spelled (group _ segs one_comma end) = refl

ends_spelled : (xs : List Item) → ends (map spelled xs) ≡ ends xs
ends_spelled [] = refl
ends_spelled (x ∷ xs) = operator_spelled (codes "+") x

from_spelled : (start : Bool) (xs : List Item) → parts_from start (map spelled xs) ≡ map (map respelled) (parts_from start xs)
from_spelled start [] = refl
from_spelled start (x ∷ xs) =
    let rest : parts_from (is_plus x) (map spelled xs) ≡ map (map respelled) (parts_from (is_plus x) xs) = from_spelled (is_plus x) xs in
    rw (list_spelled x, ends_spelled xs, operator_spelled (codes "+") x)
    (elim (is_part start x xs) as (λ b. (if b then elements (spelled x) ∷ [] else []) ++ parts_from (is_plus x) (map spelled xs) ≡ map (map respelled) ((if b then elements x ∷ [] else []) ++ parts_from (is_plus x) xs)) [
      | true ↦ λ i. elements_spelled x i ∷ rest i
      | false ↦ rest
    ])

parts_nodes : (nodes : List Item) → parts (map spelled nodes) ≡ map (map respelled) (parts nodes)
parts_nodes nodes =
    parts_are (map spelled nodes)
    ∙ rw (joints_spelled nodes)
    (elim (list_all may_be_in_sum nodes) as (λ b. (if b then parts_from true (map spelled nodes) else []) ≡ map (map respelled) (if b then parts_from true nodes else [])) [ true ↦ from_spelled true nodes | false ↦ refl ])
    ∙ ap (map (map respelled)) (sym (parts_are nodes))

pub parts_spelled : (a : Segment) → parts (value (respelled a)) ≡ map (map respelled) (parts (value a))
parts_spelled a = ap parts (value_spelled a) ∙ parts_nodes (value a)
