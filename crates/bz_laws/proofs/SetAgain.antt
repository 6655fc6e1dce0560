-- A second `set` of the same changes nothing.
use Rattle.std.proofs.Common.{◌≡◌, ℕ, List, [], ◌∷◌, ◌||◌, true, false, not, Option, None, Some, option_map, refl, ap, ◌∙◌, inl, inr}
use Rattle.std.specs.Prelude.{bytes_eq, codes, is_some}
use Rattle.std.proofs.lemmas.Bool.{cases_Bool, or_parts, or_from, or_right}
use Rattle.bz_tree.specs.declared.tree.GroupKind.TheVariants.{RuleCall}
use Rattle.bz_tree.specs.Tree.{Item, group, Segment, Statement, segs_of}
use Rattle.bz_attribute.specs.Rules.{Rule, rule_of, kind_text, is_named, is_text, first_named, value}
use Rattle.bz_attribute.specs.private.RuleSteps.{call_at}
use Rattle.bz_attribute.specs.Effects.{argument, edit_first, nodes_of, string}
use Rattle.bz_attribute.specs.Reports.{done}
use Rattle.bz_rule.specs.Set.{New, NewStrings, is_list_attribute, is_number, is_constant, new_word, new_of, new_value, is_value, set_in, set, kind_items, with_kind}
use Rattle.bz_rule.specs.Reports.{sets, sets_kind_of}
use Rattle.bz_rule.specs.private.Steps.{kind_after}
use Rattle.bz_attribute.proofs.Calls.{rule_at_end}
use Rattle.bz_rule.proofs.Arguments.{attribute_named, name_put, same_bytes}
use Rattle.bz_laws.proofs.FirstNamed.{first_after}
use Rattle.bz_rule.proofs.Lawfulness.Set.{in_stays, in_value, is_written, kind_read, set_absent, set_present}
use Rattle.bz_laws.proofs.Found.{first_at_end}
use Rattle.bz_attribute.specs.Lists.{only_list}
use Rattle.bz_token.specs.Common.{map_or}
use Rattle.bz_attribute.proofs.Locals.{is_first_named}
use Rattle.bz_rule.proofs.RuleClass.{kind_dotted}

in_named : (attr : List ℕ) (new : New) (a : Segment) → is_named attr a ≡ true → is_named attr (set_in new a) ≡ true
in_named attr new a named = elim (cases_Bool (is_value new (value a))) [
  | inl is ↦ rw is named
  | inr other ↦ rw other (ap (is_text attr) (name_put (new_value new) a (attribute_named attr a named)) ∙ named)
]

pub first_set : (attr : List ℕ) (new : New) (args : List Segment) (a : Segment) → first_named attr args ≡ Some a
    → first_named attr (edit_first (is_named attr) (λ s. set_in new s ∷ []) args) ≡ Some (set_in new a)
first_set attr new args a h = first_after attr (set_in new) args (in_named attr new) ∙ ap (option_map (set_in new)) h

-- the words stand for the same again where the value is what they stood for

word_is_no_list : (word : List ℕ) → is_some (only_list (new_value (new_word word))) ≡ false
word_is_no_list word = elim (cases_Bool (is_number word)) [
  | inl is ↦ rw is refl
  | inr other ↦ elim (cases_Bool (is_constant word)) [
    | inl is ↦ rw (other, is) refl
    | inr string ↦ rw (other, string) refl
  ]
]

one_again : (attr word : List ℕ) (was : Option Segment) (a : Segment) → bytes_eq attr (codes "name") ≡ false → value a ≡ new_value (new_of attr (word ∷ []) was)
    → new_of attr (word ∷ []) (Some a) ≡ new_of attr (word ∷ []) was
one_again attr word was a no_name is = elim (cases_Bool (is_list_attribute attr || map_or false (λ a. is_some (only_list (value a))) was)) [
  | inl list ↦
      let nodes : value a ≡ new_value (NewStrings (word ∷ [])) = rw (no_name, list) at is in
      let one : is_some (only_list (value a)) ≡ true = ap (λ (ns : List Item). is_some (only_list ns)) nodes in
      let either : is_list_attribute attr || is_some (only_list (value a)) ≡ true = or_right (is_list_attribute attr) (is_some (only_list (value a))) one in
      rw (no_name, list, either) refl
  | inr other ↦
      let nodes : value a ≡ new_value (new_word word) = rw (no_name, other) at is in
      let one : is_some (only_list (value a)) ≡ false = ap (λ (ns : List Item). is_some (only_list ns)) nodes ∙ word_is_no_list word in
      let neither : is_list_attribute attr || is_some (only_list (value a)) ≡ false = or_from (is_list_attribute attr) (is_some (only_list (value a))) (or_parts (is_list_attribute attr) (map_or false (λ a. is_some (only_list (value a))) was) other).0 one in
      rw (no_name, other, neither) refl
]

new_again : (attr : List ℕ) (words : List (List ℕ)) (was : Option Segment) (a : Segment) → value a ≡ new_value (new_of attr words was) → new_of attr words (Some a) ≡ new_of attr words was
new_again attr [] was a is = refl
new_again attr (word ∷ []) was a is = elim (cases_Bool (bytes_eq attr (codes "name"))) [
  | inl name ↦ rw name refl
  | inr other ↦ one_again attr word was a other is
]
new_again attr (word ∷ other ∷ words) was a is = refl

set_already : (attr : List ℕ) (words : List (List ℕ)) (was : Option Segment) (a : Segment) → value a ≡ new_value (new_of attr words was) → sets attr words (Some a) ≡ false
set_already attr words was a is = rw (new_again attr words was a is, is, is_written (new_of attr words was)) refl

-- a second time changes nothing
pub set_again : (attr : List ℕ) (words : List (List ℕ)) (args : List Segment) → sets attr words (first_named attr (set attr words args)) ≡ false
set_again attr words args =
    elim (first_named attr args) as (λ r. first_named attr args ≡ r → sets attr words (first_named attr (set attr words args)) ≡ false) [
      | None ↦ λ e.
          let new : List Item = new_value (new_of attr words None) in
          let first : first_named attr (set attr words args) ≡ Some (argument attr new) = ap (first_named attr) (set_absent attr words args e) ∙ first_at_end attr args (argument attr new) e (same_bytes attr) in
          ap (sets attr words) first ∙ set_already attr words None (argument attr new) refl
      | Some a ↦ λ e.
          let new : New = new_of attr words (Some a) in
          let first : first_named attr (set attr words args) ≡ Some (set_in new a) = ap (first_named attr) (set_present attr words args a e) ∙ first_set attr new args a e in
          ap (sets attr words) first ∙ elim (cases_Bool (is_value new (value a))) [
            | inl is ↦ ap (λ (s : Segment). sets attr words (Some s)) (in_stays new a is) ∙ ap not is
            | inr other ↦ set_already attr words (Some a) (set_in new a) (in_value attr new a (is_first_named attr args a e) other)
          ]
    ] refl

rule_again : (kind : List ℕ) (r : Rule) → rule_of (nodes_of (record r { kind = kind_items kind })) ≡ call_at (kind_items kind) (group RuleCall (segs_of r.args) r.one_comma r.end)
rule_again kind r = rule_at_end (kind_items kind) (group RuleCall (segs_of r.args) r.one_comma r.end)

nodes_again : (kind : List ℕ) (nodes : List Item) (r : Option Rule) → rule_of nodes ≡ r → (map_or (done None false) (λ r. done None (not (bytes_eq (kind_text r.kind) kind))) (rule_of (kind_after kind nodes r))).changed ≡ false
nodes_again kind nodes None e = rw e refl
nodes_again kind nodes (Some r) e = elim (cases_Bool (bytes_eq (kind_text r.kind) kind)) [
  | inl is ↦ rw (is, e, is) refl
  | inr other ↦ rw (other, rule_again kind r, kind_dotted kind, kind_read kind, same_bytes kind) refl
]

-- a second time changes nothing
pub set_kind_again : (kind : List ℕ) (slot : Option Statement) → (sets_kind_of kind (option_map (with_kind kind) slot)).changed ≡ false
set_kind_again kind None = refl
set_kind_again kind (Some s) = nodes_again kind s.nodes (rule_of s.nodes) refl
