-- What is owed of `set`, `set_if_absent` and `set kind`: they change something exactly where they say so.
use Rattle.std.proofs.Common.{◌≡◌, ℕ, ◌==◌, List, [], ◌∷◌, ◌++◌, Bool, true, false, not, ◌||◌, Option, None, Some, option_map, is_some, length, map, if◌then◌else◌, refl, ap, sym, ◌∙◌, arith, length-append, append-nil, codes, rules, ◌&&◌, Ok, inl, inr}
use Rattle.std.specs.Prelude.{bytes_eq}
use Rattle.std.specs.List.{slice_split, join_with_byte, list_all}
use Rattle.std.proofs.lemmas.Bool.{not-true, not-false, and_parts, or_parts, cases_Bool}
use Rattle.std.proofs.lemmas.Grind.{flat_map-append}
use Rattle.std.proofs.lemmas.List.Splits.{join_with_byte-slice_split}
use Rattle.bz_tree.specs.declared.tree.GroupKind.TheVariants.{RuleCall}
use Rattle.bz_tree.specs.Tree.{Item, group, Segment, Statement, segs_of}
use Rattle.bz_attribute.specs.Rules.{Rule, rule_of, written, kind_text, is_named, first_named, value}
use Rattle.bz_attribute.specs.Effects.{argument, edit_first, has, holds_rule, nodes_of, string}
use Rattle.bz_attribute.specs.Reports.{done}
use Rattle.bz_rule.specs.Set.{New, NewString, NewNumber, NewConstant, NewStrings, new_of, new_value, is_value, set_in, set, set_if_absent, kind_items, with_kind}
use Rattle.bz_rule.specs.Reports.{sets, sets_kind_of}
use Rattle.bz_rule.specs.private.Steps.{are_strings, kind_after, joined_by_dots}
use Rattle.bz_attribute.proofs.Views.{segments_of}
use Rattle.bz_label.proofs.ReadBack.{quoted_value}
use Rattle.bz_attribute.proofs.RuleNodes.{rule_nodes}
use Rattle.bz_label.specs.declared.arguments.Setting.{Setting}
use Rattle.bz_label.specs.declared.arguments.Setting.TheVariants.{ToKind, ToValues}
use Rattle.bz_rule.specs.declared.command.Action.TheVariants.{Set, SetIfAbsent}
use Rattle.bz_label.specs.Labels.{Package}
use Rattle.bz_rule.proofs.Arguments.{attribute_named, first_differs, first_stays, same_bytes, value_put}
use Rattle.bz_rule.proofs.Local.{looks_at_one, set_local}
use Rattle.bz_rule.proofs.Lawful.{Lawful, on_arguments, passed, held}
use Rattle.bz_label.specs.Names.{is_identifier}
use Rattle.std.specs.Str.{is_utf8}
use Rattle.bz_rule.specs.declared.command.CommandFault.TheVariants.{WrongCount, BadAttribute}
use Rattle.bz_rule.specs.Commands.{Command, IsRead, on_attribute, set_if_absent_of, set_kind_of, set_of}
use Rattle.bz_token.specs.Common.{map_or}
use Rattle.bz_attribute.proofs.Locals.{has_first}
use Rattle.bz_rule.proofs.SetEdits.{set_if_absent_local}

-- what is written is what was meant

strings_are : (words : List (List ℕ)) → are_strings words (map string words) ≡ true
strings_are [] = refl
strings_are (word ∷ words) = rw (quoted_value word, same_bytes word) (strings_are words)

pub is_written : (new : New) → is_value new (new_value new) ≡ true
is_written (NewString word) = rw (quoted_value word) (same_bytes word)
is_written (NewNumber digits) = same_bytes digits
is_written (NewConstant name) = same_bytes name
is_written (NewStrings words) = rw (segments_of (map string words)) (strings_are words)

-- a named argument with another value

pub in_stays : (new : New) (a : Segment) → is_value new (value a) ≡ true → set_in new a ≡ a
in_stays new a is = rw is refl

pub in_value : (attr : List ℕ) (new : New) (a : Segment) → is_named attr a ≡ true → is_value new (value a) ≡ false → value (set_in new a) ≡ new_value new
in_value attr new a named other = rw other (value_put (new_value new) a (attribute_named attr a named))

in_differs : (attr : List ℕ) (new : New) (a : Segment) → is_named attr a ≡ true → is_value new (value a) ≡ false → set_in new a ≡ a → ⊥
in_differs attr new a named other same =
    let kept : value a ≡ new_value new = ap value (sym same) ∙ in_value attr new a named other in
    let clash : false ≡ true = sym other ∙ ap (is_value new) kept ∙ is_written new in
    absurd cc

abbrev is_other : New → Segment → Bool
is_other new a = not (is_value new (value a))

longer : (args : List Segment) (a : Segment) → args ++ a ∷ [] ≡ args → ⊥
longer args a same = absurd (omega (arith, ap length same, length-append args (a ∷ [])))

-- `set`

pub set_present : (attr : List ℕ) (words : List (List ℕ)) (args : List Segment) (a : Segment) → first_named attr args ≡ Some a
    → set attr words args ≡ edit_first (is_named attr) (λ s. set_in (new_of attr words (Some a)) s ∷ []) args
set_present attr words args a h = let there : has attr args ≡ true = has_first attr args ∙ ap is_some h in rw (there, h) refl

pub set_absent : (attr : List ℕ) (words : List (List ℕ)) (args : List Segment) → first_named attr args ≡ None
    → set attr words args ≡ args ++ argument attr (new_value (new_of attr words None)) ∷ []
set_absent attr words args h = let absent : has attr args ≡ false = has_first attr args ∙ ap is_some h in rw (absent, h) refl

-- the mark of change is that of the effect
set_stays : (attr : List ℕ) (words : List (List ℕ)) (args : List Segment) → sets attr words (first_named attr args) ≡ false → set attr words args ≡ args
set_stays attr words args h =
    elim (first_named attr args) as (λ r. first_named attr args ≡ r → sets attr words r ≡ false → set attr words args ≡ args) [
      | None ↦ λ e k. absurd cc
      | Some a ↦ λ e k. set_present attr words args a e
          ∙ first_stays attr (is_other (new_of attr words (Some a))) (λ s. set_in (new_of attr words (Some a)) s ∷ [])
          (λ s n. ap (λ (z : Segment). z ∷ []) (in_stays (new_of attr words (Some a)) s (not-false _ n))) args (ap (map_or false (is_other (new_of attr words (Some a)))) e ∙ k)
    ] refl h

set_differs : (attr : List ℕ) (words : List (List ℕ)) (args : List Segment) → sets attr words (first_named attr args) ≡ true → set attr words args ≡ args → ⊥
set_differs attr words args h same =
    elim (first_named attr args) as (λ r. first_named attr args ≡ r → sets attr words r ≡ true → ⊥) [
      | None ↦ λ e k. longer args (argument attr (new_value (new_of attr words None))) (sym (set_absent attr words args e) ∙ same)
      | Some a ↦ λ e k. first_differs attr (is_other (new_of attr words (Some a))) (λ s. set_in (new_of attr words (Some a)) s ∷ [])
          (λ s named n stays. let kept : set_in (new_of attr words (Some a)) s ≡ s = cc in in_differs attr (new_of attr words (Some a)) s named (not-true _ n) kept) args
          (ap (map_or false (is_other (new_of attr words (Some a)))) e ∙ k) (sym (set_present attr words args a e) ∙ same)
    ] refl h

-- `set_if_absent`

set_if_absent_stays : (attr : List ℕ) (words : List (List ℕ)) (args : List Segment) → not (has attr args) ≡ false → set_if_absent attr words args ≡ args
set_if_absent_stays attr words args h = rw (not-false _ h) refl

set_if_absent_differs : (attr : List ℕ) (words : List (List ℕ)) (args : List Segment) → not (has attr args) ≡ true → set_if_absent attr words args ≡ args → ⊥
set_if_absent_differs attr words args h same =
    let absent : has attr args ≡ false = not-true _ h in
    let added : set_if_absent attr words args ≡ args ++ argument attr (new_value (new_of attr words None)) ∷ [] = rw absent refl in
    longer args (argument attr (new_value (new_of attr words None))) (sym added ∙ same)

-- `set kind`

joined_text : (names : List (List ℕ)) → kind_text (joined_by_dots names) ≡ join_with_byte 46 names
joined_text [] = refl
joined_text (name ∷ []) = append-nil name
joined_text (name ∷ other ∷ names) = ap (λ (bytes : List ℕ). name ++ 46 ∷ bytes) (joined_text (other ∷ names))

-- the tokens of a kind have its text
pub kind_read : (kind : List ℕ) → kind_text (kind_items kind) ≡ kind
kind_read kind = joined_text (slice_split (λ b. b == 46) kind) ∙ join_with_byte-slice_split 46 kind

-- the call has no text
rule_text : (r : Rule) → kind_text (nodes_of r) ≡ kind_text r.kind
rule_text r = flat_map-append written r.kind (group RuleCall (segs_of r.args) r.one_comma r.end ∷ []) ∙ append-nil (kind_text r.kind)

nodes_stay : (kind : List ℕ) (nodes : List Item) (r : Option Rule) → (map_or (done None false) (λ r. done None (not (bytes_eq (kind_text r.kind) kind))) r).changed ≡ false → kind_after kind nodes r ≡ nodes
nodes_stay kind nodes None h = refl
nodes_stay kind nodes (Some r) h = rw (not-false _ h) refl

nodes_differ : (kind : List ℕ) (nodes : List Item) (r : Option Rule) → rule_of nodes ≡ r → (map_or (done None false) (λ r. done None (not (bytes_eq (kind_text r.kind) kind))) r).changed ≡ true → kind_after kind nodes r ≡ nodes → ⊥
nodes_differ kind nodes None e h same = absurd cc
nodes_differ kind nodes (Some r) e h same =
    let other : bytes_eq (kind_text r.kind) kind ≡ false = not-true _ h in
    let made : nodes_of (record r { kind = kind_items kind }) ≡ nodes = rw other at same in
    let old : kind_text nodes ≡ kind_text r.kind = ap kind_text (sym (rule_nodes nodes r e)) ∙ rule_text r in
    let new : kind_text nodes ≡ kind = ap kind_text (sym made) ∙ rule_text (record r { kind = kind_items kind }) ∙ kind_read kind in
    let clash : true ≡ false = sym (same_bytes kind) ∙ ap (λ (bytes : List ℕ). bytes_eq bytes kind) (sym new ∙ old) ∙ other in
    absurd cc

set_kind_stays : (kind : List ℕ) (slot : Option Statement) → (sets_kind_of kind slot).changed ≡ false → option_map (with_kind kind) slot ≡ slot
set_kind_stays kind None h = refl
set_kind_stays kind (Some s) h = ap (λ (nodes : List Item). Some (record s { nodes = nodes })) (nodes_stay kind s.nodes (rule_of s.nodes) h)

set_kind_differs : (kind : List ℕ) (slot : Option Statement) → (sets_kind_of kind slot).changed ≡ true → option_map (with_kind kind) slot ≡ slot → ⊥
set_kind_differs kind None h same = absurd cc
set_kind_differs kind (Some s) h same =
    let one : with_kind kind s ≡ s = cc in
    nodes_differ kind s.nodes (rule_of s.nodes) refl h (ap (λ (z : Statement). z.nodes) one)

kind_noted : (kind : List ℕ) (slot : Option Statement) → is_some (sets_kind_of kind slot).note ≡ true → (sets_kind_of kind slot).changed ≡ false
kind_noted kind None h = refl
kind_noted kind (Some s) h = elim (rule_of s.nodes) as (λ r. is_some (map_or (done None false) (λ r. done None (not (bytes_eq (kind_text r.kind) kind))) r).note ≡ true → (map_or (done None false) (λ r. done None (not (bytes_eq (kind_text r.kind) kind))) r).changed ≡ false) [ None ↦ λ k. refl | Some r ↦ λ k. absurd cc ] h

kind_no_rule : (kind : List ℕ) (slot : Option Statement) → holds_rule slot ≡ false → (sets_kind_of kind slot).changed ≡ false
kind_no_rule kind None h = refl
kind_no_rule kind (Some s) h = elim (rule_of s.nodes) as (λ r. is_some r ≡ false → (map_or (done None false) (λ r. done None (not (bytes_eq (kind_text r.kind) kind))) r).changed ≡ false) [ None ↦ λ k. refl | Some r ↦ λ k. absurd cc ] h

pub set_lawful : (home : Package) (setting : Setting) → Lawful (Set setting) home
set_lawful home (ToKind kind) = record {
  stays = λ slot h. set_kind_stays kind slot h;
  differs = λ read slot h same. set_kind_differs kind slot h same;
  noted = λ slot h. kind_noted kind slot h;
  no_rule = λ slot h. kind_no_rule kind slot h;
  local = tt;
}
set_lawful home (ToValues attr words) = on_arguments (Set (ToValues attr words)) home (λ slot. refl) (λ slot. refl) (record {
  stays = λ args h. set_stays attr words args h;
  differs = λ read args h same. set_differs attr words args h same;
  noted = λ args h. absurd cc;
  local = record { args = set_local attr words; told = looks_at_one attr _ (λ o. done None (sets attr words o)) (λ args. refl); slot = λ s. refl; done = λ s. refl };
})

pub set_if_absent_lawful : (home : Package) (attr : List ℕ) (words : List (List ℕ)) → Lawful (SetIfAbsent attr words) home
set_if_absent_lawful home attr words = on_arguments (SetIfAbsent attr words) home (λ slot. refl) (λ slot. refl) (record {
  stays = λ args h. set_if_absent_stays attr words args h;
  differs = λ read args h same. set_if_absent_differs attr words args h same;
  noted = λ args h. absurd cc;
  local = record { args = set_if_absent_local attr words; told = looks_at_one attr _ (λ o. done None (not (is_some o))) (λ args. ap (λ (b : Bool). done None (not b)) (has_first attr args)); slot = λ s. refl; done = λ s. refl };
})

-- What is read of words that are UTF-8 can be read, and its words are UTF-8.
set_kind_read : (words : List (List ℕ)) (c : Command) → Ok c ≡ set_kind_of words → list_all is_utf8 words ≡ true → IsRead c
set_kind_read [] c h u = absurd (cc)
set_kind_read (kind ∷ words) c h u = search rules

pub set_read : (words : List (List ℕ)) (c : Command) → Ok c ≡ set_of words → list_all is_utf8 words ≡ true → IsRead c
set_read [] c h u = absurd (cc)
set_read (attr ∷ values) c h u =
    let right = passed (length values == 0 || (bytes_eq attr (codes "name") || bytes_eq attr (codes "kind")) && not (length values == 1)) WrongCount (if bytes_eq attr (codes "kind") then set_kind_of values else on_attribute attr (Set (ToValues attr values))) c h in
    elim (cases_Bool (bytes_eq attr (codes "kind"))) [
      | inl kind ↦ set_kind_read values c (rw kind at right.1) (and_parts (is_utf8 attr) (list_all is_utf8 values) u).1
      | inr other ↦
          let named = held (is_identifier attr) BadAttribute (Set (ToValues attr values)) c (rw other at right.1) in
          rw named.1 (record { command = rw (named.0, (or_parts (length values == 0) ((bytes_eq attr (codes "name") || bytes_eq attr (codes "kind")) && not (length values == 1)) right.0).0) refl; words = u })
    ]

pub set_if_absent_read : (words : List (List ℕ)) (c : Command) → Ok c ≡ set_if_absent_of words → list_all is_utf8 words ≡ true → IsRead c
set_if_absent_read [] c h u = absurd (cc)
set_if_absent_read (attr ∷ values) c h u = search rules
