-- The head of a rule, where a command edits another attribute than its name.
use Rattle.std.proofs.Common.{◌≡◌, ◌∙◌, ℕ, List, [], ◌∷◌, ◌++◌, Bool, true, false, ◌||◌, not, drop, filter, if◌then◌else◌, Option, Some, None, is_some, map, option_map, length, ◌+◌, refl, ap, sym, subst, arith, length-append, option_and_then, inl, inr}
use Rattle.std.specs.Prelude.{bytes_eq, codes}
use Rattle.std.proofs.lemmas.Bool.{cases_Bool}
use Rattle.std.proofs.lemmas.Slice.Eq.{bytes_eq-Decides}
use Rattle.bz_token.specs.declared.token.Kind.TheVariants.{Identifier}
use Rattle.bz_tree.specs.Tree.{Item, Segment, Statement, is_operator_item, leaf}
use Rattle.bz_label.specs.Labels.{Package}
use Rattle.bz_label.specs.declared.arguments.Attributes.TheVariants.{Named}
use Rattle.bz_label.specs.declared.arguments.Commented.TheVariants.{Rule as Above, Attribute, Value}
use Rattle.bz_label.specs.declared.arguments.Chosen.{Chosen}
use Rattle.bz_label.specs.declared.arguments.Chosen.TheVariants.{Values}
use Rattle.bz_label.specs.declared.arguments.Setting.TheVariants.{ToKind, ToValues}
use Rattle.bz_attribute.specs.Rules.{Rule, rule_of, kind_text, first_named, is_named, is_text, name_in, name_of, value, string_value}
use Rattle.bz_attribute.specs.Lists.{edit_parts, equals, parts, with_value}
use Rattle.bz_attribute.specs.ListWalk.{edit_first_part, edit_element}
use Rattle.bz_rule.specs.Add.{add}
use Rattle.bz_rule.specs.AddByValue.{add_by_value, new_elements, with_added}
use Rattle.bz_rule.proofs.Adds.{by_value_is}
use Rattle.bz_rule.specs.Comment.{comment_attribute, comment_element, comment_line, comment_note, comment_rule, comment_value}
use Rattle.bz_attribute.specs.Effects.{argument, edit_first, edit_part, filtered, has, is_chosen, list_item, loses_all, nodes_of, unchosen, with_args, with_comment}
use Rattle.bz_attribute.specs.Heads.{HasHead}
use Rattle.bz_attribute.specs.declared.head.Head.{Head}
use Rattle.bz_rule.specs.Move.{arrivals, elements_of, move, move_note, put_in}
use Rattle.bz_rule.specs.Rename.{rename, rename_note, rename_to}
use Rattle.bz_rule.specs.Replace.{replace, replaced, replaced_in}
use Rattle.bz_attribute.specs.RowPlaces.{IsLocal}
use Rattle.bz_rule.specs.Set.{is_value, kind_items, new_of, new_value, set, set_if_absent, set_in, with_kind}
use Rattle.bz_rule.specs.private.Steps.{kind_after}
use Rattle.bz_attribute.proofs.EditedAt.{none_first}
use Rattle.bz_rule.specs.Commands.{Command, args_after}
use Rattle.bz_rule.specs.declared.command.Action.TheVariants.{Add, Comment, Delete, Move, Print, Remove, Rename, Replace, Set, SetIfAbsent}
use Rattle.bz_rule.specs.OneAttribute.{one_attribute}
use Rattle.bz_rule.specs.private.RowEdits.{KeepsHead, edits_arguments, rule_after}
use Rattle.bz_rule.proofs.Arguments.{attribute_named, name_put}
use Rattle.bz_rule.proofs.Lawfulness.{local}
use Rattle.bz_rule.proofs.Lawfulness.Set.{kind_read}
use Rattle.bz_rule.proofs.RuleClass.{kind_dotted}
use Rattle.bz_rule.proofs.RowEdited.{args_rule, none_above}
use Rattle.bz_token.specs.Common.{is_empty, map_or}
use Rattle.bz_attribute.proofs.Locals.{has_first, is_first_named}
use Rattle.bz_attribute.proofs.EditedRules.{nodes_read, rule_after as rule_edited, rule_with}

-- two names that differ, either way round
other_way : (a b : List ℕ) → bytes_eq a b ≡ false → bytes_eq b a ≡ false
other_way a b h = elim (bytes_eq b a) as (λ t. bytes_eq b a ≡ t → t ≡ false) [
  | false ↦ λ e. refl
  | true ↦ λ e. sym ((bytes_eq-Decides a b).1 (sym ((bytes_eq-Decides b a).0 e))) ∙ h
] refl

not_both : (attr n : List ℕ) (o : Option (List ℕ)) → bytes_eq attr n ≡ false → is_text attr o ≡ true → is_text n o ≡ false
not_both attr n None h is = absurd cc
not_both attr n (Some other) h is = ap (bytes_eq n) (sym ((bytes_eq-Decides attr other).0 is)) ∙ other_way attr n h

-- of a name: what comes after others, what stands before them, what stands in place of one of another name
first_before : (n : List ℕ) (args more : List Segment) → has n more ≡ false → first_named n (args ++ more) ≡ first_named n args
first_before n [] more h = none_first n more h
first_before n (x ∷ args) more h = elim (is_named n x) as (λ b. (if b then Some x else first_named n (args ++ more)) ≡ (if b then Some x else first_named n args)) [ true ↦ refl | false ↦ first_before n args more h ]

first_behind : (n : List ℕ) (front args : List Segment) → has n front ≡ false → first_named n (front ++ args) ≡ first_named n args
first_behind n [] args h = refl
first_behind n (x ∷ front) args h =
    elim (is_named n x) as (λ b. b || has n front ≡ false → (if b then Some x else first_named n (front ++ args)) ≡ first_named n args) [ true ↦ λ e. absurd cc | false ↦ λ e. first_behind n front args e ] h

first_beside : (n attr : List ℕ) (f : Segment → List Segment) (args : List Segment) → bytes_eq attr n ≡ false → ((a : Segment) → is_named attr a ≡ true → has n (f a) ≡ false) → first_named n (edit_first (is_named attr) f args) ≡ first_named n args
first_beside n attr f [] h none = refl
first_beside n attr f (x ∷ args) h none =
    elim (is_named attr x) as (λ b. is_named attr x ≡ b → first_named n (if b then f x ++ args else x ∷ edit_first (is_named attr) f args) ≡ first_named n (x ∷ args)) [
      | true ↦ λ e. first_behind n (f x) args (none x e) ∙ sym (ap (λ (b : Bool). if b then Some x else first_named n args) (not_both attr n (name_of x.nodes) h e))
      | false ↦ λ e. elim (is_named n x) as (λ b. (if b then Some x else first_named n (edit_first (is_named attr) f args)) ≡ (if b then Some x else first_named n args))
          [ true ↦ refl | false ↦ first_beside n attr f args h none ]
    ] refl

-- an edit of one attribute that makes none of a name
record MakesNo (n attr : List ℕ) (f : List Segment → List Segment) : Type 0 where
  absent : has n (f []) ≡ false
  there : (a : Segment) → is_named attr a ≡ true → has n (f (a ∷ [])) ≡ false

first_stays : (n attr : List ℕ) (f : List Segment → List Segment) → bytes_eq attr n ≡ false → IsLocal attr f → MakesNo n attr f → (args : List Segment) → first_named n (f args) ≡ first_named n args
first_stays n attr f h law made args =
    elim (first_named attr args) as (λ o. first_named attr args ≡ o → first_named n (f args) ≡ first_named n args) [
      | None ↦ λ e. ap (first_named n) (law.absent args (has_first attr args ∙ ap is_some e)) ∙ first_before n args (f []) made.absent
      | Some a ↦ λ e. ap (first_named n) (law.there args a e) ∙ first_beside n attr (λ x. f (a ∷ [])) args h (λ b is. made.there a (is_first_named attr args a e))
    ] refl

-- one argument, of the same name
same_name : (n attr : List ℕ) (a b : Segment) → bytes_eq attr n ≡ false → is_named attr a ≡ true → name_of b.nodes ≡ name_of a.nodes → has n (b ∷ []) ≡ false
same_name n attr a b h is same = ap (λ (o : Option (List ℕ)). is_text n o || false) same ∙ ap (λ (t : Bool). t || false) (not_both attr n (name_of a.nodes) h is)

put : (n attr : List ℕ) (nodes : List Item) (a : Segment) → bytes_eq attr n ≡ false → is_named attr a ≡ true → has n (with_value nodes a ∷ []) ≡ false
put n attr nodes a h is = same_name n attr a (with_value nodes a) h is (name_put nodes a (attribute_named attr a is))

-- the first and only one, edited
edited : (n attr : List ℕ) (f : Segment → List Segment) (a : Segment) → is_named attr a ≡ true → has n (f a) ≡ false → has n (edit_first (is_named attr) f (a ∷ [])) ≡ false
edited n attr f a is none = ap (λ (b : Bool). has n (if b then f a ++ [] else a ∷ [])) is ∙ first_none (f a) none
  where
    first_none : (xs : List Segment) → has n xs ≡ false → has n (xs ++ []) ≡ false
    first_none [] h = refl
    first_none (x ∷ xs) h = elim (is_named n x) as (λ b. b || has n xs ≡ false → b || has n (xs ++ []) ≡ false) [ true ↦ λ e. e | false ↦ λ e. first_none xs e ] h

new_one : (n attr : List ℕ) → bytes_eq attr n ≡ false → bytes_eq n attr || false ≡ false
new_one n attr h = ap (λ (b : Bool). b || false) (other_way attr n h)

stays : (n attr : List ℕ) (a : Segment) → bytes_eq attr n ≡ false → is_named attr a ≡ true → has n (a ∷ []) ≡ false
stays n attr a h is = same_name n attr a a h is refl

added : (home : Package) (n attr : List ℕ) (values : List (List ℕ)) (a : Segment) → bytes_eq attr n ≡ false → is_named attr a ≡ true → has n (with_added home values a ∷ []) ≡ false
added home n attr values a h is =
    let more : List Item = edit_first_part (λ ss. ss ++ new_elements home (parts (value a)) values) (value a) in
    elim (is_empty (parts (value a))) as (λ b. has n ((if b then a else with_value more a) ∷ []) ≡ false) [ true ↦ stays n attr a h is | false ↦ put n attr more a h is ]

less : (home : Package) (n attr : List ℕ) (f : List Segment → List Segment) (a : Segment) → bytes_eq attr n ≡ false → is_named attr a ≡ true → has n (filtered f a) ≡ false
less home n attr f a h is = elim (loses_all f (value a)) as (λ b. has n (if b then [] else with_value (edit_parts f (value a)) a ∷ []) ≡ false) [ true ↦ refl | false ↦ put n attr (edit_parts f (value a)) a h is ]

set_to : (n attr : List ℕ) (words : List (List ℕ)) (was : Option Segment) (a : Segment) → bytes_eq attr n ≡ false → is_named attr a ≡ true → has n (set_in (new_of attr words was) a ∷ []) ≡ false
set_to n attr words was a h is =
    elim (is_value (new_of attr words was) (value a)) as (λ b. has n ((if b then a else with_value (new_value (new_of attr words was)) a) ∷ []) ≡ false) [ true ↦ stays n attr a h is | false ↦ put n attr (new_value (new_of attr words was)) a h is ]

-- each command on one attribute
no_add : (home : Package) (n attr : List ℕ) (values : List (List ℕ)) → bytes_eq attr n ≡ false → MakesNo n attr (add home attr values)
no_add home n attr values h = subst (MakesNo n attr) (by_value_is home attr values) by_value
  where
    by_value : MakesNo n attr (add_by_value home attr values)
    by_value = record {
      absent = new_one n attr h;
      there = λ a e.
          ap (λ (b : Bool). has n (if b then edit_first (is_named attr) (λ x. with_added home values x ∷ []) (a ∷ []) else (a ∷ []) ++ argument attr (list_item (new_elements home [] values) ∷ []) ∷ [])) (ap (λ (b : Bool). b || false) e)
          ∙ edited n attr (λ x. with_added home values x ∷ []) a e (added home n attr values a h e);
    }

no_less : (home : Package) (n attr : List ℕ) (values : List (List ℕ)) → bytes_eq attr n ≡ false → MakesNo n attr (λ x0. edit_first (is_named attr) (filtered (unchosen home (Values values))) x0)
no_less home n attr values h = record {
  absent = refl;
  there = λ a e. edited n attr (filtered (unchosen home (Values values))) a e (less home n attr (unchosen home (Values values)) a h e);
}

no_set : (n attr : List ℕ) (words : List (List ℕ)) → bytes_eq attr n ≡ false → MakesNo n attr (set attr words)
no_set n attr words h = record {
  absent = new_one n attr h;
  there = λ a e.
      let was : Option Segment = first_named attr (a ∷ []) in
      ap (λ (b : Bool). has n (if b then edit_first (is_named attr) (λ x. set_in (new_of attr words was) x ∷ []) (a ∷ []) else (a ∷ []) ++ argument attr (new_value (new_of attr words was)) ∷ [])) (ap (λ (b : Bool). b || false) e)
      ∙ edited n attr (λ x. set_in (new_of attr words was) x ∷ []) a e (set_to n attr words was a h e);
}

no_set_if_absent : (n attr : List ℕ) (words : List (List ℕ)) → bytes_eq attr n ≡ false → MakesNo n attr (set_if_absent attr words)
no_set_if_absent n attr words h = record {
  absent = new_one n attr h;
  there = λ a e.
      ap (λ (b : Bool). has n (if b then a ∷ [] else (a ∷ []) ++ argument attr (new_value (new_of attr words None)) ∷ [])) (ap (λ (b : Bool). b || false) e) ∙ stays n attr a h e;
}

no_replace : (home : Package) (n attr old new : List ℕ) → bytes_eq attr n ≡ false → MakesNo n attr (replace home (Named attr) old new)
no_replace home n attr old new h = record {
  absent = refl;
  there = λ a e. edited n attr (λ x. replaced_in home old new x ∷ []) a e (put n attr (edit_parts (map (replaced home old new)) (value a)) a h e);
}

no_comment : (n attr text : List ℕ) → bytes_eq attr n ≡ false → MakesNo n attr (comment_attribute attr text)
no_comment n attr text h = record {
  absent = refl;
  there = λ a e. edited n attr (λ x. with_comment (comment_line text) x ∷ []) a e (same_name n attr a (with_comment (comment_line text) a) h e refl);
}

no_comment_value : (home : Package) (n attr v text : List ℕ) → bytes_eq attr n ≡ false → MakesNo n attr (comment_value home attr v text)
no_comment_value home n attr v text h = record {
  absent = refl;
  there = λ a e.
      elim (is_some (comment_note home attr v (a ∷ []))) as (λ b. has n (if b then a ∷ [] else edit_first (is_named attr) (λ x. comment_element home v text x ∷ []) (a ∷ [])) ≡ false)
      [ true ↦ stays n attr a h e | false ↦ edited n attr (λ x. comment_element home v text x ∷ []) a e (put n attr (edit_element (equals home v) (with_comment (comment_line text)) (value a)) a h e) ];
}

-- commands on all arguments of an attribute, or on two attributes
renamed : (n new : List ℕ) (rest : List Item) → bytes_eq new n ≡ false → is_text n (name_of (leaf Identifier new ∷ rest)) || false ≡ false
renamed n new [] h = refl
renamed n new (y ∷ rest) h = elim (is_operator_item (codes "=") y) as (λ b. is_text n (if b then Some new else None) || false ≡ false) [ true ↦ new_one n new h | false ↦ refl ]

beside_renamed : (n old new : List ℕ) (args : List Segment) → bytes_eq old n ≡ false → bytes_eq new n ≡ false → first_named n (rename old new args) ≡ first_named n args
beside_renamed n old new args h g =
    elim (is_some (rename_note old new args)) as (λ b. first_named n (if b then args else edit_first (is_named old) (λ a. rename_to new a ∷ []) args) ≡ first_named n args)
    [ true ↦ refl | false ↦ first_beside n old (λ a. rename_to new a ∷ []) args h (λ a is. renamed n new (drop 1 a.nodes) g) ]

beside_removed : (n attr : List ℕ) (args : List Segment) → bytes_eq attr n ≡ false → first_named n (filter (λ a. not (is_named attr a)) args) ≡ first_named n args
beside_removed n attr [] h = refl
beside_removed n attr (x ∷ args) h =
    let rest : List Segment = filter (λ a. not (is_named attr a)) args in
    elim (is_named attr x) as (λ b. is_named attr x ≡ b → first_named n (if not b then x ∷ rest else rest) ≡ first_named n (x ∷ args)) [
      | true ↦ λ e. beside_removed n attr args h ∙ sym (ap (λ (b : Bool). if b then Some x else first_named n args) (not_both attr n (name_of x.nodes) h e))
      | false ↦ λ e. elim (is_named n x) as (λ b. (if b then Some x else first_named n rest) ≡ (if b then Some x else first_named n args)) [ true ↦ refl | false ↦ beside_removed n attr args h ]
    ] refl

beside_put : (n new : List ℕ) (ss args : List Segment) → bytes_eq new n ≡ false → first_named n (put_in new ss args) ≡ first_named n args
beside_put n new ss args h =
    let nodes : Segment → List Item = λ a. edit_part (λ there. true) (λ there. there ++ ss) (value a) in
    elim (has new args) as (λ b. first_named n (if b then edit_first (is_named new) (λ a. with_value (nodes a) a ∷ []) args else args ++ argument new (list_item ss ∷ []) ∷ []) ≡ first_named n args)
    [ true ↦ first_beside n new (λ a. with_value (nodes a) a ∷ []) args h (λ a is. put n new (nodes a) a h is) | false ↦ first_before n args (argument new (list_item ss ∷ []) ∷ []) (new_one n new h) ]

beside_moved : (home : Package) (n old new : List ℕ) (chosen : Chosen) (args : List Segment) → bytes_eq old n ≡ false → bytes_eq new n ≡ false → first_named n (move home old new chosen args) ≡ first_named n args
beside_moved home n old new chosen args h g =
    let gone : List Segment = edit_first (is_named old) (filtered (unchosen home chosen)) args in
    let leaving : List Segment = filter (is_chosen home chosen) (elements_of (first_named old args)) in
    let came : List Segment = arrivals home (elements_of (first_named new args)) leaving in
    elim (is_some (move_note old new args) || is_empty leaving) as (λ b. first_named n (if b then args else put_in new came gone) ≡ first_named n args)
    [ true ↦ refl | false ↦ beside_put n new came gone g ∙ first_beside n old (filtered (unchosen home chosen)) args h (λ a is. less home n old (unchosen home chosen) a h is) ]

-- the attribute of one is the one that was asked for
of_it : (n name attr : List ℕ) (f : List Segment → List Segment) → Some name ≡ Some attr → bytes_eq attr n ≡ false → (bytes_eq name n ≡ false → MakesNo n name f) → MakesNo n attr f
of_it n name attr f is h made = let same : name ≡ attr = cc in subst (λ (z : List ℕ). MakesNo n z f) same (made (ap (λ (z : List ℕ). bytes_eq z n) same ∙ h))

makes_no : (c : Command) (home : Package) (attr n : List ℕ) → one_attribute c ≡ Some attr → bytes_eq attr n ≡ false → MakesNo n attr (args_after c home)
makes_no (Add name values) home attr n is h = of_it n name attr _ is h (no_add home n name values)
makes_no (Remove (Named name) (value ∷ values)) home attr n is h = of_it n name attr _ is h (no_less home n name (value ∷ values))
makes_no (Set (ToValues name words)) home attr n is h = of_it n name attr _ is h (no_set n name words)
makes_no (SetIfAbsent name words) home attr n is h = of_it n name attr _ is h (no_set_if_absent n name words)
makes_no (Replace (Named name) old new) home attr n is h = of_it n name attr _ is h (no_replace home n name old new)
makes_no (Comment (Attribute name) text) home attr n is h = of_it n name attr _ is h (no_comment n name text)
makes_no (Comment (Value name v) text) home attr n is h = of_it n name attr _ is h (no_comment_value home n name v text)
makes_no _ home attr n is h = absurd cc

edits : (c : Command) (attr : List ℕ) → one_attribute c ≡ Some attr → edits_arguments c ≡ true
edits Delete attr is = absurd cc
edits (Set (ToKind kind)) attr is = absurd cc
edits (Comment Above text) attr is = absurd cc
edits (Print fields) attr is = absurd cc
edits _ attr is = refl

with_head : (f : List Segment → List Segment) (s : Statement) → ((args : List Segment) → first_named (codes "name") (f args) ≡ first_named (codes "name") args) → (head : Option Head) → HasHead head s → HasHead head (with_args f s)
with_head f s same None has = rule_edited f s ∙ ap (option_map (rule_with f)) has
with_head f s same (Some head) has = record {
  rule = rule_with f has.rule;
  is = rule_edited f s ∙ ap (option_map (rule_with f)) has.is;
  kind_is = has.kind_is;
  name_is = has.name_is ∙ sym (ap (option_and_then (λ a. string_value (value a))) (same has.rule.args));
  start_is = has.start_is;
  end_is = has.end_is;
}

name_kept : (c : Command) (home : Package) (attr : List ℕ) → one_attribute c ≡ Some attr → bytes_eq attr (codes "name") ≡ false → (args : List Segment) → first_named (codes "name") (args_after c home args) ≡ first_named (codes "name") args
name_kept c home attr is h = first_stays (codes "name") attr (args_after c home) h (local c home attr is).args (makes_no c home attr (codes "name") is h)

head_beside : (c : Command) (home : Package) (s : Statement) (r : Rule) → edits_arguments c ≡ true → ((args : List Segment) → first_named (codes "name") (args_after c home args) ≡ first_named (codes "name") args) → rule_of s.nodes ≡ Some r
    → KeepsHead 0 s (rule_after c home s)
head_beside c home s r is same rule = record {
  head = λ head has. subst (HasHead head) (sym (args_rule c home s is)) (with_head (args_after c home) s same head has);
  more = none_above c home s r rule;
}

pub head_stays : (c : Command) (home : Package) (attr : List ℕ) (s : Statement) (r : Rule) → one_attribute c ≡ Some attr → bytes_eq attr (codes "name") ≡ false → rule_of s.nodes ≡ Some r → KeepsHead 0 s (rule_after c home s)
head_stays c home attr s r is h rule = head_beside c home s r (edits c attr is) (name_kept c home attr is h) rule

pub renamed_stays : (home : Package) (old new : List ℕ) (s : Statement) (r : Rule) → bytes_eq old (codes "name") ≡ false → bytes_eq new (codes "name") ≡ false → rule_of s.nodes ≡ Some r → KeepsHead 0 s (rule_after (Rename old new) home s)
renamed_stays home old new s r h g rule = head_beside (Rename old new) home s r refl (λ args. beside_renamed (codes "name") old new args h g) rule

pub moved_stays : (home : Package) (old new : List ℕ) (chosen : Chosen) (s : Statement) (r : Rule) → bytes_eq old (codes "name") ≡ false → bytes_eq new (codes "name") ≡ false → rule_of s.nodes ≡ Some r
    → KeepsHead 0 s (rule_after (Move old new chosen) home s)
moved_stays home old new chosen s r h g rule = head_beside (Move old new chosen) home s r refl (λ args. beside_moved home (codes "name") old new chosen args h g) rule

pub removed_stays : (home : Package) (attr : List ℕ) (values : List (List ℕ)) (s : Statement) (r : Rule) → bytes_eq attr (codes "name") ≡ false → rule_of s.nodes ≡ Some r → KeepsHead 0 s (rule_after (Remove (Named attr) values) home s)
removed_stays home attr [] s r h rule = head_beside (Remove (Named attr) []) home s r refl (λ args. beside_removed (codes "name") attr args h) rule
removed_stays home attr (value ∷ values) s r h rule = head_stays (Remove (Named attr) (value ∷ values)) home attr s r refl h rule

-- and where it adds a comment above the rule
commented : (text : List ℕ) (s : Statement) (head : Option Head) → HasHead head s → HasHead head (comment_rule text s)
commented text s None has = has
commented text s (Some head) has = record { rule = has.rule; is = has.is; kind_is = has.kind_is; name_is = has.name_is; start_is = has.start_is; end_is = has.end_is }

pub above_stays : (home : Package) (text : List ℕ) (s : Statement) (r : Rule) → rule_of s.nodes ≡ Some r → KeepsHead 1 s (rule_after (Comment Above text) home s)
above_stays home text s r rule =
    let more : length (map_or s.before (λ r. s.before ++ comment_line text ∷ []) (rule_of s.nodes)) ≡ length s.before + 1 =
    ap (λ (o : Option Rule). length (map_or s.before (λ r. s.before ++ comment_line text ∷ []) o)) rule ∙ length-append s.before (comment_line text ∷ []) in
    record { head = λ head has. commented text s head has; more = omega (arith, more) }

pub name_stays : (c : Command) (home : Package) (attr : List ℕ) (args : List Segment) → one_attribute c ≡ Some attr → bytes_eq attr (codes "name") ≡ false → name_in (args_after c home args) ≡ name_in args
name_stays c home attr args is h = ap (option_and_then (λ a. string_value (value a))) (name_kept c home attr is h args)

-- and so does one that removes or renames another attribute
pub removed_name_stays : (home : Package) (attr : List ℕ) (args : List Segment) → bytes_eq attr (codes "name") ≡ false → name_in (args_after (Remove (Named attr) []) home args) ≡ name_in args
removed_name_stays home attr args h = ap (option_and_then (λ a. string_value (value a))) (beside_removed (codes "name") attr args h)

pub renamed_name_stays : (home : Package) (old new : List ℕ) (args : List Segment) → bytes_eq old (codes "name") ≡ false → bytes_eq new (codes "name") ≡ false → name_in (args_after (Rename old new) home args) ≡ name_in args
renamed_name_stays home old new args h g = ap (option_and_then (λ a. string_value (value a))) (beside_renamed (codes "name") old new args h g)

-- the rule that a statement is once it has this kind
pub record IsOfKind (kind : List ℕ) (s : Statement) (r : Rule) : Type 0 where
  pub rule : Rule
  pub is : rule_of (with_kind kind s).nodes ≡ Some rule
  pub kind_is : kind_text rule.kind ≡ kind
  pub args : rule.args ≡ r.args

kind_nodes : (kind : List ℕ) (s : Statement) (r : Rule) (b : Bool) → rule_of s.nodes ≡ Some r → bytes_eq (kind_text r.kind) kind ≡ b → (with_kind kind s).nodes ≡ (if b then s.nodes else nodes_of (record r { kind = kind_items kind }))
kind_nodes kind s r b is e =
    let other : Rule = record r { kind = kind_items kind } in
    ap (kind_after kind s.nodes) is ∙ ap (λ (same : Bool). if same then s.nodes else nodes_of other) e

pub of_kind : (kind : List ℕ) (s : Statement) (r : Rule) → rule_of s.nodes ≡ Some r → IsOfKind kind s r
of_kind kind s r is =
    let other : Rule = record r { kind = kind_items kind } in
    elim (cases_Bool (bytes_eq (kind_text r.kind) kind)) [
      | inl e ↦ record { rule = r; is = ap rule_of (kind_nodes kind s r true is e) ∙ is; kind_is = (bytes_eq-Decides (kind_text r.kind) kind).0 e; args = refl }
      | inr e ↦ record { rule = other; is = ap rule_of (kind_nodes kind s r false is e) ∙ nodes_read other (kind_dotted kind); kind_is = kind_read kind; args = refl }
    ]
