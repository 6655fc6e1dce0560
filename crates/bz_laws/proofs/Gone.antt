-- `remove` leaves none of what it removes.
use Rattle.std.proofs.Common.{◌≡◌, ℕ, List, [], ◌∷◌, ◌++◌, true, false, ◌||◌, if◌then◌else◌, Option, Some, None, filter, cond, length, ◌≤◌, arith, refl, ap, ◌∙◌, not, ◌&&◌}
use Rattle.std.specs.List.{list_any}
use Rattle.std.proofs.lemmas.Bool.{and_right}
use Rattle.bz_tree.specs.Tree.{Segment}
use Rattle.bz_label.specs.Labels.{Package}
use Rattle.bz_label.specs.declared.arguments.Attributes.TheVariants.{Every, Named}
use Rattle.bz_label.specs.declared.arguments.Chosen.{Chosen}
use Rattle.bz_label.specs.declared.arguments.Chosen.TheVariants.{Values}
use Rattle.bz_attribute.specs.Rules.{is_named, is_text, first_named, value}
use Rattle.bz_attribute.specs.Lists.{edit_parts, is_attribute, parts, with_value}
use Rattle.bz_attribute.specs.Effects.{edit_first, filtered, has, is_chosen, loses_all, unchosen}
use Rattle.bz_attribute.specs.Reports.{chooses}
use Rattle.bz_rule.specs.Remove.{remove, goes_with_all}
use Rattle.bz_rule.proofs.Kept.{none_left_in}
use Rattle.bz_rule.proofs.Arguments.{attribute_named, name_put}
use Rattle.bz_rule.proofs.Lawfulness.Remove.{everywhere_left, parts_put}
use Rattle.bz_token.specs.Common.{map_or}

nothing_chosen : (home : Package) (ss : List Segment) → list_any (is_chosen home (Values [])) ss ≡ false
nothing_chosen home [] = refl
nothing_chosen home (s ∷ ss) = nothing_chosen home ss

nothing_chosen_in : (home : Package) (lists : List (List Segment)) → list_any (list_any (is_chosen home (Values []))) lists ≡ false
nothing_chosen_in home [] = refl
nothing_chosen_in home (ss ∷ lists) = rw (nothing_chosen home ss) (nothing_chosen_in home lists)

no_value : (home : Package) (first : Option Segment) → map_or false (chooses home (Values [])) first ≡ false
no_value home None = refl
no_value home (Some a) = nothing_chosen_in home (parts (value a))

no_value_anywhere : (home : Package) (args : List Segment) → list_any (λ a. is_attribute a && chooses home (Values []) a) args ≡ false
no_value_anywhere home [] = refl
no_value_anywhere home (a ∷ args) = rw (nothing_chosen_in home (parts (value a)), and_right (is_attribute a) false refl) (no_value_anywhere home args)

no_more : (attr : List ℕ) (args : List Segment) → length (filter (is_named attr) args) ≤ 0 → first_named attr args ≡ None
no_more attr [] h = refl
no_more attr (a ∷ args) h =
    elim (is_named attr a) as (λ b. length (cond b (a ∷ filter (is_named attr) args) (filter (is_named attr) args)) ≤ 0 → (if b then Some a else first_named attr args) ≡ None)
    [ true ↦ λ k. absurd (omega arith) | false ↦ λ k. no_more attr args k ] h

-- of the only argument of a name, no element is left that equals a value
values_gone : (home : Package) (attr : List ℕ) (chosen : Chosen) (args : List Segment) → length (filter (is_named attr) args) ≤ 1
    → map_or false (chooses home chosen) (first_named attr (edit_first (is_named attr) (filtered (unchosen home chosen)) args)) ≡ false
values_gone home attr chosen [] h = refl
values_gone home attr chosen (a ∷ args) h =
    let f : List Segment → List Segment = unchosen home chosen in
    elim (is_named attr a) as (λ b. is_named attr a ≡ b → length (cond b (a ∷ filter (is_named attr) args) (filter (is_named attr) args)) ≤ 1
    → map_or false (chooses home chosen) (first_named attr (if b then filtered f a ++ args else a ∷ edit_first (is_named attr) (filtered f) args)) ≡ false) [
      | true ↦ λ e k.
          let attribute : is_attribute a ≡ true = attribute_named attr a e in
          let none : first_named attr args ≡ None = no_more attr args (omega arith) in
          let named : is_named attr (with_value (edit_parts f (value a)) a) ≡ true = ap (is_text attr) (name_put (edit_parts f (value a)) a attribute) ∙ e in
          elim (loses_all f (value a)) as (λ l. (map_or false (chooses home chosen) (first_named attr ((if l then [] else with_value (edit_parts f (value a)) a ∷ []) ++ args))) ≡ false)
          [ true ↦ rw none refl | false ↦ rw (named, parts_put home chosen a attribute) (none_left_in (is_chosen home chosen) (parts (value a))) ]
      | false ↦ λ e k. rw e (values_gone home attr chosen args k)
    ] refl h

pub removed_named : (home : Package) (attr : List ℕ) (values : List (List ℕ)) (args : List Segment) → length (filter (is_named attr) args) ≤ 1
    → map_or false (chooses home (Values values)) (first_named attr (remove home (Named attr) values args)) ≡ false
removed_named home attr [] args h = no_value home (first_named attr (filter (λ a. not (is_named attr a)) args))
removed_named home attr (v ∷ values) args h = values_gone home attr (Values (v ∷ values)) args h

pub removed_everywhere : (home : Package) (values : List (List ℕ)) (args : List Segment) → list_any (λ a. is_attribute a && chooses home (Values values) a) (remove home Every values args) ≡ false
removed_everywhere home [] args = no_value_anywhere home (filter (λ a. not (goes_with_all a)) args)
removed_everywhere home (v ∷ values) args = everywhere_left home (Values (v ∷ values)) args

-- the first argument of a name is edited, and all else stays
pub edited_at : (attr : List ℕ) (f : Segment → List Segment) (front rest : List Segment) (a : Segment) → has attr front ≡ false → is_named attr a ≡ true
    → edit_first (is_named attr) f (front ++ a ∷ rest) ≡ front ++ (f a ++ rest)
edited_at attr f [] rest a h named = rw named refl
edited_at attr f (b ∷ front) rest a h named =
    elim (is_named attr b) as (λ t. t || has attr front ≡ false → (if t then f b ++ (front ++ a ∷ rest) else b ∷ edit_first (is_named attr) f (front ++ a ∷ rest)) ≡ b ∷ (front ++ (f a ++ rest)))
    [ true ↦ λ k. absurd cc | false ↦ λ k. ap (λ (zs : List Segment). b ∷ zs) (edited_at attr f front rest a k named) ] h
